-- What a handle owns: a box of live requests, or nothing.
use base.Fml.{Fml, ftrue}
use base.Stored.{Coded}
use denote.RawPtr.{Ptr}
use Rattle.std.specs.Prelude.{Option, Some, None}
use Rattle.std.specs.Coded.{coded_option}
use Rattle.std.specs.Box.Ownership.{box_owns}
use Rattle.std.specs.Global.{Global}
use Rattle.std_heap.specs.contracts.GlobalAllocator.TheImpl.{ghosts}
use Rattle.bounding_set.specs.contracts.bounds.Bounds.{the_row}
use Rattle.bounding_set.specs.State.{State}

-- what a state owns: a box of live requests, or nothing
abbrev pub held_owns : Global → Ptr → Option State → Fml
held_owns alloc at None = ftrue
held_owns alloc at (Some s) = box_owns (ghosts.dealloc_token alloc) the_row at s

abbrev pub held_coded : Coded (Option State)
held_coded = coded_option the_row.coded
