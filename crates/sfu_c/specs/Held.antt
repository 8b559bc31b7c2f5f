-- What a handle owns: a box of a conference, or nothing.
use base.Fml.{Fml, ftrue}
use base.Stored.{Coded}
use denote.RawPtr.{Ptr}
use Rattle.std.specs.Prelude.{Option, Some, None}
use Rattle.std.specs.Coded.{coded_option}
use Rattle.std.specs.Box.Ownership.{box_owns}
use Rattle.std.specs.Global.{Global}
use Rattle.std_heap.specs.contracts.GlobalAllocator.TheImpl.{ghosts}
use Rattle.conference.specs.contracts.conference.Conference.{the_row}
use Rattle.conference.specs.Conference.{ConferenceState}

-- what a handle owns by what it holds: nothing, or a box of the conference
abbrev pub held_owns : Global → Ptr → Option ConferenceState → Fml
held_owns alloc at None = ftrue
held_owns alloc at (Some c) = box_owns (ghosts.dealloc_token alloc) the_row at c

abbrev pub held_coded : Coded (Option ConferenceState)
held_coded = coded_option the_row.coded
