-- The handle and the parts of a box own what the box owns.
use mir.Syntax.{impl, tnil, dnil}
use mathlib.Core.List.{[]}
use denote.Signature.{Slot, plain}
use Rattle.std_alloc.proofs.BoxSteps.Form.{Bx}
use Rattle.std_heap.specs.contracts.Global as Heap
use Rattle.std_heap.specs.contracts.GlobalAllocator.TheImpl.{ghosts, dict}
use Rattle.std_heap.proofs.Global.TheLaws as heap
use Rattle.bounding_set.specs.contracts.bounds.Bounds as Bounds
use Rattle.bounding_set.proofs.bounds.Bounds.TheLaws as bounds
use Rattle.tmmbr_c.specs.contracts.parts.Parts as Parts
use Rattle.tmmbr_c.specs.contracts.handle.Handle as Handle

abbrev pub E : Bx
E = record { row = Bounds.the_row; laws = bounds.the_row_laws; al = record { row = Heap.the_row; laws = heap.the_row_laws; g = ghosts; d = dict; drops = impl [] tnil dnil } }

abbrev pub FromParts : Slot 0
FromParts = plain (λ _. Parts.the_row Bounds.the_row Heap.the_row ghosts)

abbrev pub FromHandle : Slot 0
FromHandle = plain (λ _. Handle.the_row)
