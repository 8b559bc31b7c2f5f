use Rattle.std.proofs.Common.{◌≡◌, List}
use Rattle.rtcp_compound.specs.Left.{contents_left}
use Rattle.request_text.specs.Asked.{AskTogether, Change}
use Rattle.request_text.specs.Lines.{Asked, AreRowsOf, after_changes}
use Rattle.request_text.proofs.bound.take_packets.Given as goal

abbrev pub invariant-loop-packet : goal.invariant-loop-packet
invariant-loop-packet l = (changes : List Change) (live : List Asked) → AskTogether l.media.0 (contents_left l.fn.packets) changes
    → AreRowsOf live l.fn.bounds.rows
    → (rest : List Change) × (now : List Asked) × AskTogether l.media.0 (contents_left l.packet-iterator) rest × AreRowsOf now l.bounds.rows
    × (after_changes changes live ≡ after_changes rest now)
