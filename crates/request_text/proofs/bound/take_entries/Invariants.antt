use Rattle.std.proofs.Common.{◌≡◌, List}
use Rattle.rtcp_feedback.specs.Reading.{entries_left}
use Rattle.request_text.specs.Asked.{requests_of}
use Rattle.request_text.specs.Lines.{Asked, AreRowsOf, after_changes}
use Rattle.request_text.proofs.bound.take_entries.Given as goal

abbrev pub invariant-loop-entry : goal.invariant-loop-entry
invariant-loop-entry l = (live : List Asked) → AreRowsOf live l.fn.bounds.rows
    → (now : List Asked) × AreRowsOf now l.bounds.rows
    × (after_changes (requests_of l.media.0 l.owner.0 (entries_left l.fn.entries)) live
    ≡ after_changes (requests_of l.media.0 l.owner.0 (entries_left l.entry-iterator)) now)
