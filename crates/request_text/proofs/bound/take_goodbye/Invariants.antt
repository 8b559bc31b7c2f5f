use Rattle.std.proofs.Common.{◌≡◌, List, map}
use Rattle.rtcp_compound.specs.Content.{sources_left}
use Rattle.request_text.specs.Asked.{leaves}
use Rattle.request_text.specs.Lines.{Asked, AreRowsOf, after_changes}
use Rattle.request_text.proofs.bound.take_goodbye.Given as goal

abbrev pub invariant-loop-source : goal.invariant-loop-source
invariant-loop-source l = (live : List Asked) → AreRowsOf live l.fn.bounds.rows
    → (now : List Asked) × AreRowsOf now l.bounds.rows
    × (after_changes (map leaves (sources_left l.fn.sources)) live ≡ after_changes (map leaves (sources_left l.source-iterator)) now)
