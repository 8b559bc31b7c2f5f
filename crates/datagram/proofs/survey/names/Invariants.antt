use Rattle.std.proofs.Common.{◌≡◌}
use Rattle.std.specs.Prelude.{◌==◌}
use Rattle.std.specs.List.{list_any}
use Rattle.rtcp_compound.specs.Content.{sources_left}
use Rattle.datagram.proofs.survey.names.Given as goal

abbrev pub invariant-loop-source : goal.invariant-loop-source
invariant-loop-source l =
    list_any (λ s. s == l.own.0) (sources_left l.fn.sources) ≡ list_any (λ s. s == l.own.0) (sources_left l.source-iterator)
