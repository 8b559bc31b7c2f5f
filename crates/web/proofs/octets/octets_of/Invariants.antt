use Rattle.std.proofs.Common.{◌≡◌, drop}
use Rattle.web.specs.Octets.{octets_of}
use Rattle.web.proofs.octets.octets_of.Given as goal

abbrev pub invariant-loop-count : goal.invariant-loop-count
invariant-loop-count l = octets_of l.flows l.flow ≡ octets_of (drop l.count-index l.flows) l.flow
