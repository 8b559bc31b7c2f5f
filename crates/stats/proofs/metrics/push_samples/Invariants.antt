use Rattle.std.proofs.Common.{◌≡◌, ◌++◌, take}
use Rattle.std.specs.Prelude.{flat_map}
use Rattle.std.specs.String.{string_bytes}
use Rattle.stats.specs.Metrics.{sample_line}
use Rattle.stats.proofs.metrics.push_samples.Given as goal

abbrev pub invariant-loop-sample : goal.invariant-loop-sample
invariant-loop-sample l = string_bytes l.text ≡ string_bytes l.fn.text ++ flat_map (sample_line l.metric.name.now l.subjects) (take l.sample-index l.samples)
