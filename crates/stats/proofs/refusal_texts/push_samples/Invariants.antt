use Rattle.std.proofs.Common.{◌≡◌, ◌++◌, take}
use Rattle.std.specs.Prelude.{flat_map}
use Rattle.std.specs.String.{string_bytes}
use Rattle.stats.specs.Refusals.{refused_sample}
use Rattle.stats.proofs.refusal_texts.push_samples.Given as goal

abbrev pub invariant-loop-count : goal.invariant-loop-count
invariant-loop-count l = string_bytes l.text ≡ string_bytes l.fn.text ++ flat_map (refused_sample l.subjects) (take l.count-index l.counts)
