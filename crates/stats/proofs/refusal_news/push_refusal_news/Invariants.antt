use Rattle.std.proofs.Common.{◌≡◌, ◌++◌, take}
use Rattle.std.specs.Prelude.{flat_map}
use Rattle.std.specs.String.{string_bytes}
use Rattle.events.specs.contracts.output.RefusalPartialEq.TheImpl.{eq-value}
use Rattle.stats.specs.RefusalNews.{refusal_news}
use Rattle.stats.proofs.refusal_news.push_refusal_news.Given as goal

abbrev pub invariant-loop-count : goal.invariant-loop-count
invariant-loop-count l =
    string_bytes l.text ≡ string_bytes l.fn.text ++ flat_map (refusal_news eq-value.it l.before) (take l.count-index l.after)
