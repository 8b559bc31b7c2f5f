-- What those who follow are told of what is refused for the first time.
use Rattle.std.specs.Prelude.{◌++◌, ℕ, Bool, List, [], codes, if◌then◌else◌}
use Rattle.std.specs.List.{list_any}
use Rattle.events.specs.declared.output.Refusal.{Refusal}
use Rattle.stats.specs.declared.refusals.RefusedCount.{RefusedCount}
use Rattle.stats.specs.Refusals.{reason_part, reason_words, whose_word}

abbrev pub news_start : RefusedCount → List ℕ
news_start c = codes "refused " ++ (whose_word c.endpoint ++ reason_part c.refusal)

abbrev pub news_end : Refusal → List ℕ
news_end r = codes ": " ++ (reason_words r ++ codes "\n")

-- whose datagrams, what refused them, the reason's number, and the reason in words
abbrev pub news_line : RefusedCount → List ℕ
news_line c = news_start c ++ news_end c.refusal

-- The line of a count of an endpoint, unless one of the endpoint's counts before is of the same reason.
abbrev pub refusal_news : (Refusal → Refusal → Bool) → List RefusedCount → RefusedCount → List ℕ
refusal_news same before c =
    if list_any (λ (b : RefusedCount). same b.refusal c.refusal) before then [] else news_line c
