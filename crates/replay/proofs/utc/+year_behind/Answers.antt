use Rattle.std.proofs.Common.{◌≡◌, ◌∙◌, ◌+◌, ◌-◌, ◌≤◌, ℕ, suc, sym, ap, arith, subst}
use Rattle.std.proofs.lemmas.Bool.{le-ltb}
use Rattle.replay.specs.Utc.{days_in_year, year_behind}
use Rattle.replay.proofs.UtcLemmas.{later_year}
use Rattle.replay.proofs.utc.+year_behind.Goals as goal

pub returns-clause-value : goal.returns-clause-value
returns-clause-value t c =
    let some : c.args.left ≡ suc (c.args.left - 1) = omega (arith, c.if-left-eq0.false) in
    let length = c.days_in_year-length.ensures in
    let past : days_in_year c.args.year ≤ c.args.days = subst (λ (n : ℕ). n ≤ c.args.days) length (omega (arith, c.if-days-length.false)) in
    c.year_behind.ensures.value
    ∙ (ap (λ (n : ℕ). year_behind (c.args.left - 1) (c.args.year + 1) (c.args.days - n)) length
    ∙ sym (later_year c.args.left (c.args.left - 1) c.args.year c.args.days some (le-ltb _ _ past)))
