use Rattle.std.proofs.Common.{◌≡◌, ◌∙◌, ◌+◌, ◌-◌, ◌≤◌, ℕ, suc, sym, ap, arith, subst}
use Rattle.std.proofs.lemmas.Bool.{le-ltb}
use Rattle.replay.specs.Utc.{days_in_month, month_behind}
use Rattle.replay.proofs.UtcLemmas.{later_month}
use Rattle.replay.proofs.utc.+month_behind.Goals as goal

pub returns-clause-value : goal.returns-clause-value
returns-clause-value t c =
    let some : c.args.left ≡ suc (c.args.left - 1) = omega (arith, c.if-left-eq0.false) in
    let length = c.days_in_month-length.ensures in
    let past : days_in_month c.args.year c.args.month ≤ c.args.days = subst (λ (n : ℕ). n ≤ c.args.days) length (omega (arith, c.if-days-length.false)) in
    c.month_behind.ensures.value
    ∙ (ap (λ (n : ℕ). month_behind (c.args.left - 1) c.args.year (c.args.month + 1) (c.args.days - n)) length
    ∙ sym (later_month c.args.left (c.args.left - 1) c.args.year c.args.month c.args.days some (le-ltb _ _ past)))
