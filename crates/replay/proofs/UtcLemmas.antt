-- Years and months one after the other.
use Rattle.std.proofs.Common.{◌≡◌, ◌∙◌, ◌+◌, ◌-◌, ℕ, suc, nat_lt, false, ap}
use Rattle.std.proofs.lemmas.Bool.{cond-false}
use Rattle.replay.specs.Utc.{days_in_month, days_in_year, month_behind, year_behind}
use Rattle.replay.specs.declared.utc.DaysBehind.{DaysBehind}

-- the year is a later one
pub later_year : (left k year days : ℕ) → left ≡ suc k → nat_lt days (days_in_year year) ≡ false
    → year_behind left year days ≡ year_behind k (year + 1) (days - days_in_year year)
later_year left k year days is past =
    ap (λ (n : ℕ). year_behind n year days) is
    ∙ cond-false (nat_lt days (days_in_year year)) (record { number = year; days = days }) (year_behind k (year + 1) (days - days_in_year year)) past

pub later_month : (left k year month days : ℕ) → left ≡ suc k → nat_lt days (days_in_month year month) ≡ false
    → month_behind left year month days ≡ month_behind k year (month + 1) (days - days_in_month year month)
later_month left k year month days is past =
    ap (λ (n : ℕ). month_behind n year month days) is
    ∙ cond-false (nat_lt days (days_in_month year month)) (record { number = month; days = days })
    (month_behind k year (month + 1) (days - days_in_month year month)) past
