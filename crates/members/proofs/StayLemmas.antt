-- Orders one after another, legs one after another, endpoints one after another.
use Rattle.std.proofs.Common.{◌≡◌, ℕ, zero, suc, ◌+◌, ◌<◌, ◌≤◌, List, [], ◌∷◌, length, take, get_or, refl, ap, ◌∙◌, arith, Some, None, Bool, true, false, inl, inr}
use Rattle.std.specs.Prelude.{◌||◌, min, nat_le, nat_lt, Option, All}
use Rattle.std.specs.List.{list_any}
use Rattle.std.specs.Option.{option_map_or}
use Rattle.std.proofs.lemmas.List.{take_all, take_more}
use Rattle.std.proofs.lemmas.List.Elements.{All-push}
use Rattle.members.specs.declared.presence.Endpoint.{Endpoint}
use Rattle.members.specs.declared.stays.LegStay.{LegStay}
use Rattle.std.proofs.lemmas.Bool.{cases_lt}
use Rattle.std.proofs.lemmas.Bool.Decides.{nat_tests}
use Rattle.std.proofs.lemmas.List.Folds.{list_any_kept, list_any_more}
use Rattle.members.specs.declared.presence.TheConstants.{LAST_MOMENT}
use Rattle.members.specs.Presence.{NobodyOverdue, is_overdue, is_overdue_at, is_present_at}
use Rattle.members.specs.Stays.{Told, without_orders, leaving, leave_if_overdue, after_overdue}

-- ---- endpoints

-- nobody is overdue
pub never_overdue_at : (timeout moment : ℕ) (es : List Endpoint) (n : ℕ) → All (λ e. is_overdue timeout moment e ≡ false) es
    → is_overdue_at timeout moment es n ≡ false
unfolding is_overdue_at
never_overdue_at timeout moment [] n quiet = refl
never_overdue_at timeout moment (e ∷ es) zero quiet = quiet 0 e (omega arith)
never_overdue_at timeout moment (e ∷ es) (suc n) quiet = never_overdue_at timeout moment es n (λ k d below. quiet (suc k) d (omega arith))

pub left_quiet : (timeout moment : ℕ) (t : Told) (n : ℕ) → All (λ e. is_overdue timeout moment e ≡ false) t.endpoints
    → after_overdue timeout moment t n ≡ t
left_quiet timeout moment t zero quiet = refl
left_quiet timeout moment t (suc n) quiet =
    ap (leave_if_overdue timeout moment n) (left_quiet timeout moment t n quiet)
    ∙ rw (never_overdue_at timeout moment t.endpoints n quiet) refl

pub quiet_more : (timeout moment : ℕ) (es : List Endpoint) (k : ℕ) (d : Endpoint) → k < length es
    → All (λ e. is_overdue timeout moment e ≡ false) (take k es) → is_overdue timeout moment (get_or es k d) ≡ false
    → All (λ e. is_overdue timeout moment e ≡ false) (take (k + 1) es)
quiet_more timeout moment es k d below before here =
    rw (take_more es k d below) (All-push (λ e. is_overdue timeout moment e ≡ false) (take k es) (get_or es k d) before here)

-- if nobody is overdue nobody leaves
pub leaving_quiet : (timeout moment : ℕ) (es : List Endpoint) (ls : List LegStay) → All (λ e. is_overdue timeout moment e ≡ false) es
    → leaving timeout moment es ls ≡ without_orders es ls
unfolding leaving
leaving_quiet timeout moment es ls quiet = left_quiet timeout moment (without_orders es ls) (length es) quiet

pub quiet_all : (timeout moment : ℕ) (es : List Endpoint) (k : ℕ) → length es ≤ k
    → All (λ e. is_overdue timeout moment e ≡ false) (take k es) → All (λ e. is_overdue timeout moment e ≡ false) es
quiet_all timeout moment es k over before = rw (take_all k es over) at before

-- ---- the first moment at which somebody is overdue

pub overdue_more : (timeout : ℕ) (es : List Endpoint) (k : ℕ) (d : Endpoint) (first here least : ℕ) → k < length es → least ≡ min first here
    → (first < LAST_MOMENT → list_any (is_overdue timeout first) (take k es) ≡ true)
    → (here < LAST_MOMENT → is_overdue timeout here (get_or es k d) ≡ true)
    → least < LAST_MOMENT → list_any (is_overdue timeout least) (take (k + 1) es) ≡ true
overdue_more timeout es k d first here least below is before now bound = elim (cases_lt here first) [
  | inl less ↦ (let same : least ≡ here = omega arith in
      rw (same, list_any_more (is_overdue timeout here) es k d below)
      (ap (λ b. list_any (is_overdue timeout here) (take k es) || b) (now (omega arith)) ∙ or_true (list_any (is_overdue timeout here) (take k es))))
  | inr more ↦ (let same : least ≡ first = omega arith in
      rw same (list_any_kept (is_overdue timeout first) es k (before (omega arith))))
]
  where
    or_true : (b : Bool) → (b || true) ≡ true
    or_true true = refl
    or_true false = refl

pub overdue_all : (timeout : ℕ) (es : List Endpoint) (k first : ℕ) → length es ≤ k
    → (first < LAST_MOMENT → list_any (is_overdue timeout first) (take k es) ≡ true)
    → first < LAST_MOMENT → list_any (is_overdue timeout first) es ≡ true
overdue_all timeout es k first over before bound = rw (take_all k es over) at (before bound)

-- who is overdue stays so
heard_later : (timeout first moment : ℕ) (heard : Option ℕ) → first ≤ moment
    → option_map_or (λ h. nat_le (h + timeout) first) heard false ≡ true → option_map_or (λ h. nat_le (h + timeout) moment) heard false ≡ true
heard_later timeout first moment None more is = is
heard_later timeout first moment (Some h) more is = later timeout first moment h more is
  where
    later : (timeout first moment h : ℕ) → first ≤ moment → nat_le (h + timeout) first ≡ true → nat_le (h + timeout) moment ≡ true
    later timeout first moment h more is = grind (arith, nat_tests)

never_reached : (timeout first moment : ℕ) (es : List Endpoint) → first ≤ moment → list_any (is_overdue timeout first) es ≡ true
    → NobodyOverdue timeout moment es → ⊥
never_reached timeout first moment [] more reached nobody = cc
never_reached timeout first moment (e ∷ es) more reached nobody =
    step (is_overdue timeout first e) refl reached
    (λ rest. never_reached timeout first moment es more rest (λ k d below. nobody (suc k) d (omega arith)))
  where
    step : (b : Bool) → is_overdue timeout first e ≡ b → (b || list_any (is_overdue timeout first) es) ≡ true
        → (list_any (is_overdue timeout first) es ≡ true → ⊥) → ⊥
    step true is any rest =
        let later : is_overdue timeout moment e ≡ true = heard_later timeout first moment e.heard more is in
        let never : is_overdue timeout moment e ≡ false = nobody 0 e (omega arith) in
        cc
    step false is any rest = rest any

less_than : (a b : ℕ) → a < b → nat_lt a b ≡ true
less_than a b less = grind (arith, nat_tests)

-- so if nobody is overdue the first moment is still to come
pub still_to_come : (timeout first moment : ℕ) (es : List Endpoint) → (first < LAST_MOMENT → list_any (is_overdue timeout first) es ≡ true)
    → moment < LAST_MOMENT → NobodyOverdue timeout moment es → nat_lt moment first ≡ true
still_to_come timeout first moment es reached bound nobody = elim (cases_lt moment first) [
  | inl less ↦ less_than moment first less
  | inr more ↦ absurd (never_reached timeout first moment es more (reached (omega arith)) nobody)
]

-- ---- who is present is known

pub absent_beyond : (es : List Endpoint) (k : ℕ) → length es ≤ k → is_present_at es k ≡ false
unfolding is_present_at
absent_beyond [] k over = refl
absent_beyond (e ∷ es) zero over = absurd (omega arith)
absent_beyond (e ∷ es) (suc k) over = absent_beyond es k (omega arith)

pub present_within : (es : List Endpoint) (k : ℕ) → is_present_at es k ≡ true → k < length es
unfolding is_present_at
present_within [] k present = absurd (cc present)
present_within (e ∷ es) zero present = omega arith
present_within (e ∷ es) (suc k) present =
    let below : k < length es = present_within es k present in omega arith
