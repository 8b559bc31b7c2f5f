-- PLIs by places: what `goes_up` says call by call is the schedule.
use Rattle.std.proofs.Common.{◌≡◌, ℕ, zero, suc, ◌+◌, ◌<◌, ◌≤◌, Bool, true, false, cond, List, [], ◌∷◌, take, refl, sym, ap, subst, ◌∙◌, arith, Option, Some, None, inl, inr}
use Rattle.std.specs.Prelude.{not, ◌&&◌, ◌||◌, ◌⊎◌, IfSome}
use Rattle.std.proofs.lemmas.Bool.{cases_lt, both_ways, le-leb, leb-true, or_cases}
use Rattle.std.proofs.lemmas.List.{length-take}
use Rattle.desk.specs.declared.call.Call.{Call}
use Rattle.desk.specs.declared.call.Call.TheVariants.{Stay, Time}
use Rattle.desk.specs.declared.call.Answer.{Answer}
use Rattle.desk.specs.declared.call.Answer.TheVariants.{Done, NotPresent, AlreadyPresent, Full}
use Rattle.desk.specs.declared.call.Entry.{Entry}
use Rattle.desk.specs.declared.base.Base.{Base}
use Rattle.desk.specs.Call.{moment_after, can_send, wishes, went_up, is_done, is_answered_up}
use Rattle.desk.specs.Presence.{refusal_of}
use Rattle.desk.specs.Trace.{base_with, is_due, goes_up}
use Rattle.desk.specs.Answer.{IsAnswerOr, IsAnswerTo}
use Rattle.desk.specs.History.{IsLegalHistory}
use Rattle.desk.specs.Places.{HasEntryAt, greatest_until}
use Rattle.desk.specs.Schedule.{WentUpAt, IsAt, IsGreatestUntil, IsUnanswered, NoneUpBefore, IsWantedSinceBase, IsLastUpBefore, IsDueAt, IsPliSchedule}
use Rattle.desk.proofs.TraceLemmas.{refusal-not_done, legal-first, legal-rest}
use Rattle.desk.proofs.PlaceLemmas.{not_in_nil, at_head, head_is, at_tail, from_tail, within, to_part, to_whole, greatest_from, greatest-tail}

-- ---- the answer of one call

not_done-quiet : (answer : Answer) → is_done answer ≡ false → is_answered_up answer ≡ false
not_done-quiet (Done pli kept) e = absurd (cc)
not_done-quiet (NotPresent stay) e = refl
not_done-quiet (AlreadyPresent stay) e = refl
not_done-quiet Full e = refl

answer_up : (gap request_ms : ℕ) (base : Base) (call : Call) (answer : Answer) → IsAnswerTo gap request_ms base call answer
    → is_answered_up answer ≡ goes_up gap base call
answer_up gap request_ms base (Time moment signal) answer is = ap is_answered_up is.is
answer_up gap request_ms base (Stay owner stay change) answer is = step (refusal_of base.present.items (Stay owner stay change)) refl is
  where
    step : (refusal : Option Answer) → refusal_of base.present.items (Stay owner stay change) ≡ refusal
        → IsAnswerOr gap request_ms base (Stay owner stay change) refusal answer → is_answered_up answer ≡ goes_up gap base (Stay owner stay change)
    step None e h = ap is_answered_up h.is
    step (Some r) e h = ap is_answered_up h ∙ not_done-quiet r (refusal-not_done base.present.items (Stay owner stay change) r e)

-- ---- tests

three : (a b c : Bool) → (a && b && c) ≡ true → (a ≡ true) × (b ≡ true) × (c ≡ true)
three true true c e = (refl, refl, e)
three true false c e = absurd (cc)
three false b c e = absurd (cc)

all_three : (a b c : Bool) → a ≡ true → b ≡ true → c ≡ true → (a && b && c) ≡ true
all_three a b c x y z = rw (x, y, z) refl

or_first : (a b : Bool) → a ≡ true → (a || b) ≡ true
or_first a b x = rw x refl

or_second : (a b : Bool) → b ≡ true → (a || b) ≡ true
or_second true b x = refl
or_second false b x = x

is_no : (b : Bool) → ¬ (b ≡ true) → b ≡ false
is_no true differs = absurd (differs refl)
is_no false differs = refl

wanted-left : (up wish was : Bool) → up ≡ false → (wish ≡ true) ⊎ (was ≡ true) → (not up && (wish || was)) ≡ true
wanted-left true wish was quiet some = absurd (cc)
wanted-left false true was quiet some = refl
wanted-left false false was quiet (inl wished) = absurd (cc)
wanted-left false false was quiet (inr wanted) = wanted

wanted-cases : (up wish was : Bool) → (not up && (wish || was)) ≡ true → (up ≡ false) × ((wish ≡ true) ⊎ (was ≡ true))
wanted-cases true wish was e = absurd (cc)
wanted-cases false true was e = (refl, inl refl)
wanted-cases false false was e = (refl, inr e)

if_up : (up : Bool) (m : ℕ) (last : Option ℕ) (P : ℕ → Type 0) → (up ≡ true → P m) → (up ≡ false → IfSome last P) → IfSome (cond up (Some m) last) P
if_up true m last P at_it before = at_it refl
if_up false m last P at_it before = before refl

from_up : (up : Bool) (m : ℕ) (last : Option ℕ) (P : ℕ → Type 0) → up ≡ true → IfSome (cond up (Some m) last) P → P m
from_up true m last P is holds = holds
from_up false m last P is holds = absurd (cc)

from_quiet : (up : Bool) (m : ℕ) (last : Option ℕ) (P : ℕ → Type 0) → up ≡ false → IfSome (cond up (Some m) last) P → IfSome last P
from_quiet true m last P is holds = absurd (cc)
from_quiet false m last P is holds = holds

due_is : (gap : ℕ) (last : Option ℕ) (now : ℕ) → is_due gap last now ≡ true → IfSome last (λ up. up + gap ≤ now)
due_is gap None now e = tt
due_is gap (Some up) now e = leb-true (up + gap) now e

due_from : (gap : ℕ) (last : Option ℕ) (now : ℕ) → IfSome last (λ up. up + gap ≤ now) → is_due gap last now ≡ true
due_from gap None now e = refl
due_from gap (Some up) now e = le-leb (up + gap) now e

apart : (a b x y gap : ℕ) → a ≡ x → b ≡ y → a + gap ≤ b → x + gap ≤ y
apart a b x y gap p q h = omega arith

-- ---- the first place

abbrev pub Up : Entry → Type 0
Up e = went_up e ≡ true

abbrev Wishes : Entry → Type 0
Wishes e = wishes e.call ≡ true

abbrev CanSend : Entry → Type 0
CanSend e = can_send e.call ≡ true

module _ (gap : ℕ) (base : Base) (e : Entry) (entries : List Entry) where
  pub due_first : goes_up gap base e.call ≡ true → IsDueAt gap base (e ∷ entries) 0
  due_first goes =
      let parts = three (can_send e.call) (wishes e.call || base.wanted) (is_due gap base.last_up (moment_after base.greatest e.call)) goes in
      record {
        can_send = at_head CanSend e entries parts.0;
        wanted = wanted (or_cases (wishes e.call) base.wanted parts.1);
        gapped = λ last before. absurd (omega (arith, before.before));
        gapped_since_base = λ none. due_is gap base.last_up (moment_after base.greatest e.call) parts.2;
      }
    where
      wanted : (wishes e.call ≡ true) ⊎ (base.wanted ≡ true) → ((wish : ℕ) × IsUnanswered (e ∷ entries) 0 wish) ⊎ IsWantedSinceBase base (e ∷ entries) 0
      wanted (inl wished) = inl (
        0,
        record {
          not_after = omega arith;
          wished = at_head Wishes e entries wished;
          unanswered = λ between from before went. absurd (omega arith);
        },
      )
      wanted (inr was) = inr (was, λ before less went. absurd (omega arith))

  first_wish : (wish : ℕ) → IsUnanswered (e ∷ entries) 0 wish → (wishes e.call || base.wanted) ≡ true
  first_wish zero u = or_first (wishes e.call) base.wanted (head_is Wishes e entries u.wished)
  first_wish (suc wish) u = absurd (omega (arith, u.not_after))

  pub goes_first : IsDueAt gap base (e ∷ entries) 0 → goes_up gap base e.call ≡ true
  goes_first due =
      all_three (can_send e.call) (wishes e.call || base.wanted) (is_due gap base.last_up (moment_after base.greatest e.call))
      (head_is CanSend e entries due.can_send)
      (wanted due.wanted)
      (due_from gap base.last_up (moment_after base.greatest e.call) (due.gapped_since_base (λ before less went. absurd (omega arith))))
    where
      wanted : ((wish : ℕ) × IsUnanswered (e ∷ entries) 0 wish) ⊎ IsWantedSinceBase base (e ∷ entries) 0 → (wishes e.call || base.wanted) ≡ true
      wanted (inl found) = first_wish found.0 found.1
      wanted (inr since) = or_second (wishes e.call) base.wanted since.0

-- ---- the other places: the first entry goes into the base

module _ (gap request_ms : ℕ) (base : Base) (e : Entry) (entries : List Entry) (place : ℕ) where
  quiet_first : NoneUpBefore (e ∷ entries) (suc place) → went_up e ≡ false
  quiet_first none = is_no (went_up e) (λ up. none 0 (omega arith) (at_head Up e entries up))

  quiet_rest : NoneUpBefore (e ∷ entries) (suc place) → NoneUpBefore entries place
  quiet_rest none before less up = none (suc before) (omega arith) (at_tail Up e entries before up)

  quiet_both : went_up e ≡ false → NoneUpBefore entries place → NoneUpBefore (e ∷ entries) (suc place)
  quiet_both quiet none zero less up = both_ways (went_up e) quiet (head_is Up e entries up)
  quiet_both quiet none (suc before) less up = none before (omega arith) (from_tail Up e entries before up)

  wish_on : (wish : ℕ) → IsUnanswered (e ∷ entries) (suc place) wish
      → ((w : ℕ) × IsUnanswered entries place w) ⊎ IsWantedSinceBase (base_with request_ms base e) entries place
  wish_on zero u =
      let none : NoneUpBefore (e ∷ entries) (suc place) = λ between less up. u.unanswered between (omega arith) less up in
      inr (
        wanted-left (went_up e) (wishes e.call) base.wanted (quiet_first none) (inl (head_is Wishes e entries u.wished)),
        quiet_rest none,
      )
  wish_on (suc wish) u = inl (
    wish,
    record {
      not_after = omega (arith, u.not_after);
      wished = from_tail Wishes e entries wish u.wished;
      unanswered = λ between from less up. u.unanswered (suc between) (omega arith) (omega arith) (at_tail Up e entries between up);
    },
  )

  wanted_on : ((w : ℕ) × IsUnanswered (e ∷ entries) (suc place) w) ⊎ IsWantedSinceBase base (e ∷ entries) (suc place)
      → ((w : ℕ) × IsUnanswered entries place w) ⊎ IsWantedSinceBase (base_with request_ms base e) entries place
  wanted_on (inl found) = wish_on found.0 found.1
  wanted_on (inr since) =
      inr (wanted-left (went_up e) (wishes e.call) base.wanted (quiet_first since.1) (inr since.0), quiet_rest since.1)

  still_unanswered : (wish : ℕ) → IsUnanswered entries place wish → IsUnanswered (e ∷ entries) (suc place) (suc wish)
  still_unanswered wish u = record {
    not_after = omega (arith, u.not_after);
    wished = at_tail Wishes e entries wish u.wished;
    unanswered = quiet;
  }
    where
      quiet : (between : ℕ) → suc wish ≤ between → between < suc place → ¬ WentUpAt (e ∷ entries) between
      quiet zero from less up = absurd (omega arith)
      quiet (suc between) from less up = u.unanswered between (omega arith) (omega arith) (from_tail Up e entries between up)

  wanted_back : ((w : ℕ) × IsUnanswered entries place w) ⊎ IsWantedSinceBase (base_with request_ms base e) entries place
      → ((w : ℕ) × IsUnanswered (e ∷ entries) (suc place) w) ⊎ IsWantedSinceBase base (e ∷ entries) (suc place)
  wanted_back (inl found) = inl (suc found.0, still_unanswered found.0 found.1)
  wanted_back (inr since) = cases (wanted-cases (went_up e) (wishes e.call) base.wanted since.0)
    where
      cases : (went_up e ≡ false) × ((wishes e.call ≡ true) ⊎ (base.wanted ≡ true))
          → ((w : ℕ) × IsUnanswered (e ∷ entries) (suc place) w) ⊎ IsWantedSinceBase base (e ∷ entries) (suc place)
      cases (quiet, inl wished) = inl (
        0,
        record {
          not_after = omega arith;
          wished = at_head Wishes e entries wished;
          unanswered = λ between from less up. quiet_both quiet since.1 between less up;
        },
      )
      cases (quiet, inr was) = inr (was, quiet_both quiet since.1)

  last_on : (last : ℕ) → IsLastUpBefore entries place last → IsLastUpBefore (e ∷ entries) (suc place) (suc last)
  last_on last is = record {
    before = omega (arith, is.before);
    went_up = at_tail Up e entries last is.went_up;
    none_since = none;
  }
    where
      none : (between : ℕ) → suc last < between → between < suc place → ¬ WentUpAt (e ∷ entries) between
      none zero after less up = absurd (omega arith)
      none (suc between) after less up = is.none_since between (omega arith) (omega arith) (from_tail Up e entries between up)

  last_back : (last : ℕ) → IsLastUpBefore (e ∷ entries) (suc place) (suc last) → IsLastUpBefore entries place last
  last_back last is = record {
    before = omega (arith, is.before);
    went_up = from_tail Up e entries last is.went_up;
    none_since = λ between after less up. is.none_since (suc between) (omega arith) (omega arith) (at_tail Up e entries between up);
  }

  last_first : went_up e ≡ true → NoneUpBefore entries place → IsLastUpBefore (e ∷ entries) (suc place) 0
  last_first up none = record { before = omega arith; went_up = at_head Up e entries up; none_since = later }
    where
      later : (between : ℕ) → 0 < between → between < suc place → ¬ WentUpAt (e ∷ entries) between
      later zero after less went = absurd (omega arith)
      later (suc between) after less went = none between (omega arith) (from_tail Up e entries between went)

  now_is : greatest_until base (e ∷ entries) (suc place) ≡ greatest_until (base_with request_ms base e) entries place
  now_is = greatest-tail request_ms base e entries place

  pub due_on : IsDueAt gap base (e ∷ entries) (suc place) → IsDueAt gap (base_with request_ms base e) entries place
  due_on due = record {
    can_send = from_tail CanSend e entries place due.can_send;
    wanted = wanted_on due.wanted;
    gapped = λ last is. apart _ _ _ _ gap (greatest-tail request_ms base e entries last) now_is (due.gapped (suc last) (last_on last is));
    gapped_since_base = λ none.
        if_up (went_up e) (moment_after base.greatest e.call) base.last_up (λ up. up + gap ≤ greatest_until (base_with request_ms base e) entries place)
        (λ up. apart _ _ _ _ gap refl now_is (due.gapped 0 (last_first up none)))
        (λ quiet. subst (λ now. IfSome base.last_up (λ up. up + gap ≤ now)) now_is (due.gapped_since_base (quiet_both quiet none)));
  }

  pub due_back : IsDueAt gap (base_with request_ms base e) entries place → IsDueAt gap base (e ∷ entries) (suc place)
  due_back due = record {
    can_send = at_tail CanSend e entries place due.can_send;
    wanted = wanted_back due.wanted;
    gapped = gapped;
    gapped_since_base = λ none.
        subst (λ now. IfSome base.last_up (λ up. up + gap ≤ now)) (sym now_is)
        (from_quiet (went_up e) (moment_after base.greatest e.call) base.last_up (λ up. up + gap ≤ greatest_until (base_with request_ms base e) entries place)
        (quiet_first none) (due.gapped_since_base (quiet_rest none)));
  }
    where
      gapped : (last : ℕ) → IsLastUpBefore (e ∷ entries) (suc place) last
          → greatest_until base (e ∷ entries) last + gap ≤ greatest_until base (e ∷ entries) (suc place)
      gapped zero is =
          apart _ _ _ _ gap refl (sym now_is)
          (from_up (went_up e) (moment_after base.greatest e.call) base.last_up (λ up. up + gap ≤ greatest_until (base_with request_ms base e) entries place)
          (head_is Up e entries is.went_up)
          (due.gapped_since_base (λ before less up. is.none_since (suc before) (omega arith) (omega arith) (at_tail Up e entries before up))))
      gapped (suc last) is =
          apart _ _ _ _ gap (sym (greatest-tail request_ms base e entries last)) (sym now_is) (due.gapped last (last_back last is))

pub schedule_law : (gap request_ms : ℕ) (base : Base) (entries : List Entry) → IsLegalHistory gap request_ms base entries → IsPliSchedule gap base entries
schedule_law gap request_ms base [] legal place below = absurd (omega arith)
schedule_law gap request_ms base (e ∷ entries) legal zero below =
    let is = answer_up gap request_ms base e.call e.answer (legal-first gap request_ms base e entries legal) in
    (λ up. due_first gap base e entries (sym is ∙ head_is Up e entries up), λ due. at_head Up e entries (is ∙ goes_first gap base e entries due))
schedule_law gap request_ms base (e ∷ entries) legal (suc place) below =
    let rest = schedule_law gap request_ms (base_with request_ms base e) entries (legal-rest gap request_ms base e entries legal) place (omega arith) in (
      λ up. due_back gap request_ms base e entries place (rest.0 (from_tail Up e entries place up)),
      λ due. at_tail Up e entries place (rest.1 (due_on gap request_ms base e entries place due)),
    )

-- ---- the greatest moment

moment_least : (m : ℕ) (call : Call) → m ≤ moment_after m call
moment_least m (Stay owner stay change) = omega arith
moment_least m (Time moment signal) = omega arith

moment_shown : (m shown : ℕ) (call : Call) → IsAt shown call → shown ≤ moment_after m call
moment_shown m shown (Stay owner stay change) is = absurd is
moment_shown m shown (Time moment signal) is = omega (arith, is)

moment_is : (m : ℕ) (call : Call) → (moment_after m call ≡ m) ⊎ IsAt (moment_after m call) call
moment_is m (Stay owner stay change) = inl refl
moment_is m (Time moment signal) = elim (cases_lt m moment) [ inl less ↦ inr (omega arith) | inr more ↦ inl (omega arith) ]

least_below : (least : ℕ) (entries : List Entry) → least ≤ greatest_from least entries
least_below least [] = omega arith
least_below least (e ∷ entries) = omega (arith, moment_least least e.call, least_below (moment_after least e.call) entries)

shown_below : (least : ℕ) (entries : List Entry) (place shown : ℕ) → HasEntryAt (λ e. IsAt shown e.call) entries place → shown ≤ greatest_from least entries
shown_below least [] place shown s = absurd (not_in_nil (λ e. IsAt shown e.call) place s)
shown_below least (e ∷ entries) zero shown s =
    omega (
      arith,
      moment_shown least shown e.call (head_is (λ x. IsAt shown x.call) e entries s),
      least_below (moment_after least e.call) entries,
    )
shown_below least (e ∷ entries) (suc place) shown s =
    shown_below (moment_after least e.call) entries place shown (from_tail (λ x. IsAt shown x.call) e entries place s)

abbrev Reaches : List Entry → ℕ → Type 0
Reaches entries m = (place : ℕ) × HasEntryAt (λ e. IsAt m e.call) entries place

reached : (least : ℕ) (entries : List Entry) → (greatest_from least entries ≡ least) ⊎ Reaches entries (greatest_from least entries)
reached least [] = inl refl
reached least (e ∷ entries) = step (reached (moment_after least e.call) entries) (moment_is least e.call)
  where
    step : (greatest_from (moment_after least e.call) entries ≡ moment_after least e.call) ⊎ Reaches entries (greatest_from (moment_after least e.call) entries)
        → (moment_after least e.call ≡ least) ⊎ IsAt (moment_after least e.call) e.call
        → (greatest_from (moment_after least e.call) entries ≡ least) ⊎ Reaches (e ∷ entries) (greatest_from (moment_after least e.call) entries)
    step (inl same) (inl is) = inl (same ∙ is)
    step (inl same) (inr shown) = inr (
      0,
      at_head (λ x. IsAt (greatest_from (moment_after least e.call) entries) x.call) e entries (subst (λ m. IsAt m e.call) (sym same) shown),
    )
    step (inr later) here = inr (
      suc later.0,
      at_tail (λ x. IsAt (greatest_from (moment_after least e.call) entries) x.call) e entries later.0 later.1,
    )

pub greatest_law : (base : Base) (entries : List Entry) (place : ℕ) → IsGreatestUntil base entries place (greatest_until base entries place)
greatest_law base entries place = record {
  base_bound = least_below base.greatest (take (place + 1) entries);
  bound = λ earlier shown not_after s.
      shown_below base.greatest (take (place + 1) entries) earlier shown
      (to_part (λ e. IsAt shown e.call) (place + 1) entries earlier (omega arith) s);
  reached = step (reached base.greatest (take (place + 1) entries));
}
  where
    step : (greatest_until base entries place ≡ base.greatest) ⊎ Reaches (take (place + 1) entries) (greatest_until base entries place)
        → (greatest_until base entries place ≡ base.greatest)
        ⊎ ((earlier : ℕ) × (earlier ≤ place) × HasEntryAt (λ e. IsAt (greatest_until base entries place) e.call) entries earlier)
    step (inl same) = inl same
    step (inr found) =
        let inside : found.0 < place + 1 = omega (
          arith,
          within (λ e. IsAt (greatest_until base entries place) e.call) (take (place + 1) entries) found.0 found.1,
          length-take (place + 1) entries,
        ) in
        inr (found.0, omega arith, to_whole (λ e. IsAt (greatest_until base entries place) e.call) (place + 1) entries found.0 inside found.1)
