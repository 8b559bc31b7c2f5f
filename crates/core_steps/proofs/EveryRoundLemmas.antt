-- Every report is due once in each round; with one slot all are due at once.
use Rattle.std.proofs.Common.{◌≡◌, ◌∙◌, ℕ, zero, ◌+◌, ◌-◌, ◌*◌, ◌≤◌, ◌<◌, List, [], ◌∷◌, ◌++◌, length, map, Bool, true, false, Result, Ok, Err, refl, sym, ap, ap₂, subst, arith}
use Rattle.std.proofs.Math.Nat.{mod-lt}
use Rattle.std.proofs.lemmas.Bool.{cond-false, eq-eqb, eqb-true, le-leb, lt-ltb, le-ltb, ltb-false, leb-true}
use Rattle.std.proofs.lemmas.Bool.Decides.{nat_tests}
use Rattle.std.specs.Prelude.{◌==◌, ◌&&◌, nat_le, nat_lt, not, max, if◌then◌else◌}
use Rattle.std.specs.List.{enumerate_from, flat_map}
use Rattle.settings.specs.Settings.{Configuration, IsInRange}
use Rattle.settings.specs.declared.fault.RoomFault.{RoomFault}
use Rattle.settings.specs.declared.fault.RoomFault.TheVariants.{StaysSpent}
use Rattle.members.specs.Calls.{Call as RoomCall, Hear, Bye, Tick, Select, Receive, Report as SenderReport, MakeBlock, room_after, room_of, step_of}
use Rattle.members.specs.declared.stays.TheConstants.{MAX_STAY}
use Rattle.members.specs.Stays.{coming_count, come}
use Rattle.members.specs.Room.{RoomState, Step, after_leaving, anew, is_selected, leg_at, next_after, step_with, switched_leg, takes_turn, with_leg}
use Rattle.members.specs.Presence.{is_present_at, source_at}
use Rattle.events.specs.declared.event.Event.{Event}
use Rattle.core_steps.specs.declared.rounds.Round.{Round}
use Rattle.core_steps.specs.Happening.{Happening, world_after}
use Rattle.core_steps.specs.Hearing.{is_report_due, leg_report, present_endpoints, reports, round_after, slots_by}
use Rattle.core_steps.specs.Opening.{IsNewWorld, first_round, setup_by}
use Rattle.core_steps.specs.Reports.{ReportsAtOnce, is_tick, reports_at_once, round_at_once, rounds_over, times_due, was_due}
use Rattle.core_steps.specs.Rounds.{comes_between, round_with, slot_of, slots_come}
use Rattle.core_steps.specs.Run.{Runs, worlds_after}
use Rattle.core_steps.specs.World.{Setup, WorldState, report}
use Rattle.core_steps.proofs.KindLemmas.{kind_of}
use Rattle.core_steps.proofs.RoundLemmas.{all_due, come_all, come_most, come_rises, comes_evenly, none_between, none_due}

-- ---- the room's moment never goes back

either_rises : (r : RoomState) (b : Bool) (x y : Result Step RoomFault) → r.moment ≤ (room_of r x).moment → r.moment ≤ (room_of r y).moment
    → r.moment ≤ (room_of r (if b then x else y)).moment
either_rises r true x y h k = h
either_rises r false x y h k = k

same_moment : (m : ℕ) → m ≤ m
same_moment m = omega arith

later_moment : (m n : ℕ) → m ≤ max m n
later_moment m n = omega arith

rises : (r : RoomState) (c : RoomCall) → r.moment ≤ (room_of r (step_of r c)).moment
rises r (Hear handed other ssrc) =
    let t = after_leaving r (max r.moment handed) in
    either_rises r (nat_le (length r.endpoints) other) _ _ (same_moment r.moment)
    (either_rises r (not ((source_at r.endpoints other).0 == ssrc)) _ _ (same_moment r.moment)
    (either_rises r (is_present_at t.endpoints other) _ _ (later_moment r.moment handed)
    (either_rises r (nat_lt MAX_STAY (r.next + coming_count t.endpoints other t.legs)) (Err StaysSpent)
    (Ok (step_with (anew r other) (max r.moment handed) (r.next + coming_count t.endpoints other t.legs)
    (come t (max r.moment handed) r.next other)))
    (same_moment r.moment) (later_moment r.moment handed))))
rises r (Bye handed other) =
    either_rises r (nat_le (length r.endpoints) other) _ _ (same_moment r.moment) (later_moment r.moment handed)
rises r (Tick handed) = later_moment r.moment handed
rises r (Select handed number on) =
    let t = after_leaving r (max r.moment handed) in
    either_rises r (nat_le (length r.legs) number) _ _ (same_moment r.moment)
    (either_rises r (is_selected on (leg_at t.legs number)) _ _ (later_moment r.moment handed)
    (either_rises r (takes_turn on (leg_at t.legs number) && nat_le MAX_STAY r.next) (Err StaysSpent)
    (Ok (step_with r (max r.moment handed) (next_after on r.next (leg_at t.legs number))
    (with_leg t number (switched_leg on r.next (leg_at t.legs number)))))
    (same_moment r.moment) (later_moment r.moment handed)))
rises r (Receive other seq timestamp) = same_moment r.moment
rises r (SenderReport other ntp rtp) = same_moment r.moment
rises r (MakeBlock other) = same_moment r.moment

all_rise : (r : RoomState) (calls : List RoomCall) → r.moment ≤ (room_after r calls).moment
all_rise r [] = same_moment r.moment
all_rise r (c ∷ calls) =
    let first = rises r c in
    let rest = all_rise (room_of r (step_of r c)) calls in
    omega (arith, first, rest)

-- ---- a round at one moment

slot_below : (s : Setup) (n : ℕ) → 1 ≤ s.report_slots → slot_of s n < s.report_slots
slot_below s n some = mod-lt n (let h : zero < s.report_slots = omega arith in h)

-- 1 where it is so, 0 where it isn't
abbrev one_if : Bool → ℕ
one_if b = if b then 1 else 0

-- whether it comes now, or came before: all do, where all have come
all_come : (done count slot : ℕ) → slot < count
    → one_if (nat_le done slot && nat_lt slot count) + one_if (nat_lt slot done) ≡ 1
all_come done count slot below = grind (arith, nat_tests)

some_come : (done come slot : ℕ) → done ≤ come
    → one_if (nat_le done slot && nat_lt slot come) + one_if (nat_lt slot done) ≡ one_if (nat_lt slot come)
some_come done come slot on = grind (arith, nat_tests)

-- the next round, or the same with so many of its slots
abbrev round_if : ℕ → Round → ℕ → Bool → Round
round_if moment round come b =
    if b then record { began = moment; done = 0 } else record { began = round.began; done = come }

zero_and : (k : ℕ) → 0 + k ≡ k
zero_and k = omega arith

counted : (s : Setup) (moment : ℕ) (round : Round) (come n : ℕ) → 1 ≤ s.report_slots → round.done ≤ come
    → one_if (comes_between s round.done come n) + one_if (nat_lt (slot_of s n) round.done)
    ≡ one_if (come == s.report_slots) + one_if (nat_lt (slot_of s n) (round_with s moment round come).done)
counted s moment round come n some on = step (come == s.report_slots) refl
  where
    step : (b : Bool) → (come == s.report_slots) ≡ b
        → one_if (comes_between s round.done come n) + one_if (nat_lt (slot_of s n) round.done)
        ≡ one_if b + one_if (nat_lt (slot_of s n) (round_if moment round come b).done)
    step true is =
        let all : come ≡ s.report_slots = eqb-true come s.report_slots is in
        let none : nat_lt (slot_of s n) 0 ≡ false = le-ltb (slot_of s n) 0 (let h : 0 ≤ slot_of s n = omega arith in h) in
        all_come round.done come (slot_of s n) (let h = slot_below s n some in omega (arith, h, all))
        ∙ sym (ap (λ (b : Bool). 1 + one_if b) none)
    step false is = some_come round.done come (slot_of s n) on ∙ sym (zero_and (one_if (nat_lt (slot_of s n) come)))

-- the slots that are done have come
keeps_done : (s : Setup) (moment : ℕ) (round : Round) (come : ℕ) → come ≡ slots_come s (moment - round.began)
    → (round_with s moment round come).done ≤ slots_come s (moment - (round_with s moment round come).began)
keeps_done s moment round come is = step (come == s.report_slots)
  where
    step : (b : Bool) → (round_if moment round come b).done ≤ slots_come s (moment - (round_if moment round come b).began)
    step true = omega arith
    step false = omega (arith, is)

-- ---- a round along a run

-- what one happening adds
one_more : (w : WorldState) (r : RoomState) (round : Round) (b : Bool) (n : ℕ) → 1 ≤ w.setup.report_slots → w.round.done ≤ slots_by w r
    → round ≡ (if b then round_after w r else w.round)
    → one_if (b && is_report_due w r n) + one_if (was_due w n)
    ≡ one_if (b && (slots_by w r == w.setup.report_slots)) + one_if (nat_lt (slot_of w.setup n) round.done)
one_more w r round true n some on is =
    counted w.setup r.moment w.round (slots_by w r) n some on
    ∙ ap (λ (x : Round). one_if (slots_by w r == w.setup.report_slots) + one_if (nat_lt (slot_of w.setup n) x.done)) (sym is)
one_more w r round false n some on is = ap (λ (x : Round). 0 + one_if (nat_lt (slot_of w.setup n) x.done)) (sym is)

keeps_on : (w : WorldState) (r : RoomState) (round : Round) (b : Bool) → w.round.done ≤ slots_by w r
    → round ≡ (if b then round_after w r else w.round) → round.done ≤ slots_come w.setup (r.moment - round.began)
keeps_on w r round true on is =
    subst (λ (x : Round). x.done ≤ slots_come w.setup (r.moment - x.began)) (sym is) (keeps_done w.setup r.moment w.round (slots_by w r) refl)
keeps_on w r round false on is = subst (λ (x : Round). x.done ≤ slots_come w.setup (r.moment - x.began)) (sym is) on

came_by : (w : WorldState) (r : RoomState) → w.room.moment ≤ r.moment → w.round.done ≤ slots_by w w.room → w.round.done ≤ slots_by w r
came_by w r later on =
    let rise = come_rises w.setup (w.room.moment - w.round.began) (r.moment - w.round.began) (let h : w.room.moment - w.round.began ≤ r.moment - w.round.began = omega arith in h) in
    omega (arith, on, rise)

joined : (a b c d e f g : ℕ) → a + f ≡ c + g → b + g ≡ d + e → (a + b) + f ≡ (c + d) + e
joined a b c d e f g x y = omega arith

once : (w : WorldState) (events : List Event) (history : List Happening) (n : ℕ) → Runs w events history → 1 ≤ w.setup.report_slots
    → w.round.done ≤ slots_by w w.room
    → times_due n w history + one_if (was_due w n) ≡ rounds_over w history + one_if (was_due (worlds_after w history) n)
once w [] [] n r some on = refl
once w [] (h ∷ history) n r some on = absurd r
once w (e ∷ events) [] n r some on = absurd r
once w (e ∷ events) (h ∷ history) n r some on =
    let v : WorldState = world_after w h in
    let room : RoomState = room_after w.room h.calls in
    let by = (kind_of w e h r.0).reports.round in
    let came : w.round.done ≤ slots_by w room = came_by w room (all_rise w.room h.calls) on in
    joined (one_if (is_tick h.calls && is_report_due w room n)) (times_due n v history)
    (one_if (is_tick h.calls && (slots_by w room == w.setup.report_slots))) (rounds_over v history)
    (one_if (was_due (worlds_after v history) n)) (one_if (was_due w n)) (one_if (was_due v n))
    (one_more w room h.round (is_tick h.calls) n some came by)
    (once v events history n r.1 some (keeps_on w room h.round (is_tick h.calls) came by))

none_before : (s : Setup) (n : ℕ) (round : Round) → round ≡ first_round → one_if (nat_lt (slot_of s n) round.done) ≡ 0
none_before s n round is =
    ap (λ (x : Round). one_if (nat_lt (slot_of s n) x.done)) is
    ∙ cond-false {A = ℕ} (nat_lt (slot_of s n) 0) 1 0 (le-ltb (slot_of s n) 0 (let h : 0 ≤ slot_of s n = omega arith in h))

pub due_once : (c : Configuration) (w : WorldState) (events : List Event) (history : List Happening) → IsNewWorld c w → Runs w events history
    → IsInRange c → (n : ℕ)
    → times_due n w history ≡ rounds_over w history + one_if (was_due (worlds_after w history) n)
due_once c w events history new r range n =
    let some : 1 ≤ w.setup.report_slots = subst (λ (s : Setup). 1 ≤ s.report_slots) (sym new.setup) range.least_slots in
    let on : w.round.done ≤ slots_by w w.room =
    subst (λ (x : Round). x.done ≤ slots_come w.setup (w.room.moment - x.began)) (sym new.round) (let h : 0 ≤ slots_come w.setup (w.room.moment - 0) = omega arith in h) in
    let first : one_if (was_due w n) ≡ 0 = none_before w.setup n w.round new.round in
    let whole = once w events history n r some on in
    omega (arith, first, whole)

-- ---- one slot

one_slot : (w : WorldState) (r : RoomState) (round : Round) (b : Bool) → w.setup.report_slots ≡ 1 → w.round.done ≡ 0
    → round ≡ (if b then round_after w r else w.round) → round.done ≡ 0
one_slot w r round false one none is = ap (λ (x : Round). x.done) is ∙ none
one_slot w r round true one none is = ap (λ (x : Round). x.done) is ∙ step (slots_by w r == w.setup.report_slots) refl
  where
    step : (b : Bool) → (slots_by w r == w.setup.report_slots) ≡ b
        → (round_if r.moment w.round (slots_by w r) b).done ≡ 0
    step true is = refl
    step false is =
        let most : slots_by w r ≤ w.setup.report_slots = come_most w.setup (r.moment - w.round.began) in
        let other : slots_by w r ≡ w.setup.report_slots → ⊥ = λ same. (let no : true ≡ false = sym (eq-eqb (slots_by w r) w.setup.report_slots same) ∙ is in absurd (cc)) in
        grind (arith, most, one, other)

one_along : (w : WorldState) (events : List Event) (history : List Happening) → Runs w events history → w.setup.report_slots ≡ 1
    → w.round.done ≡ 0 → (worlds_after w history).round.done ≡ 0
one_along w [] [] r one none = none
one_along w [] (h ∷ history) r one none = absurd r
one_along w (e ∷ events) [] r one none = absurd r
one_along w (e ∷ events) (h ∷ history) r one none =
    one_along (world_after w h) events history r.1 one
    (one_slot w (room_after w.room h.calls) h.round (is_tick h.calls) one none (kind_of w e h r.0).reports.round)

setup_along : (w : WorldState) (history : List Happening) → (worlds_after w history).setup ≡ w.setup
setup_along w [] = refl
setup_along w (h ∷ history) = setup_along (world_after w h) history

both_true : (a b : Bool) → a ≡ true → b ≡ true → (a && b) ≡ true
both_true true b h k = k
both_true false b h k = h

module _ (w : WorldState) (one : w.setup.report_slots ≡ 1) (none : w.round.done ≡ 0) where
  abbrev since : RoomState → ℕ
  since r = r.moment - w.round.began

  come_none : (r : RoomState) → nat_le w.setup.report_ms (since r) ≡ false → slots_by w r ≤ 0
  come_none r before =
      let is = comes_evenly w.setup (since r) 0 (let h : 0 < w.setup.report_slots = omega (arith, one) in h) in
      let same : nat_le ((0 + 1) * w.setup.report_ms) (since r * w.setup.report_slots) ≡ nat_le w.setup.report_ms (since r) =
      ap₂ nat_le (let h : (0 + 1) * w.setup.report_ms ≡ w.setup.report_ms = omega arith in h)
      (ap (λ (k : ℕ). since r * k) one ∙ (let h : since r * 1 ≡ since r = omega arith in h)) in
      ltb-false 0 (slots_by w r) (is ∙ same ∙ before)

  come_one : (r : RoomState) → nat_le w.setup.report_ms (since r) ≡ true → slots_by w r ≡ w.setup.report_slots
  come_one r over = come_all w.setup (since r) (leb-true w.setup.report_ms (since r) over)

  always : (r : RoomState) → nat_le w.setup.report_ms (since r) ≡ true → (n : ℕ) → is_report_due w r n ≡ true
  always r over n =
      let below = slot_below w.setup n (let h : 1 ≤ w.setup.report_slots = omega (arith, one) in h) in
      both_true (nat_le w.round.done (slot_of w.setup n)) (nat_lt (slot_of w.setup n) (slots_by w r))
      (le-leb w.round.done (slot_of w.setup n) (let h : w.round.done ≤ slot_of w.setup n = omega (arith, none) in h))
      (lt-ltb (slot_of w.setup n) (slots_by w r)
      (let h : slot_of w.setup n < slots_by w r = omega (arith, below, come_one r over) in h))

  all_at_once : (r : RoomState) → reports w r ≡ reports_at_once w r
  all_at_once r = step (nat_le w.setup.report_ms (since r)) refl
    where
      step : (b : Bool) → nat_le w.setup.report_ms (since r) ≡ b
          → reports w r
          ≡ (if b then map report (present_endpoints w.setup.table r)
          ++ flat_map (leg_report w.setup.table r) (enumerate_from 0 w.setup.table.legs) else [])
      step true over = all_due w.setup.table r (is_report_due w r) (length w.setup.table.endpoints) (always r over)
      step false before =
          none_due w.setup.table r (is_report_due w r) (length w.setup.table.endpoints)
          (none_between w.setup w.round.done (slots_by w r)
          (let h : slots_by w r ≤ w.round.done = omega (arith, none, come_none r before) in h))

  goes_at_once : (r : RoomState) → round_after w r ≡ round_at_once w r
  goes_at_once r = step (nat_le w.setup.report_ms (since r)) refl
    where
      step : (b : Bool) → nat_le w.setup.report_ms (since r) ≡ b
          → round_after w r ≡ record { began = if b then r.moment else w.round.began; done = 0 }
      step true over = ap (round_if r.moment w.round (slots_by w r)) (eq-eqb (slots_by w r) w.setup.report_slots (come_one r over))
      step false before =
          let zero_come : slots_by w r ≡ 0 = (let h = come_none r before in omega (arith, h)) in
          let other : (slots_by w r == w.setup.report_slots) ≡ false = ap₂ (λ (a b : ℕ). a == b) zero_come one in
          ap (round_if r.moment w.round (slots_by w r)) other
          ∙ ap (λ (k : ℕ). round_if r.moment w.round k false) zero_come

  at_once : ReportsAtOnce w
  at_once = record { reports = all_at_once; round = goes_at_once }

pub at_once_along : (c : Configuration) (w : WorldState) (events : List Event) (history : List Happening) → IsNewWorld c w → Runs w events history
    → IsInRange c → c.report_slots ≡ 1 → ReportsAtOnce (worlds_after w history)
at_once_along c w events history new r range one =
    let last : WorldState = worlds_after w history in
    let same : last.setup ≡ setup_by c = setup_along w history ∙ new.setup in
    let first : w.round.done ≡ 0 = ap (λ (x : Round). x.done) new.round in
    let slots : w.setup.report_slots ≡ 1 = ap (λ (s : Setup). s.report_slots) new.setup ∙ one in
    at_once last (ap (λ (s : Setup). s.report_slots) same ∙ one) (one_along w events history r slots first)
