-- How the legs that a job concerns are found among a worker's.
use Rattle.std.proofs.Common.{◌≡◌, ◌≢◌, ℕ, ◌+◌, ◌<◌, ◌≤◌, ⊎_elim, Bool, true, false, List, [], ◌∷◌, ◌++◌, length, take, drop, zero, suc, refl, sym, ap, subst, ◌∙◌, arith, length-append, append_assoc, zero-add}
use Rattle.std.proofs.lemmas.Bool.Decides.{nat_tests, eqb_tells}
use Rattle.std.proofs.lemmas.List.{append-nil, drop_all, take_at}
use Rattle.std.proofs.lemmas.Option.{slice_get_within, slice_get_past, get_or_from_slice_get}
use Rattle.std.proofs.lemmas.List.Elements.{All-head, All-tail, All-cons, All-nil}
use Rattle.std.specs.Prelude.{◌==◌, ◌&&◌, not, Option, None, Some, slice_get, slice_index_or, All, Result, OnOk, if◌then◌else◌}
use Rattle.std.specs.Global.{Vec}
use Rattle.std.specs.List.{flat_map, enumerate_from}
use Rattle.members.specs.declared.order.Row.{Row}
use Rattle.settings.specs.declared.settings.LegSettings.{LegSettings}
use Rattle.settings.specs.declared.limits.TheConstants.{MAX_LEGS}
use Rattle.settings.specs.Settings.{IsLegAmong}
use Rattle.rewrite.specs.Leg.{answer_to}
use Rattle.rtcp_feedback.specs.declared.nack.Nack.{Nack}
use Rattle.rtcp_feedback.specs.Nack.{lost_numbers}
use Rattle.events.specs.declared.job.Job.{Job}
use Rattle.events.specs.declared.job.Job.TheVariants as job
use Rattle.legs.specs.declared.leg.LegState.{LegState}
use Rattle.legs.specs.declared.plan.Planned.{Planned}
use Rattle.legs.specs.declared.plan.Change.{Change}
use Rattle.legs.specs.declared.plan.Change.TheVariants.{Nothing, Keep, Count}
use Rattle.legs.specs.Legs.{stands, row_of, answer_on, leg_report_bytes, leg_goodbye_bytes, owned_by, new_legs, new_leg_of, leg_after_packet, handed_out}
use Rattle.settings.specs.Links.{LinkTable, IsLinkTable, worker_of}
use Rattle.settings.specs.Places.{Sources}
use Rattle.legs.specs.Plan.{changed_at, changed_by, applied_one, legs_after_plan}
use Rattle.legs.specs.Planning.{packet_planned, resends, sent_alone, leg_plan, job_plan, plan_by, plan_of, publisher_places, leg_place, ListsPlaces, FindsPlaces, IsRising, AreFound, HasNoNumber, IsNowhere, IsNumbered, IsStandingAt}
use Rattle.shared_packet.specs.Rtp.{is_rtp, sequence_number}
use Rattle.legs.proofs.PlanLemmas.{at_behind}

-- ---- tests

no_number : (m n : ℕ) → m ≢ n → (m == n) ≡ false
no_number m n h = ⊎_elim (λ e. absurd (h e.1)) (λ e. e.0) (eqb_tells m n)

is_number : (m n : ℕ) → m ≡ n → (m == n) ≡ true
is_number m n h = grind (arith, nat_tests)

number_of : (b : Bool) (m n : ℕ) (rest : Bool) → (m == n) ≡ b → (b && rest) ≡ true → m ≡ n
number_of true m n rest is h = ⊎_elim (λ e. e.1) (λ e. absurd (cc)) (eqb_tells m n)
number_of false m n rest is h = absurd (cc)

off : (b : Bool) (x y : List Planned) → b ≡ false → (if b then x else y) ≡ y
off b x y h = ap (λ (c : Bool). if c then x else y) h

-- what holds of each holds of the one at a place
met : (P : LegState → Type 0) (legs : List LegState) (i : ℕ) (s : LegState) → All P legs → slice_get legs i ≡ Some s → P s
met P legs i s h at = subst P (get_or_from_slice_get legs i s s at) (h i s (slice_get_within legs i s at))

-- ---- jobs that concern no leg, or one

-- if each leg does nothing, nothing is planned
silent : (rows : List Row) (work : Job) (Q : LegState → Type 0) (n : ℕ) (legs : List LegState)
    → ((k : ℕ) (s : LegState) → Q s → leg_plan rows work (k, s) ≡ []) → All Q legs
    → flat_map (leg_plan rows work) (enumerate_from n legs) ≡ []
silent rows work Q n [] quiet h = refl
silent rows work Q n (s ∷ legs) quiet h =
    let here = quiet n s (All-head Q s legs h) in
    let more = silent rows work Q (n + 1) legs quiet (All-tail Q s legs h) in
    cc

-- of legs with rising numbers only the one with its number does something
only : (rows : List Row) (work : Job) (s : LegState) (n i : ℕ) (legs : List LegState) → IsRising legs
    → slice_get legs i ≡ Some s
    → ((k : ℕ) (t : LegState) → t.number ≢ s.number → leg_plan rows work (k, t) ≡ [])
    → flat_map (leg_plan rows work) (enumerate_from n legs) ≡ leg_plan rows work (n + i, s)
only rows work s n i [] rising at others = absurd (cc)
only rows work s n zero (t ∷ legs) rising at others =
    let same : t ≡ s = cc in
    let above : All (λ u. s.number < u.number) legs = subst (λ (x : LegState). All (λ u. x.number < u.number) legs) same rising.0 in
    let more = silent rows work (λ u. s.number < u.number) (n + 1) legs (λ k u h. others k u (λ e. absurd (omega (arith, h, e)))) above in
    let place : n ≡ n + 0 = omega arith in
    ap (λ (l : List Planned). leg_plan rows work (n, t) ++ l) more
    ∙ append-nil (leg_plan rows work (n, t))
    ∙ ap (λ (x : LegState). leg_plan rows work (n, x)) same
    ∙ ap (λ (k : ℕ). leg_plan rows work (k, s)) place
only rows work s n (suc i) (t ∷ legs) rising at others =
    let below : t.number < s.number = met (λ u. t.number < u.number) legs i s rising.0 at in
    let here = others n t (λ e. absurd (omega (arith, below, e))) in
    let more = only rows work s (n + 1) i legs rising.1 at others in
    let place : n + 1 + i ≡ n + suc i = omega arith in
    ap (λ (l : List Planned). l ++ flat_map (leg_plan rows work) (enumerate_from (n + 1) legs)) here
    ∙ more ∙ ap (λ (k : ℕ). leg_plan rows work (k, s)) place

-- ---- stays

stands_only : (rows : List Row) (leg stay : ℕ) (s t : LegState) → stands rows leg stay s ≡ true → t.number ≢ s.number
    → stands rows leg stay t ≡ false
stands_only rows leg stay s t here other =
    let same : s.number ≡ leg = number_of (s.number == leg) s.number leg _ refl here in
    ap (λ (x : Bool). x && (not (stay == 0) && ((row_of rows t).stay == stay))) (no_number t.number leg (λ e. other (e ∙ sym same)))

-- if the stay stands nowhere, its jobs plan nothing
pub nowhere_resend : (rows : List Row) (leg stay : ℕ) (nack : Nack) (legs : List LegState)
    → IsNowhere rows leg stay legs → job_plan rows legs (job.Resend leg stay nack) ≡ []
nowhere_resend rows leg stay nack legs h =
    silent rows (job.Resend leg stay nack) (λ s. stands rows leg stay s ≡ false) 0 legs (λ k s quiet. off _ _ _ quiet) h

pub nowhere_report : (rows : List Row) (leg stay : ℕ) (sr : Option (ℕ × ℕ)) (legs : List LegState)
    → IsNowhere rows leg stay legs → job_plan rows legs (job.Report leg stay sr) ≡ []
nowhere_report rows leg stay sr legs h =
    silent rows (job.Report leg stay sr) (λ s. stands rows leg stay s ≡ false) 0 legs (λ k s quiet. off _ _ _ quiet) h

on : (b : Bool) (x y : List Planned) → b ≡ true → (if b then x else y) ≡ x
on b x y h = ap (λ (c : Bool). if c then x else y) h

-- if the stay stands on a leg, its jobs plan what that leg does
pub standing_resend : (rows : List Row) (leg stay place : ℕ) (nack : Nack) (legs : List LegState) (s : LegState)
    → IsStandingAt rows leg stay legs place s
    → job_plan rows legs (job.Resend leg stay nack) ≡ resends place s (lost_numbers nack)
standing_resend rows leg stay place nack legs s h =
    only rows (job.Resend leg stay nack) s 0 place legs h.rising h.at
    (λ k t other. off _ _ _ (stands_only rows leg stay s t h.stands_here other))
    ∙ ap (λ (k : ℕ). leg_plan rows (job.Resend leg stay nack) (k, s)) (zero-add place)
    ∙ on _ _ _ h.stands_here

pub standing_report : (rows : List Row) (leg stay place : ℕ) (sr : Option (ℕ × ℕ)) (legs : List LegState) (s : LegState)
    → IsStandingAt rows leg stay legs place s
    → job_plan rows legs (job.Report leg stay sr) ≡ sent_alone s.link.subscriber (leg_report_bytes s sr) ∷ []
standing_report rows leg stay place sr legs s h =
    only rows (job.Report leg stay sr) s 0 place legs h.rising h.at
    (λ k t other. off _ _ _ (stands_only rows leg stay s t h.stands_here other))
    ∙ ap (λ (k : ℕ). leg_plan rows (job.Report leg stay sr) (k, s)) (zero-add place)
    ∙ on _ _ _ h.stands_here

-- ---- goodbyes

-- if no leg has the number, its goodbye plans nothing
pub nowhere_goodbye : (rows : List Row) (leg : ℕ) (legs : List LegState) → HasNoNumber leg legs
    → job_plan rows legs (job.Goodbye leg) ≡ []
nowhere_goodbye rows leg legs h =
    silent rows (job.Goodbye leg) (λ s. (s.number == leg) ≡ false) 0 legs (λ k s quiet. off _ _ _ quiet) h

-- if a leg has it, its goodbye is planned
pub numbered_goodbye : (rows : List Row) (leg : ℕ) (legs : List LegState) (s : LegState) → IsNumbered leg legs s
    → job_plan rows legs (job.Goodbye leg) ≡ sent_alone s.link.subscriber (leg_goodbye_bytes s) ∷ []
numbered_goodbye rows leg legs s h =
    only rows (job.Goodbye leg) s 0 h.place legs h.rising h.at
    (λ k t other. off _ _ _ (no_number t.number leg (λ e. other (e ∙ sym h.is_number))))
    ∙ ap (λ (k : ℕ). leg_plan rows (job.Goodbye leg) (k, s)) (zero-add h.place)
    ∙ on _ _ _ (is_number s.number leg h.is_number)

-- ---- a packet

quiet_packet : (a on rtp : Bool) → rtp ≡ false → (a && (on && rtp)) ≡ false
quiet_packet true true rtp h = h
quiet_packet true false rtp h = refl
quiet_packet false on rtp h = refl

-- bytes that are no packet plan nothing
pub no_packet : (rows : List Row) (publisher : ℕ) (bytes : List ℕ) (legs : List LegState) → is_rtp bytes ≡ false
    → job_plan rows legs (job.Packet publisher bytes) ≡ []
no_packet rows publisher bytes legs h =
    silent rows (job.Packet publisher bytes) (λ s. Unit {0}) 0 legs
    (λ k s quiet. off _ _ _ (quiet_packet (s.link.publisher == publisher) (row_of rows s).on (is_rtp bytes) h))
    (λ k d below. tt)

-- nor do those of a publisher that isn't there
pub no_publisher : (rows : List Row) (publisher count : ℕ) (bytes : List ℕ) (legs : List LegState)
    → All (λ s. s.link.publisher < count) legs → count ≤ publisher → job_plan rows legs (job.Packet publisher bytes) ≡ []
no_publisher rows publisher count bytes legs h past =
    silent rows (job.Packet publisher bytes) (λ s. s.link.publisher < count) 0 legs
    (λ k s below. off _ _ _ (ap (λ (x : Bool). x && ((row_of rows s).on && is_rtp bytes))
    (no_number s.link.publisher publisher (λ e. absurd (omega (arith, below, e, past))))))
    h

packet_on : (on rtp : Bool) (x : List Planned) → rtp ≡ true → (if on then x else []) ≡ (if on && rtp then x else [])
packet_on true rtp x h = ap (λ (c : Bool). if c then x else []) (sym h)
packet_on false rtp x h = refl

place_step : (b : Bool) (n : ℕ) (f : ℕ → List Planned) (on rtp : Bool) (x : List Planned) (places : List ℕ) (behind : List Planned)
    → f n ≡ (if on then x else []) → rtp ≡ true → flat_map f places ≡ behind
    → flat_map f (if b then n ∷ places else places) ≡ (if b && (on && rtp) then x else []) ++ behind
place_step true n f on rtp x places behind here is more =
    let e = here ∙ packet_on on rtp x is in
    cc
place_step false n f on rtp x places behind here is more = more

places_from : (rows : List Row) (publisher : ℕ) (bytes : List ℕ) (whole front : List LegState) (n : ℕ)
    (rest : List LegState) → n ≡ length front → whole ≡ front ++ rest → is_rtp bytes ≡ true
    → flat_map (plan_of rows bytes whole) (publisher_places publisher (enumerate_from n rest))
    ≡ flat_map (leg_plan rows (job.Packet publisher bytes)) (enumerate_from n rest)
places_from rows publisher bytes whole front n [] e is rtp = refl
places_from rows publisher bytes whole front n (s ∷ rest) e is rtp =
    let at = at_behind whole front n s rest e is in
    let here : plan_of rows bytes whole n ≡ plan_by rows bytes n (Some s) = ap (plan_by rows bytes n) at in
    let more = places_from rows publisher bytes whole (front ++ s ∷ []) (n + 1) rest
    (omega (arith, length-append front (s ∷ []))) (is ∙ sym (append_assoc front (s ∷ []) rest)) rtp in
    place_step (s.link.publisher == publisher) n (plan_of rows bytes whole) (row_of rows s).on (is_rtp bytes)
    (packet_planned n s (row_of rows s).turn bytes (answer_on rows bytes s) ∷ [])
    (publisher_places publisher (enumerate_from (n + 1) rest)) (flat_map (leg_plan rows (job.Packet publisher bytes)) (enumerate_from (n + 1) rest))
    here rtp more

-- what the legs of a publisher do with a packet is all that is planned
pub at_places : (rows : List Row) (publisher : ℕ) (bytes : List ℕ) (legs : List LegState) (places : List ℕ)
    → places ≡ publisher_places publisher (enumerate_from 0 legs) → is_rtp bytes ≡ true
    → flat_map (plan_of rows bytes legs) places ≡ job_plan rows legs (job.Packet publisher bytes)
at_places rows publisher bytes legs places is rtp =
    ap (flat_map (plan_of rows bytes legs)) is ∙ places_from rows publisher bytes legs [] 0 legs refl refl rtp

-- ---- numbers

-- the leg at the place of a number has that number
pub record HasNumberAt (number place : ℕ) (legs : List LegState) : Type 0 where
  pub leg : LegState
  pub at : slice_get legs place ≡ Some leg
  pub number_is : leg.number ≡ number

number_from : (number place : ℕ) (whole front : List LegState) (n : ℕ) (rest : List LegState) → n ≡ length front → whole ≡ front ++ rest
    → leg_place number (enumerate_from n rest) ≡ Some place → HasNumberAt number place whole
number_from number place whole front n [] e is found = absurd (cc)
number_from number place whole front n (s ∷ rest) e is found =
    ⊎_elim
    (λ h.
    let first : leg_place number (enumerate_from n (s ∷ rest)) ≡ Some n =
    ap (λ (b : Bool). if b then Some n else leg_place number (enumerate_from (n + 1) rest)) h.0 in
    let same : n ≡ place = cc in
    let at = at_behind whole front n s rest e is in
    record { leg = s; at = subst (λ (k : ℕ). slice_get whole k ≡ Some s) same at; number_is = h.1 })
    (λ h.
    let later : leg_place number (enumerate_from n (s ∷ rest)) ≡ leg_place number (enumerate_from (n + 1) rest) =
    ap (λ (b : Bool). if b then Some n else leg_place number (enumerate_from (n + 1) rest)) h.0 in
    number_from number place whole (front ++ s ∷ []) (n + 1) rest (omega (arith, length-append front (s ∷ [])))
    (is ∙ sym (append_assoc front (s ∷ []) rest)) (sym later ∙ found))
    (eqb_tells s.number number)

pub number_at : (number place : ℕ) (legs : List LegState) → leg_place number (enumerate_from 0 legs) ≡ Some place
    → HasNumberAt number place legs
number_at number place legs found = number_from number place legs [] 0 legs refl refl found

-- if no place is found no leg has the number
no_place : (number n : ℕ) (legs : List LegState) → leg_place number (enumerate_from n legs) ≡ None → All (λ s. s.number ≢ number) legs
no_place number n [] none = All-nil (λ s. s.number ≢ number)
no_place number n (s ∷ legs) none =
    ⊎_elim
    (λ h. absurd (
    let first : leg_place number (enumerate_from n (s ∷ legs)) ≡ Some n =
    ap (λ (b : Bool). if b then Some n else leg_place number (enumerate_from (n + 1) legs)) h.0 in
    cc))
    (λ h.
    let later : leg_place number (enumerate_from n (s ∷ legs)) ≡ leg_place number (enumerate_from (n + 1) legs) =
    ap (λ (b : Bool). if b then Some n else leg_place number (enumerate_from (n + 1) legs)) h.0 in
    All-cons (λ t. t.number ≢ number) s legs h.1 (no_place number (n + 1) legs (sym later ∙ none)))
    (eqb_tells s.number number)

-- if no place is found, none has the number
pub none_numbered : (number : ℕ) (legs : List LegState) → leg_place number (enumerate_from 0 legs) ≡ None → HasNoNumber number legs
none_numbered number legs none = λ k d below.
    no_number (slice_index_or legs k d).number number (no_place number 0 legs none k d below)

-- the stay stands nowhere if no leg has the number
pub nowhere_without : (rows : List Row) (number stay : ℕ) (legs : List LegState) → leg_place number (enumerate_from 0 legs) ≡ None
    → IsNowhere rows number stay legs
nowhere_without rows number stay legs none = λ k d below.
    ap (λ (x : Bool). x && (not (stay == 0) && ((row_of rows (slice_index_or legs k d)).stay == stay)))
    (no_number (slice_index_or legs k d).number number (no_place number 0 legs none k d below))

-- of legs with rising numbers one at most has the number of the one at a place
alone : (s : LegState) (i : ℕ) (legs : List LegState) → IsRising legs → slice_get legs i ≡ Some s
    → All (λ t. (t.number ≡ s.number) → t ≡ s) legs
alone s i [] rising at = absurd (cc)
alone s zero (t ∷ legs) rising at =
    let same : t ≡ s = cc in
    All-cons (λ u. (u.number ≡ s.number) → u ≡ s) t legs (λ e. same)
    (λ k d below e. absurd (let above = rising.0 k d below in let number = ap (λ (x : LegState). x.number) same in omega arith))
alone s (suc i) (t ∷ legs) rising at =
    let below : t.number < s.number = met (λ u. t.number < u.number) legs i s rising.0 at in
    All-cons (λ u. (u.number ≡ s.number) → u ≡ s) t legs (λ e. absurd (omega (arith, below, e))) (alone s i legs rising.1 at)

both_false : (a b : Bool) → b ≡ false → (a && b) ≡ false
both_false true b h = h
both_false false b h = refl

-- the stay stands nowhere if it doesn't stand on the leg with the number
pub nowhere_beside : (rows : List Row) (number stay place : ℕ) (legs : List LegState) (s : LegState) → IsRising legs
    → slice_get legs place ≡ Some s → s.number ≡ number → (not (stay == 0) && ((row_of rows s).stay == stay)) ≡ false
    → IsNowhere rows number stay legs
nowhere_beside rows number stay place legs s rising at is wrong = λ k d below.
    let t = slice_index_or legs k d in
    ⊎_elim
    (λ h.
    let same : t ≡ s = alone s place legs rising at k d below (h.1 ∙ sym is) in
    ap (stands rows number stay) same
    ∙ ap (λ (x : Bool). x && (not (stay == 0) && ((row_of rows s).stay == stay))) (is_number s.number number is) ∙ wrong)
    (λ h. ap (λ (x : Bool). x && (not (stay == 0) && ((row_of rows t).stay == stay))) h.0)
    (eqb_tells t.number number)

pub standing_at : (rows : List Row) (number stay place : ℕ) (legs : List LegState) (s : LegState) → IsRising legs
    → slice_get legs place ≡ Some s → s.number ≡ number → stay ≢ 0 → (row_of rows s).stay ≡ stay
    → IsStandingAt rows number stay legs place s
standing_at rows number stay place legs s rising at is some same = record {
  at = at;
  stands_here =
      let a = is_number s.number number is in
      let b = no_number stay 0 some in
      let e = is_number (row_of rows s).stay stay same in
      rw (a, b, e) refl;
  rising = rising;
}

-- ---- a change of a leg leaves what is found

all_changed : (P : LegState → Type 0) (legs : List LegState) (i : ℕ) (change : LegState → LegState)
    → ((s : LegState) → P s → P (change s)) → All P legs → All P (changed_at legs i change)
all_changed P [] i change keeps h = h
all_changed P (s ∷ legs) zero change keeps h =
    All-cons P (change s) legs (keeps s (All-head P s legs h)) (All-tail P s legs h)
all_changed P (s ∷ legs) (suc i) change keeps h =
    All-cons P s (changed_at legs i change) (All-head P s legs h) (all_changed P legs i change keeps (All-tail P s legs h))

-- a change that leaves a leg's number and what it joins
pub record LeavesLink (change : LegState → LegState) : Type 0 where
  pub number : (s : LegState) → (change s).number ≡ s.number
  pub link : (s : LegState) → (change s).link ≡ s.link

rising_changed : (legs : List LegState) (i : ℕ) (change : LegState → LegState) → LeavesLink change → IsRising legs
    → IsRising (changed_at legs i change)
rising_changed [] i change leaves h = h
rising_changed (s ∷ legs) zero change leaves h =
    let P : ℕ → Type 0 = λ n. All (λ t. n < t.number) legs in
    (subst P (sym (leaves.number s)) h.0, h.1)
rising_changed (s ∷ legs) (suc i) change leaves h = (
  all_changed (λ t. s.number < t.number) legs i change (λ t below. let e = leaves.number t in omega arith) h.0,
  rising_changed legs i change leaves h.1,
)

places_changed : (publisher n : ℕ) (legs : List LegState) (i : ℕ) (change : LegState → LegState) → LeavesLink change
    → publisher_places publisher (enumerate_from n (changed_at legs i change)) ≡ publisher_places publisher (enumerate_from n legs)
places_changed publisher n [] i change leaves = refl
places_changed publisher n (s ∷ legs) zero change leaves =
    ap (λ (l : LegSettings). if (l.publisher == publisher) then n ∷ publisher_places publisher (enumerate_from (n + 1) legs)
    else publisher_places publisher (enumerate_from (n + 1) legs)) (leaves.link s)
places_changed publisher n (s ∷ legs) (suc i) change leaves =
    ap (λ (l : List ℕ). if (s.link.publisher == publisher) then n ∷ l else l) (places_changed publisher (n + 1) legs i change leaves)

place_changed : (number n : ℕ) (legs : List LegState) (i : ℕ) (change : LegState → LegState) → LeavesLink change
    → leg_place number (enumerate_from n (changed_at legs i change)) ≡ leg_place number (enumerate_from n legs)
place_changed number n [] i change leaves = refl
place_changed number n (s ∷ legs) zero change leaves =
    ap (λ (k : ℕ). if (k == number) then Some n else leg_place number (enumerate_from (n + 1) legs)) (leaves.number s)
place_changed number n (s ∷ legs) (suc i) change leaves =
    ap (λ (o : Option ℕ). if (s.number == number) then Some n else o) (place_changed number (n + 1) legs i change leaves)

found_changed : (lists : List (Vec ℕ)) (places : Sources) (legs : List LegState) (i : ℕ) (change : LegState → LegState)
    → LeavesLink change → AreFound lists places legs → AreFound lists places (changed_at legs i change)
found_changed lists places legs i change leaves h = record {
  rising = rising_changed legs i change leaves h.rising;
  publishers = all_changed (λ s. s.link.publisher < length lists) legs i change
      (λ s below. let e = ap (λ (l : LegSettings). l.publisher) (leaves.link s) in omega arith) h.publishers;
  lists_places = record {
    size = h.lists_places.size;
    each = λ k v at. h.lists_places.each k v at ∙ sym (places_changed k 0 legs i change leaves);
  };
  finds_places = λ number. h.finds_places number ∙ sym (place_changed number 0 legs i change leaves);
}

found_one : (lists : List (Vec ℕ)) (places : Sources) (legs : List LegState) (c : Change) → AreFound lists places legs
    → AreFound lists places (changed_by legs c)
found_one lists places legs Nothing h = h
found_one lists places legs (Keep place numbers number octets packet) h =
    found_changed lists places legs place (λ s. leg_after_packet s numbers number octets packet)
    (record { number = λ s. refl; link = λ s. refl }) h
found_one lists places legs (Count place octets) h =
    found_changed lists places legs place (λ s. handed_out s octets) (record { number = λ s. refl; link = λ s. refl }) h

-- legs are found as before once a plan is done
pub found_applied : (lists : List (Vec ℕ)) (places : Sources) (legs : List LegState) (plan : List Planned) → AreFound lists places legs
    → AreFound lists places (legs_after_plan legs plan)
found_applied lists places legs [] h = h
found_applied lists places legs (p ∷ plan) h = found_applied lists places (applied_one legs p) plan (found_one lists places legs p.change h)

-- ---- new legs

-- the legs of a worker have greater numbers than those before them
owned_above : (t : LinkTable) (ring worker low n : ℕ) (links : List LegSettings) → low < n
    → All (λ s. low < s.number) (owned_by t ring worker (enumerate_from n links))
owned_above t ring worker low n [] h = All-nil (λ s. low < s.number)
owned_above t ring worker low n (l ∷ links) h =
    elim (worker_of t l == worker) as (λ (b : Bool). All (λ s. low < s.number)
    (if b then new_leg_of t ring (n, l) ∷ owned_by t ring worker (enumerate_from (n + 1) links) else owned_by t ring worker (enumerate_from (n + 1) links))) [
      | true ↦ All-cons (λ s. low < s.number) (new_leg_of t ring (n, l)) (owned_by t ring worker (enumerate_from (n + 1) links)) h
          (owned_above t ring worker low (n + 1) links (omega arith))
      | false ↦ owned_above t ring worker low (n + 1) links (omega arith)
    ]

owned_rises : (t : LinkTable) (ring worker n : ℕ) (links : List LegSettings) → IsRising (owned_by t ring worker (enumerate_from n links))
owned_rises t ring worker n [] = tt
owned_rises t ring worker n (l ∷ links) =
    elim (worker_of t l == worker) as (λ (b : Bool). IsRising
    (if b then new_leg_of t ring (n, l) ∷ owned_by t ring worker (enumerate_from (n + 1) links) else owned_by t ring worker (enumerate_from (n + 1) links))) [
      | true ↦ (owned_above t ring worker n (n + 1) links (omega arith), owned_rises t ring worker (n + 1) links)
      | false ↦ owned_rises t ring worker (n + 1) links
    ]

owned_publishers : (t : LinkTable) (ring worker count n : ℕ) (links : List LegSettings) → All (IsLegAmong count) links
    → All (λ s. s.link.publisher < count) (owned_by t ring worker (enumerate_from n links))
owned_publishers t ring worker count n [] h = All-nil (λ s. s.link.publisher < count)
owned_publishers t ring worker count n (l ∷ links) h =
    let below = (All-head (IsLegAmong count) l links h).publisher in
    let more = owned_publishers t ring worker count (n + 1) links (All-tail (IsLegAmong count) l links h) in
    elim (worker_of t l == worker) as (λ (b : Bool). All (λ s. s.link.publisher < count)
    (if b then new_leg_of t ring (n, l) ∷ owned_by t ring worker (enumerate_from (n + 1) links) else owned_by t ring worker (enumerate_from (n + 1) links))) [
      | true ↦ All-cons (λ s. s.link.publisher < count) (new_leg_of t ring (n, l)) (owned_by t ring worker (enumerate_from (n + 1) links)) below more
      | false ↦ more
    ]

-- new legs are found
pub found_new : (t : LinkTable) (ring worker count : ℕ) (lists : List (Vec ℕ)) (places : Sources) (legs : List LegState) → IsLinkTable t
    → legs ≡ new_legs t ring worker → count ≡ length t.endpoints → ListsPlaces lists count legs → FindsPlaces places legs
    → AreFound lists places legs
found_new t ring worker count lists places legs table is among lists_places finds_places =
    let size : length lists ≡ length t.endpoints = lists_places.size ∙ among in
    let publishers = owned_publishers t ring worker (length t.endpoints) 0 t.legs table.legs in
    record {
      rising = subst IsRising (sym is) (owned_rises t ring worker 0 t.legs);
      publishers = subst (λ (l : List LegState). All (λ s. s.link.publisher < length lists) l) (sym is)
          (subst (λ (k : ℕ). All (λ s. s.link.publisher < k) (new_legs t ring worker)) (sym size) publishers);
      lists_places = subst (λ (k : ℕ). ListsPlaces lists k legs) (sym lists_places.size) lists_places;
      finds_places = finds_places;
    }

-- ---- one leg more

-- a vector whose whole slice was written
pub whole_written : (new old : List LegState) (n : ℕ) → n ≡ length old → length new ≡ length old
    → take n (new ++ drop (length new) old) ≡ new
whole_written new old n e same =
    let none : drop (length new) old ≡ [] = drop_all (length new) old (omega arith) in
    ap (λ (l : List LegState). take n (new ++ l)) none ∙ take_at new [] n (omega arith)

-- ---- lists of what is planned

pub unplanned : (old a : List Planned) → a ≡ [] → old ≡ old ++ a
unplanned old a e = sym (ap (λ (l : List Planned). old ++ l) e ∙ append-nil old)

pub moved : {T E : Type 0} (r : Result T E) (new old a b : List Planned) → a ≡ b → OnOk r (new ≡ old ++ a) → OnOk r (new ≡ old ++ b)
moved r new old a b e h = subst (λ (l : List Planned). OnOk r (new ≡ old ++ l)) e h

pub pushed : {T E : Type 0} (r : Result T E) (new mid old a : List Planned) (p : Planned) → mid ≡ old → p ∷ [] ≡ a
    → OnOk r (new ≡ mid ++ p ∷ []) → OnOk r (new ≡ old ++ a)
pushed r new mid old a p same e h =
    subst (λ (l : List Planned). OnOk r (new ≡ old ++ l)) e (subst (λ (l : List Planned). OnOk r (new ≡ l ++ p ∷ [])) same h)

pub desk_request : (rows : List Row) (legs : List LegState) (leg stay word : ℕ)
    → job_plan rows legs (job.Request leg stay word) ≡ []
desk_request rows legs leg stay word =
    silent rows (job.Request leg stay word) (λ s. Unit {0}) 0 legs (λ k s quiet. refl) (λ k d below. tt)

pub desk_pli : (rows : List Row) (legs : List LegState) (leg moment : ℕ)
    → job_plan rows legs (job.Pli leg moment) ≡ []
desk_pli rows legs leg moment =
    silent rows (job.Pli leg moment) (λ s. Unit {0}) 0 legs (λ k s quiet. refl) (λ k d below. tt)

-- ---- the row of a leg

pub row_off : (rows : List Row) (bytes : List ℕ) (place : ℕ) (legs : List LegState) (s : LegState) (row : Row)
    → slice_get legs place ≡ Some s → row ≡ row_of rows s → row.on ≡ false → plan_of rows bytes legs place ≡ []
row_off rows bytes place legs s row at is quiet =
    ap (plan_by rows bytes place) at ∙ off _ _ _ (ap (λ (r : Row). r.on) (sym is) ∙ quiet)

pub row_on : (rows : List Row) (bytes : List ℕ) (place : ℕ) (legs : List LegState) (s : LegState) (row : Row)
    → slice_get legs place ≡ Some s → row ≡ row_of rows s → row.on ≡ true
    → packet_planned place s row.turn bytes (answer_to s.numbers row.turn (sequence_number bytes)) ∷ [] ≡ plan_of rows bytes legs place
row_on rows bytes place legs s row at is loud =
    ap (λ (r : Row). packet_planned place s r.turn bytes (answer_to s.numbers r.turn (sequence_number bytes)) ∷ []) is
    ∙ sym (ap (plan_by rows bytes place) at ∙ on _ _ _ (ap (λ (r : Row). r.on) (sym is) ∙ loud))

pub no_leg : (rows : List Row) (bytes : List ℕ) (place : ℕ) (legs : List LegState) → length legs ≤ place
    → plan_of rows bytes legs place ≡ []
no_leg rows bytes place legs past = ap (plan_by rows bytes place) (slice_get_past legs place past)

pub negated : (b : Bool) → not b ≡ true → b ≡ false
negated true h = absurd (cc)
negated false h = refl

pub not_negated : (b : Bool) → not b ≡ false → b ≡ true
not_negated true h = refl
not_negated false h = absurd (cc)

-- the leg that is found for a number has it
pub found_number : (number place : ℕ) (legs : List LegState) (s : LegState) → leg_place number (enumerate_from 0 legs) ≡ Some place
    → slice_get legs place ≡ Some s → s.number ≡ number
found_number number place legs s found at =
    let h = number_at number place legs found in
    let here = h.at in
    let same : s ≡ h.leg = cc in
    ap (λ (t : LegState). t.number) same ∙ h.number_is

pub found_within : (number place : ℕ) (legs : List LegState) → leg_place number (enumerate_from 0 legs) ≡ Some place → place < length legs
found_within number place legs found =
    let h = number_at number place legs found in
    slice_get_within legs place h.leg h.at

pub nowhere_other : (rows : List Row) (number stay place : ℕ) (legs : List LegState) (s : LegState) → IsRising legs
    → slice_get legs place ≡ Some s → s.number ≡ number → (row_of rows s).stay ≢ stay → IsNowhere rows number stay legs
nowhere_other rows number stay place legs s rising at is other =
    nowhere_beside rows number stay place legs s rising at is
    (both_false (not (stay == 0)) ((row_of rows s).stay == stay) (no_number (row_of rows s).stay stay other))

owned_count : (t : LinkTable) (ring worker n : ℕ) (links : List LegSettings)
    → length (owned_by t ring worker (enumerate_from n links)) ≤ length links
owned_count t ring worker n [] = omega arith
owned_count t ring worker n (l ∷ links) =
    let more = owned_count t ring worker (n + 1) links in
    elim (worker_of t l == worker) as (λ (b : Bool). length
    (if b then new_leg_of t ring (n, l) ∷ owned_by t ring worker (enumerate_from (n + 1) links) else owned_by t ring worker (enumerate_from (n + 1) links))
    ≤ length (l ∷ links)) [ true ↦ omega arith | false ↦ omega arith ]

-- a worker has no more legs than there are
pub owned_few : (t : LinkTable) (ring worker : ℕ) (legs : List LegState) → IsLinkTable t → legs ≡ new_legs t ring worker
    → length legs ≤ MAX_LEGS
owned_few t ring worker legs table is =
    let count = owned_count t ring worker 0 t.legs in
    let size = ap length is in
    let most = table.most_legs in
    omega arith
