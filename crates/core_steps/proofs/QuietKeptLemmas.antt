-- What holds in every world of a run, for the quiet law, and how one recorded call or one turn of a worker keeps it.
use Rattle.std.proofs.Common.{◌≡◌, ◌≢◌, ℕ, zero, suc, ◌<◌, ◌≤◌, List, [], ◌∷◌, ◌++◌, length, get_or, map, refl, sym, ap, subst, ◌∙◌, arith, Option, Some, None, Bool, true, false, cond, inl, inr}
use Rattle.std.specs.Prelude.{◌⊎◌, ◌==◌, ◌%◌, slice_get, slice_index_or, option_map}
use Rattle.std.specs.List.{last_or, AllByRecursion}
use Rattle.std.proofs.lemmas.Bool.{cases_lt, eqb-true}
use Rattle.std.proofs.lemmas.Bool.Decides.{nat_tests}
use Rattle.std.proofs.lemmas.Option.{slice_get_within, get_or_from_slice_get}
use Rattle.tmmbr_tuple.specs.declared.ssrc.Ssrc.{Ssrc}
use Rattle.tmmbr_tuple.specs.declared.tuple.Tuple.{Tuple}
use Rattle.tmmbr_tuple.specs.Tuple.{word_of}
use Rattle.members.specs.declared.presence.Endpoint.{Endpoint}
use Rattle.settings.specs.declared.settings.LegSettings.{LegSettings}
use Rattle.members.specs.declared.stays.LegStay.{LegStay}
use Rattle.members.specs.Room.{leg_at}
use Rattle.settings.specs.Settings.{Configuration, IsInRange, IsLegAmong}
use Rattle.members.proofs.EndedLemmas.{Once}
use Rattle.members.proofs.StandLemmas.{Stand}
use Rattle.desk.specs.declared.call.Call.{Call as DeskCall}
use Rattle.desk.specs.declared.call.Call.TheVariants.{Stay}
use Rattle.desk.specs.declared.call.Change.{Change}
use Rattle.desk.specs.declared.call.Change.TheVariants as change
use Rattle.desk.specs.declared.call.Entry.{Entry}
use Rattle.desk.specs.declared.presence.Present.{Present}
use Rattle.desk.specs.declared.presence.TheConstants.{PRESENT_LIMIT}
use Rattle.desk.specs.declared.call.Answer.TheVariants.{NotPresent}
use Rattle.desk.specs.Call.{is_done}
use Rattle.desk.specs.Presence.{stay_in, asked_in, refusal_of, unless_absent_with_room, unless_present_with}
use Rattle.desk.specs.Places.{IsArriveOf, IsRequestOf, IsDepartOf, IsExpire}
use Rattle.desk.specs.State.{DeskState, now_of}
use Rattle.desk.specs.Trace.{base_after, empty_base}
use Rattle.events.specs.declared.job.Job.{Job}
use Rattle.events.specs.declared.job.Job.TheVariants.{Packet, Request, Resend, Pli, Report, Goodbye}
use Rattle.desk_calls.specs.DeskCalls.{source_of, stay_call}
use Rattle.core_steps.specs.Happening.{RecordedCall, Worked, desks_by, workers_by, worker_after, no_worker}
use Rattle.core_steps.specs.Hearing.{owner_of}
use Rattle.settings.specs.Links.{table_of, worker_of}
use Rattle.core_steps.specs.Quiet.{HeardRate}
use Rattle.core_steps.specs.Traces.{IsRequestIn}
use Rattle.core_steps.specs.Rule.{IsRecordedCall}
use Rattle.core_steps.specs.World.{WorkerState, Task, order, push, pulse, expire, report, Hand, free, doing, telling}
use Rattle.core_steps.proofs.QuietDeskLemmas.{Holding, NotBy, IsOther}
use Rattle.core_steps.proofs.QuietLegLemmas.{set_cases, entries_other, asker, IsOfLeg, IsByLeg, IsKeptDesk, kept_more, done_of, refused_of, IsAsking, asking_other, asking_arrived, asking_departed, asking_requested, few_present}
use Rattle.core_steps.proofs.QuietQueueLemmas.{hand_asks, jobs_asks, words_of, OrdersFirst, IsWaiting}

-- ---- requests wait at the worker that owns their leg

abbrev pub IsPlaced : Configuration → ℕ → Job → Type 0
IsPlaced c k (Packet publisher bytes) = Unit {0}
IsPlaced c k (Request leg stay word) = owner_of (table_of c) leg ≡ k
IsPlaced c k (Resend leg stay nack) = Unit {0}
IsPlaced c k (Pli leg moment) = Unit {0}
IsPlaced c k (Report leg stay sr) = Unit {0}
IsPlaced c k (Goodbye leg) = Unit {0}

abbrev pub IsPlacedHand : Configuration → ℕ → Hand → Type 0
IsPlacedHand c k free = Unit {0}
IsPlacedHand c k (doing job) = IsPlaced c k job
IsPlacedHand c k (telling p) = Unit {0}

abbrev pub IsPlacedTask : Configuration → Task → Type 0
IsPlacedTask c (order o) = Unit {0}
IsPlacedTask c (push k job) = IsPlaced c k job
IsPlacedTask c (pulse p) = Unit {0}
IsPlacedTask c (expire p) = Unit {0}
IsPlacedTask c (report p) = Unit {0}

pub record IsPlacedWorker (c : Configuration) (k : ℕ) (s : WorkerState) : Type 0 where
  pub jobs : AllByRecursion (IsPlaced c k) s.jobs
  pub hand : IsPlacedHand c k s.hand

-- ---- what is kept of a leg, and of all

abbrev pub stay_at : List LegStay → ℕ → ℕ
stay_at ls n = (leg_at ls n).stay

-- the stay with which the leg's subscriber is present at the desk, and what it asked so far
pub record IsKeptLeg (c : Configuration) (n : ℕ) (l : LegSettings) (next stands : ℕ) (tasks : List Task) (desks : List DeskState)
    (workers : List WorkerState) (rates : List HeardRate) (asked : List RecordedCall) : Type 0 where
  pub stay : ℕ
  pub done : List (ℕ × ℕ)
  pub asking : (d : DeskState) → slice_get desks l.publisher ≡ Some d → IsAsking c l d asked stay (last_or None (words_of stay done))
  pub waiting : (s : WorkerState) → slice_get workers (worker_of (table_of c) l) ≡ Some s
      → IsWaiting n next stands tasks (hand_asks n s.hand) (jobs_asks n s.jobs) rates stay done

pub record IsKept (c : Configuration) (es : List Endpoint) (ls : List LegStay) (next : ℕ) (tasks : List Task) (desks : List DeskState)
    (workers : List WorkerState) (rates : List HeardRate) (asked : List RecordedCall) : Type 0 where
  pub stand : Stand es ls
  pub past : List ℕ
  pub once : Once past [] next ls
  pub first : OrdersFirst tasks
  pub placed : AllByRecursion (IsPlacedTask c) tasks
  pub worker_count : length workers ≡ c.workers
  pub workers_placed : (k : ℕ) (s : WorkerState) → slice_get workers k ≡ Some s → IsPlacedWorker c k s
  pub desk_count : length desks ≡ length c.endpoints
  pub desks_kept : (p : ℕ) (d : DeskState) → slice_get desks p ≡ Some d → IsKeptDesk c p d asked
  pub legs_kept : (n : ℕ) (l : LegSettings) → slice_get c.legs n ≡ Some l
      → IsKeptLeg c n l next (stay_at ls n) tasks desks workers rates asked

-- ---- legs of settings

leg_among : (c : Configuration) (n : ℕ) (l : LegSettings) → IsInRange c → slice_get c.legs n ≡ Some l → IsLegAmong (length c.endpoints) l
leg_among c n l range there =
    subst (λ (x : LegSettings). IsLegAmong (length c.endpoints) x) (get_or_from_slice_get c.legs n l l there)
    (range.legs n l (slice_get_within c.legs n l there))

pub desk_there : (c : Configuration) (n : ℕ) (l : LegSettings) (desks : List DeskState) → IsInRange c → slice_get c.legs n ≡ Some l
    → length desks ≡ length c.endpoints → l.publisher < length desks
desk_there c n l desks range there count = omega (arith, count, (leg_among c n l range there).publisher)

mod_less : (a n : ℕ) → 1 ≤ n → a % n < n
mod_less a n some = omega arith

some_at : {X : Type 0} (xs : List X) (k : ℕ) → k < length xs → (x : X) × (slice_get xs k ≡ Some x)
some_at [] k below = absurd (omega arith)
some_at (x ∷ xs) zero below = (x, refl)
some_at (x ∷ xs) (suc k) below = some_at xs k (omega arith)

pub worker_there : (c : Configuration) (l : LegSettings) (workers : List WorkerState) → IsInRange c → length workers ≡ c.workers
    → (s : WorkerState) × (slice_get workers (worker_of (table_of c) l) ≡ Some s)
worker_there c l workers range count =
    some_at workers (worker_of (table_of c) l) (omega (arith, count, mod_less l.subscriber c.workers range.least_workers))

-- two subscribers have two sources
same_source : (c : Configuration) (i j : ℕ) → IsInRange c → i < length c.endpoints → j < length c.endpoints
    → (source_of (table_of c) i).0 ≡ (source_of (table_of c) j).0 → i ≡ j
same_source c i j range low high same =
    elim (cases_lt i j) [
      | inl less ↦ absurd (apart i j less high same)
      | inr more ↦ elim (cases_lt j i) [ inl less ↦ absurd (apart j i less low (sym same)) | inr not ↦ omega arith ]
    ]
  where
    read : (es : List Ssrc) (more : List ℕ) (k : ℕ) → k < length es
        → get_or (map (λ (e : Ssrc). e.0) es ++ more) k 0 ≡ (get_or es k (record { 0 = 0 })).0
    read [] more k below = absurd (omega arith)
    read (e ∷ es) more zero below = refl
    read (e ∷ es) more (suc k) below = read es more k (omega arith)

    size : (es : List Ssrc) (more : List ℕ) → length es ≤ length (map (λ (e : Ssrc). e.0) es ++ more)
    size [] more = omega arith
    size (e ∷ es) more = omega (arith, size es more)

    apart : (a b : ℕ) → a < b → b < length c.endpoints → (source_of (table_of c) a).0 ≡ (source_of (table_of c) b).0 → ⊥
    apart a b less below equal =
        range.sources (suc a) (suc b) 0 (omega (arith, less))
        (omega (arith, below, size c.endpoints (map (λ (l : LegSettings). l.out_ssrc.0) c.legs)))
        (read c.endpoints (map (λ (l : LegSettings). l.out_ssrc.0) c.legs) a (omega (arith, less, below))
        ∙ (equal ∙ sym (read c.endpoints (map (λ (l : LegSettings). l.out_ssrc.0) c.legs) b below)))

-- of two legs of one publisher the subscribers have two sources
pub askers_differ : (c : Configuration) (n m : ℕ) (l k : LegSettings) → IsInRange c → slice_get c.legs n ≡ Some l → slice_get c.legs m ≡ Some k
    → n ≢ m → l.publisher ≡ k.publisher → asker c l ≢ asker c k
askers_differ c n m l k range first second differs publisher same =
    elim (cases_lt n m) [
      | inl less ↦ pairs n m l k first second less subscribers publisher
      | inr more ↦ elim (cases_lt m n) [
        | inl less ↦ pairs m n k l second first less (sym subscribers) (sym publisher)
        | inr not ↦ differs (omega arith)
      ]
    ]
  where
    subscribers : l.subscriber ≡ k.subscriber
    subscribers =
        same_source c l.subscriber k.subscriber range (leg_among c n l range first).subscriber (leg_among c m k range second).subscriber same

    pairs : (i j : ℕ) (a b : LegSettings) → slice_get c.legs i ≡ Some a → slice_get c.legs j ≡ Some b → i < j
        → a.subscriber ≡ b.subscriber → a.publisher ≡ b.publisher → ⊥
    pairs i j a b x y less subscriber publisher =
        let at : get_or c.legs i a ≡ a = get_or_from_slice_get c.legs i a a x in
        let bt : get_or c.legs j a ≡ b = get_or_from_slice_get c.legs j b a y in
        range.pairs i j a less (slice_get_within c.legs j b y)
        (ap (λ (z : LegSettings). z.subscriber) at ∙ (subscriber ∙ ap (λ (z : LegSettings). z.subscriber) (sym bt)))
        (ap (λ (z : LegSettings). z.publisher) at ∙ (publisher ∙ ap (λ (z : LegSettings). z.publisher) (sym bt)))

-- ---- a call of a leg's subscriber

pub record IsLegCall (c : Configuration) (m stay : ℕ) (ch : Change) (p : ℕ) (call : DeskCall) : Type 0 where
  pub leg : LegSettings
  pub there : slice_get c.legs m ≡ Some leg
  pub from : leg.publisher ≡ p
  pub is : call ≡ Stay (source_of (table_of c) leg.subscriber) stay ch
  pub some : 1 ≤ stay

abbrev pub IfLegCall : Configuration → ℕ → ℕ → Change → Option (ℕ × DeskCall) → Type 0
IfLegCall c m stay ch None = (stay ≡ 0) ⊎ (slice_get c.legs m ≡ None)
IfLegCall c m stay ch (Some (p, call)) = IsLegCall c m stay ch p call

pub leg_call : (c : Configuration) (m stay : ℕ) (ch : Change) → IfLegCall c m stay ch (stay_call (table_of c) m stay ch)
leg_call c m stay ch = step (stay == 0) refl (slice_get c.legs m) refl
  where
    step : (b : Bool) → (stay == 0) ≡ b → (o : Option LegSettings) → slice_get c.legs m ≡ o
        → IfLegCall c m stay ch (cond b None (option_map (λ (l : LegSettings). (l.publisher, Stay (source_of (table_of c) l.subscriber) stay ch)) o))
    step true e o f = inl (eqb-true stay 0 e)
    step false e None f = inr f
    step false e (Some l) f = record { leg = l; there = f; from = refl; is = refl; some = grind (arith, nat_tests) }

pub by_leg : (c : Configuration) (m stay : ℕ) (ch : Change) (p : ℕ) (call : DeskCall) → IsLegCall c m stay ch p call → IsByLeg c p call
by_leg c m stay ch p call h =
    subst (λ (x : DeskCall). IsByLeg c p x) (sym h.is) (record { number = m; leg = h.leg; there = h.there; from = h.from; to = refl })

-- ---- desks, once one of them recorded a call

module _ (c : Configuration) (desks : List DeskState) (asked : List RecordedCall) (p : ℕ) (d : DeskState) (call : DeskCall) (a : RecordedCall)
    (there : slice_get desks p ≡ Some d) (keeps : IsKeptDesk c p d asked) (recorded : IsRecordedCall p d call a) where
  pub desks_more : IsByLeg c p call → ((q : ℕ) (x : DeskState) → slice_get desks q ≡ Some x → IsKeptDesk c q x asked)
      → (q : ℕ) (x : DeskState) → slice_get (desks_by desks a) q ≡ Some x → IsKeptDesk c q x (asked ++ a ∷ [])
  desks_more by each q x at =
      elim (set_cases desks a.publisher q a.desk x at) [
        | inl here ↦
            subst (λ (y : DeskState). IsKeptDesk c q y (asked ++ a ∷ [])) (sym here.1)
            (subst (λ (k : ℕ). IsKeptDesk c k a.desk (asked ++ a ∷ [])) (sym recorded.publisher ∙ here.0)
            (kept_more c p d asked call a keeps recorded by))
        | inr other ↦
            let h = each q x other.1 in
            record {
              legal = h.legal;
              ms = h.ms;
              by = h.by ∙ ap (λ (es : List Entry). base_after c.request_ms empty_base es)
                  (sym (entries_other q asked a other.0));
              base = h.base;
              owners = h.owners;
            }
      ]

  module _ (l : LegSettings) (stay : ℕ) (word : Option ℕ) where
    -- the call is of another publisher, or another's, or refused
    pub asking_elsewhere : ((x : DeskState) → slice_get desks l.publisher ≡ Some x → IsAsking c l x asked stay word)
        → (p ≡ l.publisher → IsOther (asker c l) (is_done a.answer) a.call)
        → (x : DeskState) → slice_get (desks_by desks a) l.publisher ≡ Some x → IsAsking c l x (asked ++ a ∷ []) stay word
    asking_elsewhere each other x at =
        elim (set_cases desks a.publisher l.publisher a.desk x at) [
          | inl here ↦
              let same : p ≡ l.publisher = sym recorded.publisher ∙ here.0 in
              subst (λ (y : DeskState). IsAsking c l y (asked ++ a ∷ []) stay word) (sym here.1)
              (asking_other c l d asked call a (subst (λ (k : ℕ). IsKeptDesk c k d asked) same keeps)
              (subst (λ (k : ℕ). IsRecordedCall k d call a) same recorded) stay word (other same)
              (each d (subst (λ (k : ℕ). slice_get desks k ≡ Some d) same there)))
          | inr apart ↦
              let h = each x apart.1 in
              record {
                stays = h.stays;
                holds = λ some. subst (λ (es : List Entry). Holding c.request_ms es (asker c l) stay (asked_in (now_of x).present.items (asker c l)) word)
                    (sym (entries_other l.publisher asked a apart.0)) (h.holds some);
              }
        ]

    -- the call is of this publisher
    pub asking_here : p ≡ l.publisher → IsAsking c l a.desk (asked ++ a ∷ []) stay word
        → (x : DeskState) → slice_get (desks_by desks a) l.publisher ≡ Some x → IsAsking c l x (asked ++ a ∷ []) stay word
    asking_here same h x at =
        elim (set_cases desks a.publisher l.publisher a.desk x at) [
          | inl here ↦ subst (λ (y : DeskState). IsAsking c l y (asked ++ a ∷ []) stay word) (sym here.1) h
          | inr apart ↦ absurd (apart.0 (recorded.publisher ∙ same))
        ]

pub other_leg : (c : Configuration) (n m stay : ℕ) (l : LegSettings) (ch : Change) (p : ℕ) (call : DeskCall) (a : RecordedCall) → IsInRange c
    → slice_get c.legs n ≡ Some l → IsLegCall c m stay ch p call → a.call ≡ call → n ≢ m
    → p ≡ l.publisher → IsOther (asker c l) (is_done a.answer) a.call
other_leg c n m stay l ch p call a range at h names differs same =
    inr (subst (λ (x : DeskCall). NotBy (asker c l) x) (sym (names ∙ h.is))
    (λ e. askers_differ c n m l h.leg range at h.there differs (sym same ∙ sym h.from) (sym e)))

-- ---- the calls of a leg's own subscriber

room_to_arrive : (present : List Present) (owner : ℕ) → stay_in present owner ≡ 0 → length present < PRESENT_LIMIT
    → unless_absent_with_room present owner ≡ None
room_to_arrive present owner absent few = grind (arith, nat_tests, absent, few)

present_to_ask : (present : List Present) (owner stay : ℕ) → stay_in present owner ≡ stay → unless_present_with present owner stay ≡ None
present_to_ask present owner stay is = grind (arith, nat_tests, is)

not_present_to_ask : (present : List Present) (owner stay : ℕ) → stay_in present owner ≢ stay
    → unless_present_with present owner stay ≡ Some (NotPresent (stay_in present owner))
not_present_to_ask present owner stay differs = grind (arith, nat_tests, differs)

module _ (c : Configuration) (l : LegSettings) (d : DeskState) (asked : List RecordedCall) (a : RecordedCall) (stay : ℕ)
    (keeps : IsKeptDesk c l.publisher d asked) where
  abbrev caller : Ssrc
  caller = source_of (table_of c) l.subscriber

  pub own_arrive : IsInRange c → IsOfLeg c l.publisher (asker c l) → IsRecordedCall l.publisher d (Stay (source_of (table_of c) l.subscriber) stay change.Arrive) a
      → (word : Option ℕ) → IsAsking c l d asked 0 word → IsAsking c l a.desk (asked ++ a ∷ []) stay None
  own_arrive range of recorded word h =
      let few = few_present c l.publisher d asked (asker c l) range keeps of h.stays in
      let none : refusal_of (now_of d).present.items a.call ≡ None =
      ap (refusal_of (now_of d).present.items) recorded.names ∙ room_to_arrive (now_of d).present.items (asker c l) h.stays few in
      let done = done_of c l.publisher d asked (Stay caller stay change.Arrive) a keeps recorded none in
      asking_arrived c l d asked (Stay caller stay change.Arrive) a keeps recorded stay
      (done, subst (λ (x : DeskCall). IsArriveOf (asker c l) stay x) (sym recorded.names) (refl, (refl, refl)))

  pub own_depart : IsRecordedCall l.publisher d (Stay (source_of (table_of c) l.subscriber) stay change.Depart) a
      → (word later : Option ℕ) → IsAsking c l d asked stay word → IsAsking c l a.desk (asked ++ a ∷ []) 0 later
  own_depart recorded word later h =
      let none : refusal_of (now_of d).present.items a.call ≡ None =
      ap (refusal_of (now_of d).present.items) recorded.names ∙ present_to_ask (now_of d).present.items (asker c l) stay h.stays in
      let done = done_of c l.publisher d asked (Stay caller stay change.Depart) a keeps recorded none in
      asking_departed c l d asked (Stay caller stay change.Depart) a keeps recorded later
      (done, subst (λ (x : DeskCall). IsDepartOf (asker c l) x) (sym recorded.names) (refl, refl))
      (λ s x. let y : IsArriveOf (asker c l) s (Stay caller stay change.Depart) = subst (λ (z : DeskCall). IsArriveOf (asker c l) s z) recorded.names x in
      let z : change.Depart ≡ change.Arrive = y.1.1 in cc)
      (λ t x. let y : IsRequestOf (asker c l) t (Stay caller stay change.Depart) = subst (λ (z : DeskCall). IsRequestOf (asker c l) t z) recorded.names x in
      let z : change.Depart ≡ change.Request t = y.1 in cc)
      (λ x. subst (λ (z : DeskCall). IsExpire z) recorded.names x.1)

  -- a request in the stay with which it is present
  pub own_request : (t : Tuple) → IsRecordedCall l.publisher d (Stay (source_of (table_of c) l.subscriber) stay (change.Request t)) a
      → (word : Option ℕ) → 1 ≤ stay → IsAsking c l d asked stay word → IsAsking c l a.desk (asked ++ a ∷ []) stay (Some (word_of t))
  own_request t recorded word some h =
      let none : refusal_of (now_of d).present.items a.call ≡ None =
      ap (refusal_of (now_of d).present.items) recorded.names ∙ present_to_ask (now_of d).present.items (asker c l) stay h.stays in
      let done = done_of c l.publisher d asked (Stay caller stay (change.Request t)) a keeps recorded none in
      asking_requested c l d asked (Stay caller stay (change.Request t)) a keeps recorded stay word t some
      (done, subst (λ (x : DeskCall). IsRequestIn (asker c l) stay t x) (sym recorded.names) (refl, (refl, refl)))
      (λ x. let y : IsDepartOf (asker c l) (Stay caller stay (change.Request t)) = subst (λ (z : DeskCall). IsDepartOf (asker c l) z) recorded.names x in
      let z : change.Request t ≡ change.Depart = y.1 in cc) h

  -- a late request is refused
  pub late_request : (t : Tuple) → IsRecordedCall l.publisher d (Stay (source_of (table_of c) l.subscriber) stay (change.Request t)) a
      → (now : ℕ) (word : Option ℕ) → now ≢ stay → IsAsking c l d asked now word → IsAsking c l a.desk (asked ++ a ∷ []) now word
  late_request t recorded now word differs h =
      let here : stay_in (now_of d).present.items (asker c l) ≢ stay = λ e. differs (sym h.stays ∙ e) in
      let some : refusal_of (now_of d).present.items a.call ≡ Some (NotPresent (stay_in (now_of d).present.items (asker c l))) =
      ap (refusal_of (now_of d).present.items) recorded.names ∙ not_present_to_ask (now_of d).present.items (asker c l) stay here in
      asking_other c l d asked (Stay caller stay (change.Request t)) a keeps recorded now word
      (inl (refused_of c l.publisher d asked (Stay caller stay (change.Request t)) a keeps recorded _ some)) h

-- ---- workers, once something was done at one of them

module _ (c : Configuration) (workers : List WorkerState) (s : WorkerState) (at : Worked) (there : slice_get workers at.worker ≡ Some s) where
  its_worker : worker_after (slice_index_or workers at.worker no_worker) at ≡ worker_after s at
  its_worker = ap (λ (x : WorkerState). worker_after x at) (get_or_from_slice_get workers at.worker s no_worker there)

  pub workers_more : ((k : ℕ) (x : WorkerState) → slice_get workers k ≡ Some x → IsPlacedWorker c k x) → IsPlacedWorker c at.worker (worker_after s at)
      → (k : ℕ) (x : WorkerState) → slice_get (workers_by workers at) k ≡ Some x → IsPlacedWorker c k x
  workers_more each new k x h =
      elim (set_cases workers at.worker k (worker_after (slice_index_or workers at.worker no_worker) at) x h) [
        | inl here ↦
            subst (λ (y : WorkerState). IsPlacedWorker c k y) (sym (here.1 ∙ its_worker))
            (subst (λ (j : ℕ). IsPlacedWorker c j (worker_after s at)) here.0 new)
        | inr other ↦ each k x other.1
      ]

  -- whatever holds of the worker before and of it after, or of another
  pub worker_cases : (P Q : WorkerState → Type 0) (k : ℕ) → ((x : WorkerState) → slice_get workers k ≡ Some x → P x)
      → (at.worker ≡ k → P s → Q (worker_after s at)) → (at.worker ≢ k → (x : WorkerState) → P x → Q x)
      → (x : WorkerState) → slice_get (workers_by workers at) k ≡ Some x → Q x
  worker_cases P Q k each same other x h =
      elim (set_cases workers at.worker k (worker_after (slice_index_or workers at.worker no_worker) at) x h) [
        | inl here ↦
            subst Q (sym (here.1 ∙ its_worker))
            (same here.0 (each s (subst (λ (j : ℕ). slice_get workers j ≡ Some s) here.0 there)))
        | inr apart ↦ other apart.0 x (each x apart.1)
      ]
