-- What a task of the ingress keeps, for the quiet law.
use Rattle.std.proofs.Common.{◌≡◌, ◌≢◌, ℕ, zero, suc, ◌≤◌, List, [], ◌∷◌, ◌++◌, length, refl, sym, ap, subst, ◌∙◌, arith, Option, Some, None, Bool, true, false, inl, inr, append-nil}
use Rattle.std.specs.Prelude.{◌==◌, MatchBool, slice_get, slice_set}
use Rattle.std.specs.List.{last_or, AllByRecursion}
use Rattle.std.specs.Option.{option_map_or}
use Rattle.std.proofs.lemmas.Bool.{cases_eq, eq-eqb, eqb-true}
use Rattle.std.proofs.lemmas.Bool.Decides.{nat_tests}
use Rattle.std.proofs.lemmas.Option.{none-some, same_Some}
use Rattle.members.specs.declared.order.Order.TheVariants.{Arrive, Depart}
use Rattle.members.specs.declared.presence.Endpoint.{Endpoint}
use Rattle.settings.specs.declared.settings.LegSettings.{LegSettings}
use Rattle.members.specs.declared.stays.LegStay.{LegStay}
use Rattle.settings.specs.Settings.{Configuration, IsInRange}
use Rattle.desk.specs.declared.call.Call.{Call as DeskCall}
use Rattle.desk.specs.declared.call.Call.TheVariants.{Stay}
use Rattle.desk.specs.declared.call.Change.{Change}
use Rattle.desk.specs.declared.call.Change.TheVariants as change
use Rattle.desk.specs.Call.{is_done}
use Rattle.desk.specs.State.{DeskState}
use Rattle.events.specs.declared.job.Job.{Job}
use Rattle.events.specs.declared.job.Job.TheVariants.{Packet, Request, Resend, Pli, Report, Goodbye}
use Rattle.desk_calls.specs.DeskCalls.{source_of}
use Rattle.core_steps.specs.Happening.{RecordedCall, desks_by, workers_by}
use Rattle.core_steps.specs.Hearing.{owner_of}
use Rattle.settings.specs.Links.{table_of, worker_of}
use Rattle.core_steps.specs.Quiet.{HeardRate}
use Rattle.core_steps.specs.Rule.{IsRecordedCall, putting}
use Rattle.core_steps.specs.World.{WorkerState, Task, order, push, pulse, expire, report}
use Rattle.core_steps.proofs.QuietDeskLemmas.{IsOther}
use Rattle.core_steps.proofs.QuietLegLemmas.{asker, IsByLeg, IsKeptDesk, IsAsking}
use Rattle.core_steps.proofs.QuietQueueLemmas.{job_asks, hand_asks, jobs_asks, jobs_asks-append, task_asks, asks_if, words_of, OrdersFirst, no_orders-first, Tracks, IsWaiting, waiting_rest, waiting_put, silent_before}
use Rattle.core_steps.proofs.QuietKeptLemmas.{IsPlaced, IsPlacedTask, IsPlacedWorker, stay_at, IsKeptLeg, IsKept, worker_there, IsLegCall, by_leg, desks_more, asking_elsewhere, asking_here, other_leg, own_arrive, own_depart, workers_more, worker_cases}

-- ---- small facts

pub length_set : {X : Type 0} (xs : List X) (k : ℕ) (x : X) → length (slice_set xs k x) ≡ length xs
length_set [] k x = refl
length_set (y ∷ xs) zero x = refl
length_set (y ∷ xs) (suc k) x = ap suc (length_set xs k x)

first_rest : (t : Task) (ts : List Task) → OrdersFirst (t ∷ ts) → OrdersFirst ts
first_rest (order o) ts h = h
first_rest (push k job) ts h = no_orders-first ts h
first_rest (pulse p) ts h = no_orders-first ts h
first_rest (expire p) ts h = no_orders-first ts h
first_rest (report p) ts h = no_orders-first ts h

when_true : (P Q : Type 0) (b : Bool) → b ≡ true → MatchBool b P Q → P
when_true P Q b e h = subst (λ (x : Bool). MatchBool x P Q) e h

when_false : (P Q : Type 0) (b : Bool) → b ≡ false → MatchBool b P Q → Q
when_false P Q b e h = subst (λ (x : Bool). MatchBool x P Q) e h

pub unlike : (a b : ℕ) → a ≢ b → (a == b) ≡ false
unlike a b differs = grind (arith, nat_tests)

module _ (c : Configuration) (range : IsInRange c) (es : List Endpoint) (ls : List LegStay) (next : ℕ) (rates : List HeardRate) where
  -- ---- a task that asks nobody

  pub kept_pop : (t : Task) (ts : List Task) (desks : List DeskState) (workers : List WorkerState) (asked : List RecordedCall)
      → ((n : ℕ) (l : LegSettings) (bound now stands : ℕ) → slice_get c.legs n ≡ Some l → Tracks n bound now (t ∷ ts) stands → Tracks n bound now ts stands)
      → ((n : ℕ) (l : LegSettings) → slice_get c.legs n ≡ Some l → task_asks n t ≡ [])
      → IsKept c es ls next (t ∷ ts) desks workers rates asked → IsKept c es ls next ts desks workers rates asked
  kept_pop t ts desks workers asked pass none h = record {
    stand = h.stand;
    past = h.past;
    once = h.once;
    first = first_rest t ts h.first;
    placed = h.placed.1;
    worker_count = h.worker_count;
    workers_placed = h.workers_placed;
    desk_count = h.desk_count;
    desks_kept = h.desks_kept;
    legs_kept = λ n l at. leg n l at (h.legs_kept n l at);
  }
    where
      leg : (n : ℕ) (l : LegSettings) → slice_get c.legs n ≡ Some l → IsKeptLeg c n l next (stay_at ls n) (t ∷ ts) desks workers rates asked
          → IsKeptLeg c n l next (stay_at ls n) ts desks workers rates asked
      leg n l at k = record {
        stay = k.stay;
        done = k.done;
        asking = k.asking;
        waiting = λ s there. let w = k.waiting s there in
            waiting_rest n (hand_asks n s.hand) (jobs_asks n s.jobs) rates k.stay k.done next (stay_at ls n) t ts k.stay (none n l at) w
            (pass n l w.bound k.stay (stay_at ls n) at w.tracks);
      }

  -- ---- a call that a desk recorded

  module _ (desks : List DeskState) (asked : List RecordedCall) (p : ℕ) (d : DeskState) (call : DeskCall) (a : RecordedCall)
      (there : slice_get desks p ≡ Some d) (recorded : IsRecordedCall p d call a) where
    pub kept_call : (tasks later : List Task) (workers after : List WorkerState) → IsByLeg c p call
        → IsKept c es ls next tasks desks workers rates asked → OrdersFirst later → AllByRecursion (IsPlacedTask c) later
        → length after ≡ length workers → ((k : ℕ) (s : WorkerState) → slice_get after k ≡ Some s → IsPlacedWorker c k s)
        → ((n : ℕ) (l : LegSettings) → slice_get c.legs n ≡ Some l → IsKeptLeg c n l next (stay_at ls n) later (desks_by desks a) after rates (asked ++ a ∷ []))
        → IsKept c es ls next later (desks_by desks a) after rates (asked ++ a ∷ [])
    kept_call tasks later workers after by h first placed count workers_placed legs = record {
      stand = h.stand;
      past = h.past;
      once = h.once;
      first = first;
      placed = placed;
      worker_count = count ∙ h.worker_count;
      workers_placed = workers_placed;
      desk_count = length_set desks a.publisher a.desk ∙ h.desk_count;
      desks_kept = desks_more c desks asked p d call a there (h.desks_kept p d there) recorded by h.desks_kept;
      legs_kept = legs;
    }

    -- a leg whose subscriber didn't call
    pub leg_apart : (tasks later : List Task) (workers after : List WorkerState) (n : ℕ) (l : LegSettings) → IsKeptDesk c p d asked
        → (p ≡ l.publisher → IsOther (asker c l) (is_done a.answer) a.call)
        → (k : IsKeptLeg c n l next (stay_at ls n) tasks desks workers rates asked)
        → ((s : WorkerState) → slice_get after (worker_of (table_of c) l) ≡ Some s
        → IsWaiting n next (stay_at ls n) later (hand_asks n s.hand) (jobs_asks n s.jobs) rates k.stay k.done)
        → IsKeptLeg c n l next (stay_at ls n) later (desks_by desks a) after rates (asked ++ a ∷ [])
    leg_apart tasks later workers after n l keeps other k waiting = record {
      stay = k.stay;
      done = k.done;
      asking = asking_elsewhere c desks asked p d call a there keeps recorded l k.stay (last_or None (words_of k.stay k.done)) k.asking other;
      waiting = waiting;
    }

    -- the leg whose subscriber called is a leg of the settings
    pub own_call : (m stay : ℕ) (ch : Change) (n : ℕ) (l : LegSettings) → IsLegCall c m stay ch p call → n ≡ m → slice_get c.legs n ≡ Some l
        → (p ≡ l.publisher) × IsRecordedCall l.publisher d (Stay (source_of (table_of c) l.subscriber) stay ch) a
    own_call m stay ch n l h same at =
        let legs : l ≡ h.leg = same_Some l h.leg (sym at ∙ (ap (slice_get c.legs) same ∙ h.there)) in
        let from : p ≡ l.publisher = sym h.from ∙ ap (λ (x : LegSettings). x.publisher) (sym legs) in
        let named : call ≡ Stay (source_of (table_of c) l.subscriber) stay ch
        = h.is ∙ ap (λ (x : LegSettings). Stay (source_of (table_of c) x.subscriber) stay ch) (sym legs) in
        (from, subst (λ (x : DeskCall). IsRecordedCall l.publisher d x a) named (subst (λ (k : ℕ). IsRecordedCall k d call a) from recorded))

    abbrev At : LegSettings → Type 0
    At l = slice_get desks l.publisher ≡ Some d

    pub here : (l : LegSettings) → p ≡ l.publisher → slice_get desks l.publisher ≡ Some d
    here l same = subst (λ (k : ℕ). slice_get desks k ≡ Some d) same there

    pub keeps_here : (l : LegSettings) → p ≡ l.publisher → IsKeptDesk c p d asked → IsKeptDesk c l.publisher d asked
    keeps_here l same h = subst (λ (k : ℕ). IsKeptDesk c k d asked) same h

    -- a task that tells a desk the moment
    pub kept_told : (t : Task) (ts : List Task) (workers : List WorkerState) → IsByLeg c p call
        → ((n : ℕ) (bound now stands : ℕ) → Tracks n bound now (t ∷ ts) stands → Tracks n bound now ts stands)
        → ((n : ℕ) → task_asks n t ≡ [])
        → ((l : LegSettings) → IsOther (asker c l) (is_done a.answer) a.call)
        → IsKept c es ls next (t ∷ ts) desks workers rates asked → IsKept c es ls next ts (desks_by desks a) workers rates (asked ++ a ∷ [])
    kept_told t ts workers by pass none other h =
        kept_call (t ∷ ts) ts workers workers by h (first_rest t ts h.first) h.placed.1 refl h.workers_placed
        (λ n l at. let k = h.legs_kept n l at in
        leg_apart (t ∷ ts) ts workers workers n l (h.desks_kept p d there) (λ _. other l) k
        (λ s found. let w = k.waiting s found in
        waiting_rest n (hand_asks n s.hand) (jobs_asks n s.jobs) rates k.stay k.done next (stay_at ls n) t ts k.stay (none n) w
        (pass n w.bound k.stay (stay_at ls n) w.tracks)))

    -- a stay arrives
    pub kept_arrived : (m stay : ℕ) (ts : List Task) (workers : List WorkerState) → IsLegCall c m stay change.Arrive p call
        → IsKept c es ls next (order (Arrive m stay) ∷ ts) desks workers rates asked
        → IsKept c es ls next ts (desks_by desks a) workers rates (asked ++ a ∷ [])
    kept_arrived m stay ts workers legs h =
        kept_call (order (Arrive m stay) ∷ ts) ts workers workers (by_leg c m stay change.Arrive p call legs) h h.first h.placed.1 refl h.workers_placed
        (λ n l at. elim (cases_eq n m) [ inl same ↦ own n l same at | inr differs ↦ apart n l differs at ])
      where
        apart : (n : ℕ) (l : LegSettings) → n ≢ m → slice_get c.legs n ≡ Some l
            → IsKeptLeg c n l next (stay_at ls n) ts (desks_by desks a) workers rates (asked ++ a ∷ [])
        apart n l differs at =
            let k = h.legs_kept n l at in
            leg_apart (order (Arrive m stay) ∷ ts) ts workers workers n l (h.desks_kept p d there)
            (other_leg c n m stay l change.Arrive p call a range at legs recorded.names differs) k
            (λ s found. let w = k.waiting s found in
            waiting_rest n (hand_asks n s.hand) (jobs_asks n s.jobs) rates k.stay k.done next (stay_at ls n) (order (Arrive m stay)) ts k.stay refl w
            (when_false ((k.stay ≡ 0) × (1 ≤ stay) × Tracks n w.bound stay ts (stay_at ls n)) (Tracks n w.bound k.stay ts (stay_at ls n)) (m == n)
            (unlike m n (λ e. differs (sym e))) w.tracks.1))

        own : (n : ℕ) (l : LegSettings) → n ≡ m → slice_get c.legs n ≡ Some l
            → IsKeptLeg c n l next (stay_at ls n) ts (desks_by desks a) workers rates (asked ++ a ∷ [])
        own n l same at =
            let k = h.legs_kept n l at in
            let first = worker_there c l workers range h.worker_count in
            let w0 = k.waiting first.0 first.1 in
            let t0 = when_true ((k.stay ≡ 0) × (1 ≤ stay) × Tracks n w0.bound stay ts (stay_at ls n)) (Tracks n w0.bound k.stay ts (stay_at ls n)) (m == n)
            (eq-eqb m n (sym same)) w0.tracks.1 in
            let silent : words_of stay k.done ≡ [] =
            silent_before n (hand_asks n first.0.hand) (jobs_asks n first.0.jobs) rates k.stay k.done next (stay_at ls n) (order (Arrive m stay) ∷ ts) stay w0 w0.tracks.0 in
            let called = own_call m stay change.Arrive n l legs same at in
            let word : Option ℕ = last_or None (words_of k.stay k.done) in
            let was : IsAsking c l d asked 0 word = subst (λ (x : ℕ). IsAsking c l d asked x word) t0.0 (k.asking d (here l called.0)) in
            let new = own_arrive c l d asked a stay (keeps_here l called.0 (h.desks_kept p d there)) range
            (record { number = n; leg = l; there = at; from = refl; to = refl }) called.1 word was in
            record {
              stay = stay;
              done = k.done;
              asking = asking_here c desks asked p d call a there (h.desks_kept p d there) recorded l stay (last_or None (words_of stay k.done)) called.0
                  (subst (λ (ws : List ℕ). IsAsking c l a.desk (asked ++ a ∷ []) stay (last_or None ws)) (sym silent) new);
              waiting = λ s found. let w = k.waiting s found in
                  waiting_rest n (hand_asks n s.hand) (jobs_asks n s.jobs) rates k.stay k.done next (stay_at ls n) (order (Arrive m stay)) ts stay refl w
                  (when_true ((k.stay ≡ 0) × (1 ≤ stay) × Tracks n w.bound stay ts (stay_at ls n)) (Tracks n w.bound k.stay ts (stay_at ls n)) (m == n)
                  (eq-eqb m n (sym same)) w.tracks.1).2;
            }

    -- a stay departs
    pub kept_departed : (m stay : ℕ) (ts : List Task) (workers : List WorkerState) → IsLegCall c m stay change.Depart p call
        → IsKept c es ls next (order (Depart m stay) ∷ ts) desks workers rates asked
        → IsKept c es ls next ts (desks_by desks a) workers rates (asked ++ a ∷ [])
    kept_departed m stay ts workers legs h =
        kept_call (order (Depart m stay) ∷ ts) ts workers workers (by_leg c m stay change.Depart p call legs) h h.first h.placed.1 refl h.workers_placed
        (λ n l at. elim (cases_eq n m) [ inl same ↦ own n l same at | inr differs ↦ apart n l differs at ])
      where
        apart : (n : ℕ) (l : LegSettings) → n ≢ m → slice_get c.legs n ≡ Some l
            → IsKeptLeg c n l next (stay_at ls n) ts (desks_by desks a) workers rates (asked ++ a ∷ [])
        apart n l differs at =
            let k = h.legs_kept n l at in
            leg_apart (order (Depart m stay) ∷ ts) ts workers workers n l (h.desks_kept p d there)
            (other_leg c n m stay l change.Depart p call a range at legs recorded.names differs) k
            (λ s found. let w = k.waiting s found in
            waiting_rest n (hand_asks n s.hand) (jobs_asks n s.jobs) rates k.stay k.done next (stay_at ls n) (order (Depart m stay)) ts k.stay refl w
            (when_false ((k.stay ≡ stay) × (1 ≤ stay) × Tracks n w.bound 0 ts (stay_at ls n)) (Tracks n w.bound k.stay ts (stay_at ls n)) (m == n)
            (unlike m n (λ e. differs (sym e))) w.tracks))

        own : (n : ℕ) (l : LegSettings) → n ≡ m → slice_get c.legs n ≡ Some l
            → IsKeptLeg c n l next (stay_at ls n) ts (desks_by desks a) workers rates (asked ++ a ∷ [])
        own n l same at =
            let k = h.legs_kept n l at in
            let first = worker_there c l workers range h.worker_count in
            let w0 = k.waiting first.0 first.1 in
            let t0 = when_true ((k.stay ≡ stay) × (1 ≤ stay) × Tracks n w0.bound 0 ts (stay_at ls n)) (Tracks n w0.bound k.stay ts (stay_at ls n)) (m == n)
            (eq-eqb m n (sym same)) w0.tracks in
            let called = own_call m stay change.Depart n l legs same at in
            let word : Option ℕ = last_or None (words_of k.stay k.done) in
            let was : IsAsking c l d asked stay word = subst (λ (x : ℕ). IsAsking c l d asked x word) t0.0 (k.asking d (here l called.0)) in
            let later : Option ℕ = last_or None (words_of 0 k.done) in
            record {
              stay = 0;
              done = k.done;
              asking = asking_here c desks asked p d call a there (h.desks_kept p d there) recorded l 0 later called.0
                  (own_depart c l d asked a stay (keeps_here l called.0 (h.desks_kept p d there)) called.1 word later was);
              waiting = λ s found. let w = k.waiting s found in
                  waiting_rest n (hand_asks n s.hand) (jobs_asks n s.jobs) rates k.stay k.done next (stay_at ls n) (order (Depart m stay)) ts 0 refl w
                  (when_true ((k.stay ≡ stay) × (1 ≤ stay) × Tracks n w.bound 0 ts (stay_at ls n)) (Tracks n w.bound k.stay ts (stay_at ls n)) (m == n)
                  (eq-eqb m n (sym same)) w.tracks).2;
            }

  -- ---- a job goes into a ring

  placed_asks : (k : ℕ) (job : Job) (n : ℕ) (l : LegSettings) → slice_get c.legs n ≡ Some l → IsPlaced c k job → worker_of (table_of c) l ≢ k
      → job_asks n job ≡ []
  placed_asks k (Packet publisher bytes) n l at placed differs = refl
  placed_asks k (Resend leg stay nack) n l at placed differs = refl
  placed_asks k (Pli leg moment) n l at placed differs = refl
  placed_asks k (Report leg stay sr) n l at placed differs = refl
  placed_asks k (Goodbye leg) n l at placed differs = refl
  placed_asks k (Request leg stay word) n l at placed differs = step (leg == n) refl
    where
      step : (b : Bool) → (leg == n) ≡ b → asks_if b stay word ≡ []
      step false e = refl
      step true e =
          let owner : worker_of (table_of c) l ≡ owner_of (table_of c) n
          = ap (λ (o : Option LegSettings). option_map_or (worker_of (table_of c)) o 0) (sym at) in
          absurd (differs (owner ∙ (ap (owner_of (table_of c)) (sym (eqb-true leg n e)) ∙ placed)))

  -- there is no such worker
  pub kept_unput : (k : ℕ) (job : Job) (ts : List Task) (desks : List DeskState) (workers : List WorkerState) (asked : List RecordedCall)
      → slice_get workers k ≡ None → IsKept c es ls next (push k job ∷ ts) desks workers rates asked → IsKept c es ls next ts desks workers rates asked
  kept_unput k job ts desks workers asked missing h =
      kept_pop (push k job) ts desks workers asked (λ n l bound now stands at t. t)
      (λ n l at. placed_asks k job n l at h.placed.0
      (λ same. let found = worker_there c l workers range h.worker_count in
      none-some found.0 (sym missing ∙ subst (λ (j : ℕ). slice_get workers j ≡ Some found.0) same found.1))) h

  all_more : (k : ℕ) (jobs : List Job) (job : Job) → AllByRecursion (IsPlaced c k) jobs → IsPlaced c k job → AllByRecursion (IsPlaced c k) (jobs ++ job ∷ [])
  all_more k [] job a b = (b, tt)
  all_more k (j ∷ jobs) job a b = (a.0, all_more k jobs job a.1 b)

  pub kept_put : (k : ℕ) (s : WorkerState) (job : Job) (ts : List Task) (desks : List DeskState) (workers : List WorkerState) (asked : List RecordedCall)
      → slice_get workers k ≡ Some s → IsKept c es ls next (push k job ∷ ts) desks workers rates asked
      → IsKept c es ls next ts desks (workers_by workers (putting k s job)) rates asked
  kept_put k s job ts desks workers asked there h = record {
    stand = h.stand;
    past = h.past;
    once = h.once;
    first = no_orders-first ts h.first;
    placed = h.placed.1;
    worker_count = length_set workers k _ ∙ h.worker_count;
    workers_placed = workers_more c workers s (putting k s job) there h.workers_placed
        (record { jobs = all_more k s.jobs job (h.workers_placed k s there).jobs h.placed.0; hand = (h.workers_placed k s there).hand });
    desk_count = h.desk_count;
    desks_kept = h.desks_kept;
    legs_kept = λ n l at. leg n l at (h.legs_kept n l at);
  }
    where
      ring : (n : ℕ) → jobs_asks n s.jobs ++ job_asks n job ≡ jobs_asks n (s.jobs ++ job ∷ [])
      ring n = sym (jobs_asks-append n s.jobs (job ∷ []) ∙ ap (λ (xs : List (ℕ × ℕ)). jobs_asks n s.jobs ++ xs) (append-nil (job_asks n job)))

      leg : (n : ℕ) (l : LegSettings) → slice_get c.legs n ≡ Some l → IsKeptLeg c n l next (stay_at ls n) (push k job ∷ ts) desks workers rates asked
          → IsKeptLeg c n l next (stay_at ls n) ts desks (workers_by workers (putting k s job)) rates asked
      leg n l at kept = record {
        stay = kept.stay;
        done = kept.done;
        asking = kept.asking;
        waiting = worker_cases c workers s (putting k s job) there
            (λ x. IsWaiting n next (stay_at ls n) (push k job ∷ ts) (hand_asks n x.hand) (jobs_asks n x.jobs) rates kept.stay kept.done)
            (λ x. IsWaiting n next (stay_at ls n) ts (hand_asks n x.hand) (jobs_asks n x.jobs) rates kept.stay kept.done)
            (worker_of (table_of c) l) kept.waiting
            (λ same w. subst (λ (xs : List (ℕ × ℕ)). IsWaiting n next (stay_at ls n) ts (hand_asks n s.hand) xs rates kept.stay kept.done) (ring n)
            (waiting_put n (hand_asks n s.hand) (jobs_asks n s.jobs) rates kept.stay kept.done next (stay_at ls n) k job ts h.first w))
            (λ differs x w. waiting_rest n (hand_asks n x.hand) (jobs_asks n x.jobs) rates kept.stay kept.done next (stay_at ls n) (push k job) ts kept.stay
            (placed_asks k job n l at h.placed.0 (λ e. differs (sym e))) w w.tracks);
      }
