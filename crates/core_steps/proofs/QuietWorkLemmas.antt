-- What a step of a worker keeps, for the quiet law.
use Rattle.std.proofs.Common.{◌≡◌, ◌≢◌, ℕ, List, [], ◌∷◌, ◌++◌, refl, sym, ap, subst, ◌∙◌, arith, Option, Some, None, Bool, inl, inr}
use Rattle.std.specs.Prelude.{◌⊎◌, ◌==◌, slice_get}
use Rattle.std.specs.List.{last_or}
use Rattle.std.specs.Option.{option_map_or}
use Rattle.std.proofs.lemmas.Bool.{cases_eq, eq-eqb}
use Rattle.std.proofs.lemmas.Option.{none-some}
use Rattle.tmmbr_tuple.specs.declared.tuple.Tuple.{Tuple}
use Rattle.tmmbr_tuple.specs.Tuple.{word_of}
use Rattle.members.specs.declared.presence.Endpoint.{Endpoint}
use Rattle.settings.specs.declared.settings.LegSettings.{LegSettings}
use Rattle.members.specs.declared.stays.LegStay.{LegStay}
use Rattle.settings.specs.Settings.{Configuration, IsInRange}
use Rattle.desk.specs.declared.call.Call.{Call as DeskCall}
use Rattle.desk.specs.declared.call.Call.TheVariants.{Stay}
use Rattle.desk.specs.declared.call.Change.TheVariants as change
use Rattle.desk.specs.Call.{is_done}
use Rattle.desk.specs.Presence.{asked_in}
use Rattle.desk.specs.State.{DeskState, now_of}
use Rattle.events.specs.declared.job.Job.{Job}
use Rattle.events.specs.declared.job.Job.TheVariants.{Request}
use Rattle.desk_calls.specs.DeskCalls.{source_of}
use Rattle.core_steps.specs.Happening.{RecordedCall, Worked, desks_by, workers_by, worker_after}
use Rattle.core_steps.specs.Hearing.{owner_of}
use Rattle.settings.specs.Links.{table_of, worker_of}
use Rattle.core_steps.specs.Quiet.{HeardRate}
use Rattle.core_steps.specs.Traces.{entries_at}
use Rattle.core_steps.specs.Rule.{IsRecordedCall}
use Rattle.core_steps.specs.World.{WorkerState, Task, Hand, doing}
use Rattle.core_steps.proofs.QuietDeskLemmas.{Holding, IsOther}
use Rattle.core_steps.proofs.QuietLegLemmas.{asker, IsByLeg, IsKeptDesk, IsAsking}
use Rattle.core_steps.proofs.QuietQueueLemmas.{hand_asks, jobs_asks, asks_if, words_of, words_same, words_other, IsWaiting, waiting_asked}
use Rattle.core_steps.proofs.QuietKeptLemmas.{IsPlacedHand, IsPlacedWorker, stay_at, IsKeptLeg, IsKept, IsLegCall, by_leg, asking_here, other_leg, own_request, late_request, workers_more, worker_cases}
use Rattle.core_steps.proofs.QuietTaskLemmas.{length_set, unlike, kept_call, leg_apart, own_call, here, keeps_here}

module _ (c : Configuration) (range : IsInRange c) (es : List Endpoint) (ls : List LegStay) (next : ℕ) (rates : List HeardRate) where
  -- ---- a worker's step

  -- nothing of what it asks moves, but for its oldest job into its hand
  pub kept_worked : (at : Worked) (s : WorkerState) (tasks : List Task) (desks : List DeskState) (workers : List WorkerState) (asked : List RecordedCall)
      → slice_get workers at.worker ≡ Some s → IsPlacedWorker c at.worker (worker_after s at)
      → ((n : ℕ) (stay : ℕ) (done : List (ℕ × ℕ)) → IsWaiting n next (stay_at ls n) tasks (hand_asks n s.hand) (jobs_asks n s.jobs) rates stay done
      → IsWaiting n next (stay_at ls n) tasks (hand_asks n (worker_after s at).hand) (jobs_asks n (worker_after s at).jobs) rates stay done)
      → IsKept c es ls next tasks desks workers rates asked → IsKept c es ls next tasks desks (workers_by workers at) rates asked
  kept_worked at s tasks desks workers asked there placed same h = record {
    stand = h.stand;
    past = h.past;
    once = h.once;
    first = h.first;
    placed = h.placed;
    worker_count = length_set workers at.worker _ ∙ h.worker_count;
    workers_placed = workers_more c workers s at there h.workers_placed placed;
    desk_count = h.desk_count;
    desks_kept = h.desks_kept;
    legs_kept = λ n l found. leg n l (h.legs_kept n l found);
  }
    where
      leg : (n : ℕ) (l : LegSettings) → IsKeptLeg c n l next (stay_at ls n) tasks desks workers rates asked
          → IsKeptLeg c n l next (stay_at ls n) tasks desks (workers_by workers at) rates asked
      leg n l k = record {
        stay = k.stay;
        done = k.done;
        asking = k.asking;
        waiting = worker_cases c workers s at there
            (λ x. IsWaiting n next (stay_at ls n) tasks (hand_asks n x.hand) (jobs_asks n x.jobs) rates k.stay k.done)
            (λ x. IsWaiting n next (stay_at ls n) tasks (hand_asks n x.hand) (jobs_asks n x.jobs) rates k.stay k.done)
            (worker_of (table_of c) l) k.waiting (λ _ w. same n k.stay k.done w) (λ _ x w. w);
      }

  -- the same, and a desk recorded a call of nobody's
  pub kept_worked_told : (desks : List DeskState) (asked : List RecordedCall) (p : ℕ) (d : DeskState) (call : DeskCall) (a : RecordedCall)
      → slice_get desks p ≡ Some d → IsRecordedCall p d call a → IsByLeg c p call
      → ((l : LegSettings) → IsOther (asker c l) (is_done a.answer) a.call)
      → (at : Worked) (s : WorkerState) (tasks : List Task) (workers : List WorkerState)
      → slice_get workers at.worker ≡ Some s → IsPlacedWorker c at.worker (worker_after s at)
      → ((n : ℕ) (stay : ℕ) (done : List (ℕ × ℕ)) → IsWaiting n next (stay_at ls n) tasks (hand_asks n s.hand) (jobs_asks n s.jobs) rates stay done
      → IsWaiting n next (stay_at ls n) tasks (hand_asks n (worker_after s at).hand) (jobs_asks n (worker_after s at).jobs) rates stay done)
      → IsKept c es ls next tasks desks workers rates asked
      → IsKept c es ls next tasks (desks_by desks a) (workers_by workers at) rates (asked ++ a ∷ [])
  kept_worked_told desks asked p d call a found recorded by other at s tasks workers there placed same h =
      let t = kept_worked at s tasks desks workers asked there placed same h in
      kept_call c range es ls next rates desks asked p d call a found recorded tasks tasks (workers_by workers at) (workers_by workers at) by t t.first t.placed refl t.workers_placed
      (λ n l leg. let k = t.legs_kept n l leg in
      leg_apart c range es ls next rates desks asked p d call a found recorded tasks tasks (workers_by workers at) (workers_by workers at) n l (t.desks_kept p d found)
      (λ _. other l) k k.waiting)

  -- ---- a request in hand

  free_asks : (n m stay word : ℕ) → n ≢ m → asks_if (m == n) stay word ≡ []
  free_asks n m stay word differs = ap (λ (b : Bool). asks_if b stay word) (unlike m n (λ e. differs (sym e)))

  own_asks : (n m stay word : ℕ) → n ≡ m → asks_if (m == n) stay word ≡ (stay, word) ∷ []
  own_asks n m stay word same = ap (λ (b : Bool). asks_if b stay word) (eq-eqb m n (sym same))

  at_owner : (n : ℕ) (l : LegSettings) (m k : ℕ) → slice_get c.legs n ≡ Some l → n ≡ m → owner_of (table_of c) m ≡ k → k ≡ worker_of (table_of c) l
  at_owner n l m k found same placed =
      let owner : worker_of (table_of c) l ≡ owner_of (table_of c) n
      = ap (λ (o : Option LegSettings). option_map_or (worker_of (table_of c)) o 0) (sym found) in
      sym (owner ∙ (ap (owner_of (table_of c)) same ∙ placed))

  module _ (m stay word : ℕ) (at : Worked) (s : WorkerState) (tasks : List Task) (workers : List WorkerState)
      (there : slice_get workers at.worker ≡ Some s) (holds : s.hand ≡ doing (Request m stay word))
      (frees : (n : ℕ) → hand_asks n (worker_after s at).hand ≡ []) (rings : (worker_after s at).jobs ≡ s.jobs)
      (placed_after : IsPlacedWorker c at.worker (worker_after s at)) where
    abbrev after : List WorkerState
    after = workers_by workers at

    -- what waits for another leg
    waits_apart : (n : ℕ) (l : LegSettings) (k : ℕ) (done : List (ℕ × ℕ)) → n ≢ m
        → ((x : WorkerState) → slice_get workers (worker_of (table_of c) l) ≡ Some x
        → IsWaiting n next (stay_at ls n) tasks (hand_asks n x.hand) (jobs_asks n x.jobs) rates k done)
        → (x : WorkerState) → slice_get (workers_by workers at) (worker_of (table_of c) l) ≡ Some x
        → IsWaiting n next (stay_at ls n) tasks (hand_asks n x.hand) (jobs_asks n x.jobs) rates k done
    waits_apart n l k done differs old =
        worker_cases c workers s at there
        (λ x. IsWaiting n next (stay_at ls n) tasks (hand_asks n x.hand) (jobs_asks n x.jobs) rates k done)
        (λ x. IsWaiting n next (stay_at ls n) tasks (hand_asks n x.hand) (jobs_asks n x.jobs) rates k done)
        (worker_of (table_of c) l) old
        (λ _ w. subst (λ (js : List Job). IsWaiting n next (stay_at ls n) tasks (hand_asks n (worker_after s at).hand) (jobs_asks n js) rates k done) (sym rings)
        (subst (λ (xs : List (ℕ × ℕ)). IsWaiting n next (stay_at ls n) tasks xs (jobs_asks n s.jobs) rates k done)
        (ap (λ (x : Hand). hand_asks n x) holds ∙ (free_asks n m stay word differs ∙ sym (frees n))) w))
        (λ _ x w. w)

    -- what waits for its own
    waits_own : (n : ℕ) (l : LegSettings) (k : ℕ) (done : List (ℕ × ℕ)) → n ≡ m → slice_get c.legs n ≡ Some l → owner_of (table_of c) m ≡ at.worker
        → ((x : WorkerState) → slice_get workers (worker_of (table_of c) l) ≡ Some x
        → IsWaiting n next (stay_at ls n) tasks (hand_asks n x.hand) (jobs_asks n x.jobs) rates k done)
        → (x : WorkerState) → slice_get (workers_by workers at) (worker_of (table_of c) l) ≡ Some x
        → IsWaiting n next (stay_at ls n) tasks (hand_asks n x.hand) (jobs_asks n x.jobs) rates k (done ++ (stay, word) ∷ [])
    waits_own n l k done same found placed old =
        worker_cases c workers s at there
        (λ x. IsWaiting n next (stay_at ls n) tasks (hand_asks n x.hand) (jobs_asks n x.jobs) rates k done)
        (λ x. IsWaiting n next (stay_at ls n) tasks (hand_asks n x.hand) (jobs_asks n x.jobs) rates k (done ++ (stay, word) ∷ []))
        (worker_of (table_of c) l) old
        (λ _ w. subst (λ (js : List Job). IsWaiting n next (stay_at ls n) tasks (hand_asks n (worker_after s at).hand) (jobs_asks n js) rates k (done ++ (stay, word) ∷ []))
        (sym rings)
        (subst (λ (xs : List (ℕ × ℕ)). IsWaiting n next (stay_at ls n) tasks xs (jobs_asks n s.jobs) rates k (done ++ (stay, word) ∷ [])) (sym (frees n))
        (waiting_asked n ((stay, word) ∷ []) (jobs_asks n s.jobs) rates k done next (stay_at ls n) tasks
        (subst (λ (xs : List (ℕ × ℕ)). IsWaiting n next (stay_at ls n) tasks xs (jobs_asks n s.jobs) rates k done)
        (ap (λ (x : Hand). hand_asks n x) holds ∙ own_asks n m stay word same) w))))
        (λ differs x w. absurd (differs (at_owner n l m at.worker found same placed)))

    hand_placed : (desks : List DeskState) (asked : List RecordedCall) → IsKept c es ls next tasks desks workers rates asked → owner_of (table_of c) m ≡ at.worker
    hand_placed desks asked h = subst (λ (x : Hand). IsPlacedHand c at.worker x) holds (h.workers_placed at.worker s there).hand

    -- the request asks its publisher's desk
    pub kept_requested : (desks : List DeskState) (asked : List RecordedCall) (p : ℕ) (d : DeskState) (call : DeskCall) (a : RecordedCall) (t : Tuple)
        → slice_get desks p ≡ Some d → IsRecordedCall p d call a → IsLegCall c m stay (change.Request t) p call → word_of t ≡ word
        → IsKept c es ls next tasks desks workers rates asked
        → IsKept c es ls next tasks (desks_by desks a) (workers_by workers at) rates (asked ++ a ∷ [])
    kept_requested desks asked p d call a t found recorded legs means h =
        kept_call c range es ls next rates desks asked p d call a found recorded tasks tasks workers (workers_by workers at) (by_leg c m stay (change.Request t) p call legs) h h.first h.placed
        (length_set workers at.worker _) (workers_more c workers s at there h.workers_placed placed_after)
        (λ n l leg. elim (cases_eq n m) [ inl same ↦ own n l same leg | inr differs ↦ apart n l differs leg ])
      where
        apart : (n : ℕ) (l : LegSettings) → n ≢ m → slice_get c.legs n ≡ Some l
            → IsKeptLeg c n l next (stay_at ls n) tasks (desks_by desks a) (workers_by workers at) rates (asked ++ a ∷ [])
        apart n l differs leg =
            let k = h.legs_kept n l leg in
            leg_apart c range es ls next rates desks asked p d call a found recorded tasks tasks workers (workers_by workers at) n l (h.desks_kept p d found)
            (other_leg c n m stay l (change.Request t) p call a range leg legs recorded.names differs) k
            (waits_apart n l k.stay k.done differs k.waiting)

        own : (n : ℕ) (l : LegSettings) → n ≡ m → slice_get c.legs n ≡ Some l
            → IsKeptLeg c n l next (stay_at ls n) tasks (desks_by desks a) (workers_by workers at) rates (asked ++ a ∷ [])
        own n l same leg = record {
          stay = (h.legs_kept n l leg).stay;
          done = (h.legs_kept n l leg).done ++ (stay, word) ∷ [];
          asking = elim (cases_eq (h.legs_kept n l leg).stay stay) [ inl now ↦ in_stay now | inr late ↦ too_late late ];
          waiting = waits_own n l (h.legs_kept n l leg).stay (h.legs_kept n l leg).done same leg (hand_placed desks asked h) (h.legs_kept n l leg).waiting;
        }
          where
            called : (p ≡ l.publisher) × IsRecordedCall l.publisher d (Stay (source_of (table_of c) l.subscriber) stay (change.Request t)) a
            called = own_call c range es ls next rates desks asked p d call a found recorded m stay (change.Request t) n l legs same leg

            was : IsAsking c l d asked (h.legs_kept n l leg).stay (last_or None (words_of (h.legs_kept n l leg).stay (h.legs_kept n l leg).done))
            was = (h.legs_kept n l leg).asking d (here c range es ls next rates desks asked p d call a found recorded l called.0)

            kept : IsKeptDesk c l.publisher d asked
            kept = keeps_here c range es ls next rates desks asked p d call a found recorded l called.0 (h.desks_kept p d found)

            in_stay : (h.legs_kept n l leg).stay ≡ stay → (x : DeskState) → slice_get (desks_by desks a) l.publisher ≡ Some x
                → IsAsking c l x (asked ++ a ∷ []) (h.legs_kept n l leg).stay
                (last_or None (words_of (h.legs_kept n l leg).stay ((h.legs_kept n l leg).done ++ (stay, word) ∷ [])))
            in_stay now =
                let before : Option ℕ = last_or None (words_of (h.legs_kept n l leg).stay (h.legs_kept n l leg).done) in
                let new = own_request c l d asked a stay kept t called.1 before legs.some (subst (λ (x : ℕ). IsAsking c l d asked x before) now was) in
                let last : Some (word_of t) ≡ last_or None (words_of stay ((h.legs_kept n l leg).done ++ (stay, word) ∷ []))
                = ap (λ (x : ℕ). Some x) means ∙ sym (words_same stay word (h.legs_kept n l leg).done) in
                subst (λ (x : ℕ). (y : DeskState) → slice_get (desks_by desks a) l.publisher ≡ Some y
                → IsAsking c l y (asked ++ a ∷ []) x (last_or None (words_of x ((h.legs_kept n l leg).done ++ (stay, word) ∷ [])))) (sym now)
                (asking_here c desks asked p d call a found (h.desks_kept p d found) recorded l stay
                (last_or None (words_of stay ((h.legs_kept n l leg).done ++ (stay, word) ∷ []))) called.0
                (subst (λ (o : Option ℕ). IsAsking c l a.desk (asked ++ a ∷ []) stay o) last new))

            too_late : (h.legs_kept n l leg).stay ≢ stay → (x : DeskState) → slice_get (desks_by desks a) l.publisher ≡ Some x
                → IsAsking c l x (asked ++ a ∷ []) (h.legs_kept n l leg).stay
                (last_or None (words_of (h.legs_kept n l leg).stay ((h.legs_kept n l leg).done ++ (stay, word) ∷ [])))
            too_late late =
                let before : Option ℕ = last_or None (words_of (h.legs_kept n l leg).stay (h.legs_kept n l leg).done) in
                let new = late_request c l d asked a stay kept t called.1 (h.legs_kept n l leg).stay before late was in
                let last : before ≡ last_or None (words_of (h.legs_kept n l leg).stay ((h.legs_kept n l leg).done ++ (stay, word) ∷ []))
                = ap (λ (ws : List ℕ). last_or None ws) (sym (words_other (h.legs_kept n l leg).stay stay word (h.legs_kept n l leg).done (λ e. late (sym e)))) in
                asking_here c desks asked p d call a found (h.desks_kept p d found) recorded l (h.legs_kept n l leg).stay
                (last_or None (words_of (h.legs_kept n l leg).stay ((h.legs_kept n l leg).done ++ (stay, word) ∷ []))) called.0
                (subst (λ (o : Option ℕ). IsAsking c l a.desk (asked ++ a ∷ []) (h.legs_kept n l leg).stay o) last new)

    -- it names no leg, or no stay
    pub kept_unasked : (desks : List DeskState) (asked : List RecordedCall) → (stay ≡ 0) ⊎ (slice_get c.legs m ≡ None)
        → IsKept c es ls next tasks desks workers rates asked → IsKept c es ls next tasks desks (workers_by workers at) rates asked
    kept_unasked desks asked nobody h = record {
      stand = h.stand;
      past = h.past;
      once = h.once;
      first = h.first;
      placed = h.placed;
      worker_count = length_set workers at.worker _ ∙ h.worker_count;
      workers_placed = workers_more c workers s at there h.workers_placed placed_after;
      desk_count = h.desk_count;
      desks_kept = h.desks_kept;
      legs_kept = λ n l leg. elim (cases_eq n m) [ inl same ↦ own n l same leg (h.legs_kept n l leg) | inr differs ↦ apart n l differs (h.legs_kept n l leg) ];
    }
      where
        apart : (n : ℕ) (l : LegSettings) → n ≢ m → IsKeptLeg c n l next (stay_at ls n) tasks desks workers rates asked
            → IsKeptLeg c n l next (stay_at ls n) tasks desks (workers_by workers at) rates asked
        apart n l differs k = record { stay = k.stay; done = k.done; asking = k.asking; waiting = waits_apart n l k.stay k.done differs k.waiting }

        own : (n : ℕ) (l : LegSettings) → n ≡ m → slice_get c.legs n ≡ Some l → IsKeptLeg c n l next (stay_at ls n) tasks desks workers rates asked
            → IsKeptLeg c n l next (stay_at ls n) tasks desks (workers_by workers at) rates asked
        own n l same leg k = record {
          stay = k.stay;
          done = k.done ++ (stay, word) ∷ [];
          asking = λ d found. asks d found;
          waiting = waits_own n l k.stay k.done same leg (hand_placed desks asked h) k.waiting;
        }
          where
            zero_stay : stay ≡ 0
            zero_stay = elim nobody [
              | inl none ↦ none
              | inr missing ↦ absurd (none-some l (sym missing ∙ (ap (slice_get c.legs) (sym same) ∙ leg)))
            ]

            asks : (d : DeskState) → slice_get desks l.publisher ≡ Some d
                → IsAsking c l d asked k.stay (last_or None (words_of k.stay (k.done ++ (stay, word) ∷ [])))
            asks d found =
                let was = k.asking d found in
                record {
                  stays = was.stays;
                  holds = λ some. subst (λ (ws : List ℕ). Holding c.request_ms
                      (entries_at l.publisher asked) (asker c l) k.stay
                      (asked_in (now_of d).present.items (asker c l)) (last_or None ws))
                      (sym (words_other k.stay stay word k.done (λ e. absurd (omega (arith, e, some, zero_stay))))) (was.holds some);
                }
