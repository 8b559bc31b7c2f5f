-- What one step of a machine with one worker leaves: no job was given up, and as many workers as before.
use Rattle.std.proofs.Common.{◌≡◌, ◌∙◌, ℕ, zero, suc, List, [], ◌∷◌, length, false, refl, subst, ap, arith, Some, slice_get, fold}
use Rattle.std.specs.List.{AllByRecursion}
use Rattle.std.proofs.lemmas.List.{length-set}
use Rattle.std.proofs.lemmas.Option.{same_Some}
use Rattle.events.specs.declared.event.Event.{Event}
use Rattle.events.specs.declared.job.Job.{Job}
use Rattle.core_steps.specs.Happening.{GivenUp, Happening, Worked, workers_by, world_after}
use Rattle.core_steps.specs.Laws.{IsGivenUpFull}
use Rattle.core_steps.specs.Rule.{Does}
use Rattle.core_steps.specs.Waits.{has_work, worker_has_work, works_more}
use Rattle.core_steps.specs.World.{Hand, WorkerState, WorldState, doing, free, telling}
use Rattle.core_steps.proofs.HistoryLemmas.{given_up_where_full}

-- ---- the workers

fold_workers : (workers : List WorkerState) (worked : List Worked) → length (fold workers_by workers worked) ≡ length workers
fold_workers workers [] = refl
fold_workers workers (d ∷ worked) =
    fold_workers (workers_by workers d) worked ∙ length-set workers d.worker _

pub same_workers : (w : WorldState) (h : Happening) → length (world_after w h).workers ≡ length w.workers
same_workers w h = fold_workers w.workers h.worked

-- ---- if the worker has nothing to do, no job is given up

free_ring : (hand : Hand) (jobs : List Job) → works_more hand jobs ≡ false → jobs ≡ []
free_ring free [] e = refl
free_ring free (job ∷ jobs) e = absurd (cc)
free_ring (doing job) jobs e = absurd (cc)
free_ring (telling p) jobs e = absurd (cc)

one_ring : (workers : List WorkerState) (k : ℕ) (s : WorkerState) → length workers ≡ 1 → worker_has_work (slice_get workers 0) ≡ false
    → slice_get workers k ≡ Some s → s.jobs ≡ []
one_ring [] k s one idle there = absurd (omega (arith, one))
one_ring (x ∷ []) zero s one idle there = subst (λ (y : WorkerState). y.jobs ≡ []) (same_Some x s there) (free_ring x.hand x.jobs idle)
one_ring (x ∷ []) (suc k) s one idle there = absurd (cc)
one_ring (x ∷ (y ∷ workers)) k s one idle there = absurd (omega (arith, one))

none_in : (w : WorldState) (given : List GivenUp) → length w.workers ≡ 1 → has_work w 0 ≡ false
    → AllByRecursion (IsGivenUpFull w) given → given ≡ []
none_in w [] one idle all = refl
none_in w (g ∷ given) one idle all =
    let size : length all.0.state.jobs ≡ 0 = ap length (one_ring w.workers g.worker all.0.state one idle all.0.there) in
    absurd (omega (arith, size, all.0.full))

pub none_given : (w : WorldState) (e : Event) (h : Happening) → length w.workers ≡ 1 → has_work w 0 ≡ false → Does w e h → h.given_up ≡ []
none_given w e h one idle does = none_in w h.given_up one idle (given_up_where_full w e h does)
