-- What holds of every history of the machine.
use Rattle.std.proofs.Common.{◌≡◌, ◌≢◌, ◌<◌, get_or, ℕ, List, [], ◌∷◌, ◌++◌, length, drop, Bool, true, false, Some, refl, ap, sym, ◌∙◌, subst, append_assoc, append-nil, inl, inr}
use Rattle.std.specs.Prelude.{All, fold, slice_get, ◌==◌, if◌then◌else◌}
use Rattle.std.specs.List.{flat_map, AllByRecursion}
use Rattle.std.proofs.lemmas.List.Sums.{fold-append}
use Rattle.std.proofs.lemmas.List.Elements.{All-set}
use Rattle.std.proofs.lemmas.Bool.{eqb-true, eq-eqb}
use Rattle.std.proofs.lemmas.List.{get_or-set_same, get_or-set_other}
use Rattle.std.proofs.lemmas.Option.{get_or_from_slice_get, slice_get_cases}
use Rattle.std.proofs.Math.ListN.{set}
use Rattle.members.specs.Calls.{Call as RoomCall, room_after, room_of, step_of}
use Rattle.members.specs.Room.{RoomState}
use Rattle.desk.specs.State.{DeskState, HoldsLegalDesk}
use Rattle.members.specs.Rows.{row_changed}
use Rattle.events.specs.declared.event.Event.{Event}
use Rattle.events.specs.declared.job.Job.{Job}
use Rattle.core_steps.specs.Happening.{Happening, RecordedCall, Worked, world_after, worker_after, workers_by, no_worker, desks_by}
use Rattle.core_steps.specs.Rule.{Does}
use Rattle.core_steps.specs.Run.{Runs, worlds_after}
use Rattle.core_steps.specs.Laws.{TellsLegalDesk, IsGivenUpFull, jobs_at, taken_at, put_at, taken_by, put_by}
use Rattle.core_steps.specs.World.{WorldState, WorkerState, Task}
use Rattle.core_steps.proofs.KindLemmas.{IsKind, IsAt, IsAtOne, kind_of}

-- ---- runs join

pub runs_join : (w : WorldState) (first second : List Event) (past next : List Happening)
    → Runs w first past → Runs (worlds_after w past) second next → Runs w (first ++ second) (past ++ next)
runs_join w [] second [] next r s = s
runs_join w [] second (h ∷ past) next r s = absurd r
runs_join w (e ∷ first) second [] next r s = absurd r
runs_join w (e ∷ first) second (h ∷ past) next r s = (r.0, runs_join (world_after w h) first second past next r.1 s)

-- ---- folds

pub rows_by_history : (w : WorldState) (history : List Happening)
    → (worlds_after w history).rows ≡ fold row_changed w.rows (flat_map (λ (h : Happening). h.changes) history)
rows_by_history w [] = refl
rows_by_history w (h ∷ history) =
    rows_by_history (world_after w h) history
    ∙ sym (fold-append row_changed w.rows h.changes (flat_map (λ (h : Happening). h.changes) history))

room_after-append : (r : RoomState) (xs ys : List RoomCall) → room_after r (xs ++ ys) ≡ room_after (room_after r xs) ys
room_after-append r [] ys = refl
room_after-append r (c ∷ xs) ys = room_after-append (room_of r (step_of r c)) xs ys

pub room_by_history : (w : WorldState) (history : List Happening)
    → (worlds_after w history).room ≡ room_after w.room (flat_map (λ (h : Happening). h.calls) history)
room_by_history w [] = refl
room_by_history w (h ∷ history) =
    room_by_history (world_after w h) history
    ∙ sym (room_after-append w.room h.calls (flat_map (λ (h : Happening). h.calls) history))

-- ---- desks

pub legal_by : (desks : List DeskState) (asked : List RecordedCall)
    → All HoldsLegalDesk desks → AllByRecursion TellsLegalDesk asked
    → All HoldsLegalDesk (fold desks_by desks asked)
legal_by desks [] all each = all
legal_by desks (a ∷ asked) all each =
    legal_by (desks_by desks a) asked (All-set HoldsLegalDesk desks a.publisher a.desk each.0.legal all) each.1

pub desks_stay_legal : (w : WorldState) (events : List Event) (history : List Happening) → Runs w events history
    → All HoldsLegalDesk w.desks → All HoldsLegalDesk (worlds_after w history).desks
desks_stay_legal w [] [] r all = all
desks_stay_legal w [] (h ∷ history) r all = absurd r
desks_stay_legal w (e ∷ events) [] r all = absurd r
desks_stay_legal w (e ∷ events) (h ∷ history) r all =
    desks_stay_legal (world_after w h) events history r.1 (legal_by w.desks h.asked all (kind_of w e h r.0).asked)

-- ---- tasks

-- one event: what it did, then what waits, then what will be made
one_in_order : (w : WorldState) (h : Happening) (done made rest : List Task) → IsKind w h
    → done ++ rest ≡ (drop (length h.did) w.tasks ++ h.made) ++ made
    → (h.did ++ done) ++ rest ≡ w.tasks ++ (h.made ++ made)
one_in_order w h done made rest k e =
    append_assoc h.did done rest
    ∙ ap (λ (xs : List Task). h.did ++ xs) (e ∙ append_assoc (drop (length h.did) w.tasks) h.made made)
    ∙ sym (append_assoc h.did (drop (length h.did) w.tasks) (h.made ++ made))
    ∙ ap (λ (xs : List Task). xs ++ (h.made ++ made)) k.did

pub tasks_in_order : (w : WorldState) (events : List Event) (history : List Happening) → Runs w events history
    → flat_map (λ (h : Happening). h.did) history ++ (worlds_after w history).tasks
    ≡ w.tasks ++ flat_map (λ (h : Happening). h.made) history
tasks_in_order w [] [] r = sym (append-nil w.tasks)
tasks_in_order w [] (h ∷ history) r = absurd r
tasks_in_order w (e ∷ events) [] r = absurd r
tasks_in_order w (e ∷ events) (h ∷ history) r =
    one_in_order w h (flat_map (λ (h : Happening). h.did) history) (flat_map (λ (h : Happening). h.made) history)
    (worlds_after (world_after w h) history).tasks (kind_of w e h r.0)
    (tasks_in_order (world_after w h) events history r.1)

-- ---- jobs

there_within : (ws : List WorkerState) (k : ℕ) (s : WorkerState) → slice_get ws k ≡ Some s → k < length ws
there_within ws k s f = elim ((slice_get_cases ws k).1) [ inl p ↦ p.1 | inr q ↦ absurd (cc) ]

-- the ring of the worker at which it was done
same_ring : (ws : List WorkerState) (k : ℕ) (d : Worked) (s : WorkerState) → slice_get ws k ≡ Some s
    → d.taken ++ drop (length d.taken) s.jobs ≡ s.jobs
    → d.taken ++ (get_or (set ws k (worker_after (get_or ws k no_worker) d)) k no_worker).jobs ≡ (get_or ws k no_worker).jobs ++ d.put
same_ring ws k d s f t =
    let low : k < length ws = there_within ws k s f in
    let at : get_or ws k no_worker ≡ s = get_or_from_slice_get ws k s no_worker f in
    let here : get_or (set ws k (worker_after (get_or ws k no_worker) d)) k no_worker ≡ worker_after (get_or ws k no_worker) d
    = get_or-set_same ws k (worker_after (get_or ws k no_worker) d) no_worker low in
    ap (λ (x : WorkerState). d.taken ++ x.jobs) here
    ∙ subst (λ (x : WorkerState). d.taken ++ (drop (length d.taken) x.jobs ++ d.put) ≡ x.jobs ++ d.put) (sym at)
    (sym (append_assoc d.taken (drop (length d.taken) s.jobs) d.put) ∙ ap (λ (js : List Job). js ++ d.put) t)

one_ring_by : (w : WorldState) (k : ℕ) (d : Worked) → IsAt w d → (b : Bool) → (d.worker == k) ≡ b
    → (if b then d.taken else []) ++ (get_or (workers_by w.workers d) k no_worker).jobs ≡ jobs_at k w ++ (if b then d.put else [])
one_ring_by w k d i true e =
    subst (λ (x : ℕ). d.taken ++ (get_or (workers_by w.workers d) x no_worker).jobs ≡ (get_or w.workers x no_worker).jobs ++ d.put)
    (eqb-true d.worker k e) (same_ring w.workers d.worker d i.state i.there i.taken)
one_ring_by w k d i false e =
    let other : k ≢ d.worker = λ h. absurd (let t : (d.worker == k) ≡ true = eq-eqb d.worker k (sym h) in cc) in
    let here : get_or (workers_by w.workers d) k no_worker ≡ get_or w.workers k no_worker
    = get_or-set_other w.workers d.worker k (worker_after (get_or w.workers d.worker no_worker) d) no_worker other in
    ap (λ (x : WorkerState). x.jobs) here ∙ sym (append-nil (jobs_at k w))

-- the ring of a worker after what was done at workers
one_step : (w : WorldState) (k : ℕ) (ds : List Worked) → IsAtOne w ds
    → flat_map (taken_by k) ds ++ (get_or (fold workers_by w.workers ds) k no_worker).jobs ≡ jobs_at k w ++ flat_map (put_by k) ds
one_step w k [] i = sym (append-nil (jobs_at k w))
one_step w k (d ∷ []) i =
    ap (λ (js : List Job). js ++ (get_or (workers_by w.workers d) k no_worker).jobs) (append-nil (taken_by k d))
    ∙ one_ring_by w k d i (d.worker == k) refl
    ∙ ap (λ (js : List Job). jobs_at k w ++ js) (sym (append-nil (put_by k d)))
one_step w k (d ∷ (e ∷ ds)) i = absurd i

-- what left, then what is held, is what was held, then what came: for one step, then for those after it
joined : (left more held now next came rest : List Job) → left ++ now ≡ held ++ came → more ++ next ≡ now ++ rest
    → (left ++ more) ++ next ≡ held ++ (came ++ rest)
joined left more held now next came rest e f =
    append_assoc left more next ∙ ap (λ (js : List Job). left ++ js) f ∙ sym (append_assoc left now rest)
    ∙ ap (λ (js : List Job). js ++ rest) e ∙ append_assoc held came rest

pub jobs_in_order : (k : ℕ) (w : WorldState) (events : List Event) (history : List Happening) → Runs w events history
    → flat_map (taken_at k) history ++ jobs_at k (worlds_after w history) ≡ jobs_at k w ++ flat_map (put_at k) history
jobs_in_order k w [] [] r = sym (append-nil (jobs_at k w))
jobs_in_order k w [] (h ∷ history) r = absurd r
jobs_in_order k w (e ∷ events) [] r = absurd r
jobs_in_order k w (e ∷ events) (h ∷ history) r =
    joined (taken_at k h) (flat_map (taken_at k) history) (jobs_at k w) (jobs_at k (world_after w h))
    (jobs_at k (worlds_after (world_after w h) history)) (put_at k h) (flat_map (put_at k) history)
    (one_step w k h.worked (kind_of w e h r.0).worked) (jobs_in_order k (world_after w h) events history r.1)

-- ---- one event

pub given_up_where_full : (w : WorldState) (e : Event) (h : Happening) → Does w e h → AllByRecursion (IsGivenUpFull w) h.given_up
given_up_where_full w e h r = (kind_of w e h r).given_up

pub tells_what_is_announced : (w : WorldState) (e : Event) (h : Happening) → Does w e h → AllByRecursion TellsLegalDesk h.asked
tells_what_is_announced w e h r = (kind_of w e h r).asked
