-- A new world, and what waits in one.
use Rattle.core_steps.specs.Waits.{as_counted}
use Rattle.std.proofs.Common.{◌-◌, ◌^◌, min, ◌≡◌, ℕ, ◌+◌, ◌<◌, List, [], ◌∷◌, ◌++◌, length, get_or, take, map, sym, ap, subst, ◌∙◌, arith, length-append, below_more, add-zero}
use Rattle.std.proofs.lemmas.List.{map-append, take_more}
use Rattle.std.proofs.lemmas.List.Sums.{sum_by-append, sum_by-cons}
use Rattle.std.proofs.lemmas.Option.{slice_get_within}
use Rattle.circular_buffer.proofs.Places.{slice_get-append_left, slice_get-append_right}
use Rattle.std.specs.Prelude.{slice_get, Some, sum_by}
use Rattle.settings.specs.Settings.{Configuration}
use Rattle.core_steps.specs.declared.machine.Worker.{Worker}
use Rattle.core_steps.specs.Machine.{worker_state}
use Rattle.core_steps.specs.Opening.{IsNewWorker, AreNewWorkers}
use Rattle.core_steps.specs.World.{WorkerState}

-- ---- a new world

abbrev NewAt : Configuration → List WorkerState → ℕ → Type 0
NewAt c workers k = (s : WorkerState) → slice_get workers k ≡ Some s → IsNewWorker c k s

new-before : (c : Configuration) (count : ℕ) (workers : List WorkerState) (w : WorkerState) → AreNewWorkers c count workers
    → (k : ℕ) → k < count → NewAt c (workers ++ w ∷ []) k
new-before c count workers w are k h s at =
    let within : k < length workers = omega (arith, are.size) in
    are.each k s (sym (slice_get-append_left workers (w ∷ []) k within) ∙ at)

new-last : (c : Configuration) (count : ℕ) (workers : List WorkerState) (w : WorkerState) → AreNewWorkers c count workers
    → IsNewWorker c count w → NewAt c (workers ++ w ∷ []) count
new-last c count workers w are is s at =
    let here : slice_get (workers ++ w ∷ []) count ≡ Some w =
    slice_get-append_right workers (w ∷ []) count 0 (omega (arith, are.size)) in
    let both : Some w ≡ Some s = sym here ∙ at in
    let same : w ≡ s = cc in
    subst (IsNewWorker c count) same is

workers-one_more : (c : Configuration) (count : ℕ) (workers : List WorkerState) (w : WorkerState) → AreNewWorkers c count workers
    → IsNewWorker c count w → AreNewWorkers c (count + 1) (workers ++ w ∷ [])
workers-one_more c count workers w are is =
    let size : length (workers ++ w ∷ []) ≡ count + 1 = length-append workers (w ∷ []) ∙ ap (λ (n : ℕ). n + 1) are.size in
    record {
      size = size;
      each = λ k s at.
          let within : k < length (workers ++ w ∷ []) = slice_get_within (workers ++ w ∷ []) k s at in
          below_more (NewAt c (workers ++ w ∷ [])) count (new-before c count workers w are) (new-last c count workers w are is) k
          (omega arith) s at;
    }

pub workers-more : (c : Configuration) (count : ℕ) (workers new : List Worker) (w : Worker) → new ≡ workers ++ w ∷ []
    → AreNewWorkers c count (map worker_state workers) → IsNewWorker c count (worker_state w)
    → AreNewWorkers c (count + 1) (map worker_state new)
workers-more c count workers new w e are is =
    subst (AreNewWorkers c (count + 1)) (sym (ap (map worker_state) e ∙ map-append worker_state workers (w ∷ [])))
    (workers-one_more c count (map worker_state workers) (worker_state w) are is)

-- ---- what waits

pub sums-more : (f : WorkerState → ℕ) (workers : List Worker) (i : ℕ) (w : Worker) → i < length workers
    → sum_by f (map worker_state (take (i + 1) workers))
    ≡ sum_by f (map worker_state (take i workers)) + f (worker_state (get_or workers i w))
sums-more f workers i w within =
    let x : Worker = get_or workers i w in
    ap (λ (l : List Worker). sum_by f (map worker_state l)) (take_more workers i w within)
    ∙ (ap (sum_by f) (map-append worker_state (take i workers) (x ∷ []))
    ∙ (sum_by-append f (map worker_state (take i workers)) (worker_state x ∷ [])
    ∙ ap (λ (n : ℕ). sum_by f (map worker_state (take i workers)) + n)
    (sum_by-cons f (worker_state x) [] ∙ add-zero (f (worker_state x)))))

-- one more is counted
pub counted-more : (count more sum item all next : ℕ) → count ≡ as_counted sum → more ≡ item → all ≡ sum + item
    → next ≡ min (count + more) (2 ^ 64 - 1) → next ≡ as_counted all
counted-more count more sum item all next e f g h = omega (arith, e, f, g, h)
