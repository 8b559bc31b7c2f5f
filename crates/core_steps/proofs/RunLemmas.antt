-- A run and one happening more.
use Rattle.std.proofs.Common.{◌≡◌, ℕ, ◌+◌, ◌^◌, ◌<◌, Bool, true, false, List, [], ◌∷◌, ◌++◌, length, refl, sym, ap, subst, ◌∙◌, arith}
use Rattle.std.proofs.lemmas.List.{append-nil, flat_map_more, take_more}
use Rattle.std.proofs.lemmas.List.Sums.{fold-append}
use Rattle.std.specs.Prelude.{take, get_or, MatchBool, Result, Ok, Err, OnOk, is_err}
use Rattle.std.specs.declared.alloc.AllocError.{AllocError}
use Rattle.events.specs.declared.event.Event.{Event}
use Rattle.events.specs.declared.output.Out.{Out}
use Rattle.events.specs.declared.output.Out.TheVariants.{Busy}
use Rattle.core_steps.specs.World.{WorldState, Task}
use Rattle.core_steps.specs.Happening.{Happening, giving, capped_count, world_after}
use Rattle.core_steps.specs.Rule.{Does, UnlessBusy, is_busy}
use Rattle.core_steps.specs.Run.{Runs, worlds_after, HasRun, Leaves}

-- ---- histories

pub Runs-more : (w : WorldState) (events : List Event) (history : List Happening) (e : Event) (h : Happening)
    → Runs w events history → Does (worlds_after w history) e h → Runs w (events ++ e ∷ []) (history ++ h ∷ [])
Runs-more w [] [] e h runs does = (does, tt)
Runs-more w [] (g ∷ history) e h runs does = absurd runs
Runs-more w (d ∷ events) [] e h runs does = absurd runs
Runs-more w (d ∷ events) (g ∷ history) e h runs does =
    (runs.0, Runs-more (world_after w g) events history e h runs.1 does)

pub HasRun-none : (w : WorldState) (outs : List Out) → HasRun [] w outs w outs
HasRun-none w outs = record { history = []; runs = tt; leads = refl; given = sym (append-nil outs) }

pub HasRun-more : (events : List Event) (e : Event) (old : WorldState) (outs : List Out) (mid : WorldState) (some : List Out)
    (new : WorldState) (all : List Out)
    → HasRun events old outs mid some → Leaves (Does mid e) mid some new all → HasRun (events ++ e ∷ []) old outs new all
HasRun-more events e old outs mid some new all run did = record {
  history = run.history ++ did.happening ∷ [];
  runs = Runs-more old events run.history e did.happening run.runs
      (subst (λ (m : WorldState). Does m e did.happening) run.leads did.allowed);
  leads = did.leads ∙ (ap (λ (m : WorldState). world_after m did.happening) run.leads
      ∙ sym (fold-append world_after old run.history (did.happening ∷ [])));
  given = did.given ∙ (ap (λ (o : List Out). o ++ did.happening.outs) run.given
      ∙ flat_map_more (λ (h : Happening). h.outs) outs run.history did.happening);
}

-- one event that was done is a run
pub HasRun-one : (e : Event) (old : WorldState) (outs : List Out) (new : WorldState) (all : List Out)
    → Leaves (Does old e) old outs new all → HasRun (e ∷ []) old outs new all
HasRun-one e old outs new all did = HasRun-more [] e old outs old outs new all (HasRun-none old outs) did

-- ---- what is not taken in

pub counted-none : (count : ℕ) → count < 2 ^ 64 → capped_count count 0 ≡ count
counted-none count fits = omega arith

-- nothing comes to the tasks nor to the counts
abbrev pub settled : WorldState → WorldState
settled v = record v { tasks = v.tasks ++ []; lost = capped_count v.lost 0; tmmbns = capped_count v.tmmbns 0 }

abbrev parts_of : WorldState → List Task → ℕ → ℕ → WorldState
parts_of v tasks lost tmmbns = record v { tasks = tasks; lost = lost; tmmbns = tmmbns }

pub settled-same : (v : WorldState) → v.lost < 2 ^ 64 → v.tmmbns < 2 ^ 64 → settled v ≡ v
settled-same v lost tmmbns =
    ap (λ (tasks : List Task). parts_of v tasks (capped_count v.lost 0) (capped_count v.tmmbns 0)) (append-nil v.tasks)
    ∙ (ap (λ (n : ℕ). parts_of v v.tasks n (capped_count v.tmmbns 0)) (counted-none v.lost lost)
    ∙ ap (λ (n : ℕ). parts_of v v.tasks v.lost n) (counted-none v.tmmbns tmmbns))

pub giving-leads : (w : WorldState) (outs : List Out) → w.lost < 2 ^ 64 → w.tmmbns < 2 ^ 64 → w ≡ world_after w (giving w outs)
giving-leads w outs lost tmmbns = sym (settled-same w lost tmmbns)

pub Leaves-giving : (w : WorldState) (given : List Out) (outs all : List Out) → w.lost < 2 ^ 64 → w.tmmbns < 2 ^ 64
    → all ≡ outs ++ given → Leaves (λ h. h ≡ giving w given) w outs w all
Leaves-giving w given outs all lost tmmbns e = record {
  happening = giving w given;
  allowed = refl;
  leads = giving-leads w given lost tmmbns;
  given = e;
}

pub unless_busy : (w : WorldState) (P : Happening → Type 0) (outs : List Out) (new : WorldState) (all : List Out)
    → is_busy w ≡ true → Leaves (λ h. h ≡ giving w (Busy ∷ [])) w outs new all → Leaves (λ h. UnlessBusy w h (P h)) w outs new all
unless_busy w P outs new all busy did = record {
  happening = did.happening;
  allowed = subst (λ (b : Bool). MatchBool b (did.happening ≡ giving w (Busy ∷ [])) (P did.happening)) (sym busy) did.allowed;
  leads = did.leads;
  given = did.given;
}

pub if_idle : (w : WorldState) (P : Happening → Type 0) (outs : List Out) (new : WorldState) (all : List Out)
    → is_busy w ≡ false → Leaves P w outs new all → Leaves (λ h. UnlessBusy w h (P h)) w outs new all
if_idle w P outs new all idle did = record {
  happening = did.happening;
  allowed = subst (λ (b : Bool). MatchBool b (did.happening ≡ giving w (Busy ∷ [])) (P did.happening)) (sym idle) did.allowed;
  leads = did.leads;
  given = did.given;
}

-- ---- a step

pub step-leaves : (w : WorldState) (e d : Event) (outs : List Out) (new : WorldState) (all : List Out) (r : Result (Unit {0}) AllocError)
    → e ≡ d → OnOk r (Leaves (Does w d) w outs new all) → OnOk r (Leaves (Does w e) w outs new all)
step-leaves w e d outs new all r is did = subst (λ (x : Event). OnOk r (Leaves (Does w x) w outs new all)) (sym is) did

pub step-busy : (w : WorldState) (P : Happening → Type 0) (outs : List Out) (new : WorldState) (all : List Out) (r : Result (Unit {0}) AllocError)
    → is_busy w ≡ true → OnOk r (Leaves (λ h. h ≡ giving w (Busy ∷ [])) w outs new all)
    → OnOk r (Leaves (λ h. UnlessBusy w h (P h)) w outs new all)
step-busy w P outs new all (Ok x) busy did = unless_busy w P outs new all busy did
step-busy w P outs new all (Err e) busy did = tt

pub step-idle : (w : WorldState) (P : Happening → Type 0) (outs : List Out) (new : WorldState) (all : List Out) (r : Result (Unit {0}) AllocError)
    → is_busy w ≡ false → OnOk r (Leaves P w outs new all) → OnOk r (Leaves (λ h. UnlessBusy w h (P h)) w outs new all)
step-idle w P outs new all (Ok x) idle did = if_idle w P outs new all idle did
step-idle w P outs new all (Err e) idle did = tt

pub step-more : (events : List Event) (i : ℕ) (e : Event) (old : WorldState) (outs : List Out) (mid : WorldState) (some : List Out)
    (new : WorldState) (all : List Out) (r : Result (Unit {0}) AllocError) (b : Bool)
    → i < length events → e ≡ get_or events i e → b ≡ is_err r → b ≡ false → HasRun (take i events) old outs mid some
    → OnOk r (Leaves (Does mid e) mid some new all) → HasRun (take (i + 1) events) old outs new all
step-more events i e old outs mid some new all (Ok x) b within is was fine run did =
    let more : take (i + 1) events ≡ take i events ++ e ∷ [] =
    take_more events i e within ∙ ap (λ (d : Event). take i events ++ d ∷ []) (sym is) in
    subst (λ (l : List Event). HasRun l old outs new all) (sym more) (HasRun-more (take i events) e old outs mid some new all run did)
step-more events i e old outs mid some new all (Err f) b within is was fine run did = absurd (cc)
