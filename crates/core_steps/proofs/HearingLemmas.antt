-- What the ingress takes in: the happening of each leaf, and the world after it.
use Rattle.std.proofs.Common.{◌≡◌, ◌∙◌, ℕ, ◌+◌, ◌^◌, ◌<◌, List, [], ◌∷◌, ◌++◌, length, map, drop, take, get_or, Bool, true, false, cond, Result, Ok, Err, refl, sym, ap, ap₂, subst, arith, add-zero, ◌≤◌}
use Rattle.std.proofs.lemmas.List.{append-nil, length-replicate, take_more, append_assoc, length-take, map-append}
use Rattle.std.proofs.lemmas.List.Elements.{filter-append, filter_map-append}
use Rattle.std.proofs.lemmas.Grind.{replicate_next, flat_map-append}
use Rattle.std.specs.Prelude.{not, ◌||◌, filter, replicate, Option, None, Some, option_map, is_some, IfOk, if◌then◌else◌}
use Rattle.std.specs.List.{enumerate_from, filter_map, flat_map}
use Rattle.std.specs.Option.{option_to_list}
use Rattle.settings.specs.declared.fault.RoomFault.{RoomFault}
use Rattle.members.specs.declared.order.Order.{Order}
use Rattle.members.specs.Room.{RoomState, Step, Answers, tick_step}
use Rattle.members.specs.Calls.{Call as RoomCall, Tick, room_after}
use Rattle.events.specs.declared.output.Out.{Out}
use Rattle.core_steps.specs.declared.rounds.Round.{Round}
use Rattle.core_steps.specs.declared.tasks.FollowUp.{FollowUp}
use Rattle.core_steps.specs.FollowUps.{AddsTasks, IsTask}
use Rattle.core_steps.specs.Happening.{Happening, giving, capped_count, world_after}
use Rattle.core_steps.specs.Hearing.{ticking, numbers_below, refusal_for}
use Rattle.core_steps.specs.Machine.{task_of}
use Rattle.core_steps.specs.Rule.{is_busy, is_empty}
use Rattle.core_steps.specs.Run.{Leaves}
use Rattle.core_steps.specs.World.{WorldState, Task, order}
use Rattle.desk_calls.specs.Notification.{Pending}

-- ---- the room

-- what an accepted call of the room did
pub accepted : (old : RoomState) (before : List Order) (step : Result Step RoomFault) (new : RoomState) (after : List Order)
    → Answers old before step (Ok tt) new after → (s : Step) × (step ≡ Ok s) × (new ≡ s.room) × (after ≡ before ++ s.orders)
accepted old before (Ok s) new after a = (s, refl, a.ok.0, a.ok.1)
accepted old before (Err fault) new after a = let no : ◌≡◌ {A = Result (Unit {0}) RoomFault} (Ok tt) (Err fault) = a.refused in absurd (cc)

-- its orders are few, as those of each call
pub few_given : (old : RoomState) (before : List Order) (step : Result Step RoomFault) (new : RoomState) (after : List Order) (n : ℕ)
    → Answers old before step (Ok tt) new after → before ≡ [] → IfOk step (λ s. length s.orders ≤ n) → length after ≤ n
few_given old before step new after n a eb most =
    let (s, is, er, eo) = accepted old before step new after a in
    let few : length s.orders ≤ n = subst (λ (x : Result Step RoomFault). IfOk x (λ s. length s.orders ≤ n)) is most in
    let orders : after ≡ s.orders = eo ∙ ap (λ (l : List Order). l ++ s.orders) eb in
    subst (λ (l : List Order). length l ≤ n) (sym orders) few

-- ---- nothing waits

idle_parts : (p : Option Pending) (ts : List Task) → (is_some p || not (is_empty ts)) ≡ false → ts ≡ []
idle_parts None [] h = refl
idle_parts None (t ∷ ts) h = let no : true ≡ false = h in absurd (cc)
idle_parts (Some p) ts h = let no : true ≡ false = h in absurd (cc)

pub idle : (w : WorldState) → is_busy w ≡ false → w.tasks ≡ []
idle w h = idle_parts w.pending w.tasks h

-- ---- a happening that takes something in

-- these calls of the room, and these tasks
abbrev pub taking_in : WorldState → List Out → List RoomCall → List Task → Round → ℕ → Happening
taking_in w outs calls made round more =
    record (giving w outs) { calls = calls; made = made; round = round; tmmbns = more }

abbrev pub taken_in : WorldState → RoomState → List Task → Round → ℕ → WorldState
taken_in w room tasks round tmmbns = record w { room = room; tasks = tasks; round = round; tmmbns = tmmbns }

pub uncounted : (n : ℕ) → n < 2 ^ 64 → n ≡ capped_count n 0
uncounted n h = omega arith

pub took : (w : WorldState) (outs : List Out) (calls : List RoomCall) (made : List Task) (round : Round) (more : ℕ)
    (room : RoomState) (tasks : List Task) (tmmbns : ℕ) → is_busy w ≡ false → w.lost < 2 ^ 64
    → room ≡ room_after w.room calls → tasks ≡ made → tmmbns ≡ capped_count w.tmmbns more
    → taken_in w room tasks round tmmbns ≡ world_after w (taking_in w outs calls made round more)
took w outs calls made round more room tasks tmmbns h lost er et em =
    let e : tasks ≡ drop 0 w.tasks ++ made = et ∙ ap (λ (l : List Task). l ++ made) (sym (idle w h)) in
    let el : w.lost ≡ capped_count w.lost 0 = uncounted w.lost lost in
    λ k. record {
      setup = w.setup;
      room = er k;
      tasks = e k;
      pending = w.pending;
      desks = w.desks;
      rows = w.rows;
      workers = w.workers;
      round = round;
      lost = el k;
      tmmbns = em k;
    }

-- ---- a moment

pub ticks : (w : WorldState) (moment : ℕ) (outs : List Out) (room : RoomState) (tasks : List Task) (round : Round)
    → is_busy w ≡ false → w.lost < 2 ^ 64 → w.tmmbns < 2 ^ 64 → room ≡ (tick_step w.room moment).room
    → tasks ≡ (ticking w moment).made → round ≡ (ticking w moment).round
    → Leaves (λ h. h ≡ ticking w moment) w outs (taken_in w room tasks round w.tmmbns) outs
ticks w moment outs room tasks round h lost tmmbns er et eq =
    record {
      happening = ticking w moment;
      allowed = refl;
      leads = ap (λ (n : Round). taken_in w room tasks n w.tmmbns) eq
          ∙ took w [] (Tick moment ∷ []) (ticking w moment).made (ticking w moment).round 0 room tasks w.tmmbns h lost er et
          (uncounted w.tmmbns tmmbns);
      given = sym (append-nil outs);
    }

-- ---- numbers, one more

numbers_push : (k : ℕ) (xs : List ℕ)
    → map (λ (p : ℕ × ℕ). p.0) (enumerate_from k (xs ++ 0 ∷ [])) ≡ map (λ (p : ℕ × ℕ). p.0) (enumerate_from k xs) ++ (k + length xs) ∷ []
numbers_push k [] = rw add-zero refl
numbers_push k (x ∷ xs) =
    let rest = numbers_push (k + 1) xs in
    let e : k + 1 + length xs ≡ k + length (x ∷ xs) = omega arith in
    ap (λ (l : List ℕ). k ∷ l) (rest ∙ ap (λ (n : ℕ). map (λ (p : ℕ × ℕ). p.0) (enumerate_from (k + 1) xs) ++ n ∷ []) e)

zero_and : (n : ℕ) → 0 + length {A = ℕ} (replicate n 0) ≡ n
zero_and n = omega (arith, length-replicate {A = ℕ} n 0)

numbers_more : (n : ℕ) → numbers_below (n + 1) ≡ numbers_below n ++ n ∷ []
numbers_more n =
    ap (λ (l : List ℕ). map (λ (p : ℕ × ℕ). p.0) (enumerate_from 0 l)) (replicate_next n 0)
    ∙ numbers_push 0 (replicate n 0) ∙ ap (λ (z : ℕ). numbers_below n ++ z ∷ []) (zero_and n)

one_of : {X Y : Type 0} (h : X → Option Y) (x : X) → filter_map h (x ∷ []) ≡ option_to_list (h x)
one_of {X} {Y} h x = of (h x)
  where
    of : (o : Option Y) → filter_map (λ (u : Unit {0}). o) (tt ∷ []) ≡ option_to_list o
    of None = refl
    of (Some y) = refl

enumerate_push : {X : Type 0} (k : ℕ) (xs : List X) (x : X)
    → enumerate_from k (xs ++ x ∷ []) ≡ enumerate_from k xs ++ (k + length xs, x) ∷ []
enumerate_push {X} k [] x = let P : ℕ → List (ℕ × X) = λ n. (n, x) ∷ [] in ap P (sym (add-zero k))
enumerate_push {X} k (y ∷ ys) x =
    let rest = enumerate_push (k + 1) ys x in
    let e : k + 1 + length ys ≡ k + length (y ∷ ys) = omega arith in
    ap (λ (l : List (ℕ × X)). (k, y) ∷ l) (rest ∙ ap (λ (n : ℕ). enumerate_from (k + 1) ys ++ (n, x) ∷ []) e)

push_option : {X Y : Type 0} (h : X → Option Y) (xs ys : List X) (x : X) (first before after : List Y) (next : Option Y)
    → ys ≡ xs ++ x ∷ [] → before ≡ first ++ filter_map h xs → next ≡ h x → after ≡ before ++ option_to_list next
    → after ≡ first ++ filter_map h ys
push_option {X} {Y} h xs ys x first before after next ey eb en ea =
    ea ∙ ap₂ (λ (l : List Y) (o : Option Y). l ++ option_to_list o) eb en
    ∙ append_assoc first (filter_map h xs) (option_to_list (h x))
    ∙ ap (λ (l : List Y). first ++ (filter_map h xs ++ l)) (sym (one_of h x))
    ∙ ap (λ (l : List Y). first ++ l) (sym (filter_map-append h xs (x ∷ [])))
    ∙ ap (λ (l : List X). first ++ filter_map h l) (sym ey)

item_one_more : {X Y : Type 0} (h : X → Option Y) (i : ℕ) (xs : List X) (d : X) (first before after : List Y) (next : Option Y)
    → i < length xs → before ≡ first ++ filter_map h (take i xs) → next ≡ h (get_or xs i d) → after ≡ before ++ option_to_list next
    → after ≡ first ++ filter_map h (take (i + 1) xs)
item_one_more h i xs d first before after next lt eb en ea =
    push_option h (take i xs) (take (i + 1) xs) (get_or xs i d) first before after next (take_more xs i d lt) eb en ea

enumerate_more : {X : Type 0} (i : ℕ) (xs : List X) (d : X) → i < length xs
    → enumerate_from 0 (take (i + 1) xs) ≡ enumerate_from 0 (take i xs) ++ (i, get_or xs i d) ∷ []
enumerate_more {X} i xs d lt =
    let e : 0 + length (take i xs) ≡ i = omega (arith, length-take i xs) in
    ap (λ (l : List X). enumerate_from 0 l) (take_more xs i d lt) ∙ enumerate_push 0 (take i xs) (get_or xs i d)
    ∙ ap (λ (n : ℕ). enumerate_from 0 (take i xs) ++ (n, get_or xs i d) ∷ []) e

told_one_more : {X Y Z : Type 0} (h : X → Option Z) (f : Option Z → List Y) (i : ℕ) (xs : List X) (d : X) (first before after : List Y) (next : Option Z)
    → i < length xs → before ≡ first ++ flat_map (λ x. f (h x)) (take i xs) → next ≡ h (get_or xs i d) → after ≡ before ++ f next
    → after ≡ first ++ flat_map (λ x. f (h x)) (take (i + 1) xs)
told_one_more {X} {Y} {Z} h f i xs d first before after next lt eb en ea =
    let g : X → List Y = λ x. f (h x) in
    ea ∙ ap₂ (λ (l : List Y) (o : Option Z). l ++ f o) eb en
    ∙ append_assoc first (flat_map g (take i xs)) (g (get_or xs i d))
    ∙ ap (λ (l : List Y). first ++ (flat_map g (take i xs) ++ l)) (sym (append-nil (g (get_or xs i d))))
    ∙ ap (λ (l : List Y). first ++ l) (sym (flat_map-append g (take i xs) (get_or xs i d ∷ [])))
    ∙ ap (λ (l : List X). first ++ flat_map g l) (sym (take_more xs i d lt))

-- ---- follow-ups as tasks

option_listed : (f : FollowUp → Task) (o : Option FollowUp) → map f (option_to_list o) ≡ option_to_list (option_map f o)
option_listed f None = refl
option_listed f (Some y) = refl

-- what was put after those that waited, as tasks
pushed_listed : (bits : List ℕ) (before after : List FollowUp) (next : Option FollowUp) → after ≡ before ++ option_to_list next
    → map (task_of bits) after ≡ map (task_of bits) before ++ map (task_of bits) (option_to_list next)
pushed_listed bits before after next e = ap (map (task_of bits)) e ∙ map-append (task_of bits) before (option_to_list next)

pushed_task : (bits : List ℕ) (before after : List FollowUp) (next : Option FollowUp) → after ≡ before ++ option_to_list next
    → map (task_of bits) after ≡ map (task_of bits) before ++ option_to_list (option_map (task_of bits) next)
pushed_task bits before after next e =
    pushed_listed bits before after next e ∙ ap (λ (l : List Task). map (task_of bits) before ++ l) (option_listed (task_of bits) next)

-- one of a list more, each of which has a task or none
pub task_one_more : {X : Type 0} (h : X → Option Task) (i : ℕ) (xs : List X) (d : X) (first before after : List FollowUp) (next : Option FollowUp)
    → i < length xs → AddsTasks first before (λ bytes. filter_map h (take i xs)) → IsTask next (h (get_or xs i d))
    → after ≡ before ++ option_to_list next → AddsTasks first after (λ bytes. filter_map h (take (i + 1) xs))
task_one_more h i xs d first before after next lt eb en ea =
    λ bits. item_one_more h i xs d (map (task_of bits) first) (map (task_of bits) before) (map (task_of bits) after) (option_map (task_of bits) next) lt
    (eb bits) (en bits) (pushed_task bits before after next ea)

-- one number more, if it is one of those that have a task
chosen_one : (p : ℕ → Bool) (g : ℕ → Task) (n : ℕ) → map g (filter p (n ∷ [])) ≡ option_to_list (if p n then Some (g n) else None)
chosen_one p g n = of (p n)
  where
    of : (b : Bool) → map g (cond b (n ∷ []) []) ≡ option_to_list (if b then Some (g n) else None)
    of true = refl
    of false = refl

chosen_more : (p : ℕ → Bool) (g : ℕ → Task) (n : ℕ)
    → map g (filter p (numbers_below (n + 1)))
    ≡ map g (filter p (numbers_below n)) ++ option_to_list (if p n then Some (g n) else None)
chosen_more p g n =
    ap (λ (l : List ℕ). map g (filter p l)) (numbers_more n) ∙ ap (map g) (filter-append p (numbers_below n) (n ∷ []))
    ∙ map-append g (filter p (numbers_below n)) (filter p (n ∷ []))
    ∙ ap (λ (l : List Task). map g (filter p (numbers_below n)) ++ l) (chosen_one p g n)

pub chosen_one_more : (p : ℕ → Bool) (g : List ℕ → ℕ → Task) (n : ℕ) (first before after : List FollowUp) (next : Option FollowUp)
    → AddsTasks first before (λ bytes. map (g bytes) (filter p (numbers_below n)))
    → ((bytes : List ℕ) → option_map (task_of bytes) next ≡ (if p n then Some (g bytes n) else None))
    → after ≡ before ++ option_to_list next → AddsTasks first after (λ bytes. map (g bytes) (filter p (numbers_below (n + 1))))
chosen_one_more p g n first before after next eb en ea =
    λ bits. pushed_task bits before after next ea
    ∙ ap₂ (λ (l : List Task) (o : Option Task). l ++ option_to_list o) (eb bits) (en bits)
    ∙ append_assoc (map (task_of bits) first) (map (g bits) (filter p (numbers_below n))) (option_to_list (if p n then Some (g bits n) else None))
    ∙ ap (λ (l : List Task). map (task_of bits) first ++ l) (sym (chosen_more p (g bits) n))

-- one of a numbered list more, each of which has a list of tasks
pub listed_one_more : {X : Type 0} (h : ℕ × X → List Task) (i : ℕ) (xs : List X) (d : X) (first before after : List FollowUp) (next : Option FollowUp)
    → i < length xs → AddsTasks first before (λ bytes. flat_map h (enumerate_from 0 (take i xs)))
    → ((bytes : List ℕ) → map (task_of bytes) (option_to_list next) ≡ h (i, get_or xs i d)) → after ≡ before ++ option_to_list next
    → AddsTasks first after (λ bytes. flat_map h (enumerate_from 0 (take (i + 1) xs)))
listed_one_more {X} h i xs d first before after next lt eb en ea =
    λ bits. let former : List (ℕ × X) = enumerate_from 0 (take i xs) in
    let one : List (ℕ × X) = (i, get_or xs i d) ∷ [] in
    pushed_listed bits before after next ea ∙ ap₂ (λ (l m : List Task). l ++ m) (eb bits) (en bits)
    ∙ append_assoc (map (task_of bits) first) (flat_map h former) (h (i, get_or xs i d))
    ∙ ap (λ (l : List Task). map (task_of bits) first ++ (flat_map h former ++ l)) (sym (append-nil (h (i, get_or xs i d))))
    ∙ ap (λ (l : List Task). map (task_of bits) first ++ l) (sym (flat_map-append h former one))
    ∙ ap (λ (l : List (ℕ × X)). map (task_of bits) first ++ flat_map h l) (sym (enumerate_more i xs d lt))

-- an ask is refused by its follow-up if it is by its task
refused_alike : (f : FollowUp → Task) (o : Option FollowUp) → refusal_for o ≡ refusal_for (option_map f o)
refused_alike f None = refl
refused_alike f (Some y) = refl

pub refusal_one_more : {X : Type 0} (h : X → Option Task) (i : ℕ) (xs : List X) (d : X) (first before after : List Out) (next : Option FollowUp)
    → i < length xs → before ≡ first ++ flat_map (λ x. refusal_for (h x)) (take i xs) → IsTask next (h (get_or xs i d))
    → after ≡ before ++ refusal_for next → after ≡ first ++ flat_map (λ x. refusal_for (h x)) (take (i + 1) xs)
refusal_one_more h i xs d first before after next lt eb en ea =
    told_one_more h (λ (o : Option Task). refusal_for o) i xs d first before after (option_map (task_of []) next) lt eb (en [])
    (ea ∙ ap (λ (l : List Out). before ++ l) (refused_alike (task_of []) next))

pub tasks_from : (bits : List ℕ) (orders : List Order) (follow_ups : List FollowUp) (done done' : ℕ) → done ≡ 0 → done' ≡ 0
    → map order (drop done orders) ++ map (task_of bits) (drop done' follow_ups) ≡ map order orders ++ map (task_of bits) follow_ups
tasks_from bits orders follow_ups done done' e e' =
    ap₂ (λ (m n : ℕ). map order (drop m orders) ++ map (task_of bits) (drop n follow_ups)) e e'
