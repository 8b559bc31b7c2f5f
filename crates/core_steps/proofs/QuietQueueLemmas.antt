-- The requests of one leg that were heard: those that were asked, then those in hand, in the ring and among the tasks.
use Rattle.std.proofs.Common.{◌≡◌, ◌≢◌, ℕ, ◌<◌, ◌≤◌, List, [], ◌∷◌, ◌++◌, map, refl, sym, ap, subst, ◌∙◌, arith, Option, Some, None, Bool, true, false, append_assoc, append-nil}
use Rattle.std.specs.Prelude.{◌==◌, ◌&&◌, MatchBool, flat_map, if◌then◌else◌}
use Rattle.std.specs.List.{last_or}
use Rattle.std.proofs.lemmas.Bool.{eq-eqb}
use Rattle.std.proofs.lemmas.Bool.Decides.{nat_tests}
use Rattle.std.proofs.lemmas.Grind.{flat_map-append}
use Rattle.members.specs.declared.order.Order.{Order}
use Rattle.members.specs.declared.order.Order.TheVariants.{Arrive, Depart, Route}
use Rattle.events.specs.declared.job.Job.{Job}
use Rattle.events.specs.declared.job.Job.TheVariants.{Packet, Request, Resend, Pli, Report, Goodbye}
use Rattle.core_steps.specs.Quiet.{HeardRate, words_heard}
use Rattle.core_steps.specs.World.{Task, order, push, pulse, expire, report, Hand, free, doing, telling}
use Rattle.core_steps.proofs.QuietRoomLemmas.{Follows}

-- ---- what asks, as pairs of a stay and a word

abbrev pub asks_if : Bool → ℕ → ℕ → List (ℕ × ℕ)
asks_if b stay word = if b then (stay, word) ∷ [] else []

abbrev pub job_asks : ℕ → Job → List (ℕ × ℕ)
job_asks n (Packet publisher bytes) = []
job_asks n (Request leg stay word) = asks_if (leg == n) stay word
job_asks n (Resend leg stay nack) = []
job_asks n (Pli leg moment) = []
job_asks n (Report leg stay sr) = []
job_asks n (Goodbye leg) = []

abbrev pub hand_asks : ℕ → Hand → List (ℕ × ℕ)
hand_asks n free = []
hand_asks n (doing job) = job_asks n job
hand_asks n (telling p) = []

abbrev pub task_asks : ℕ → Task → List (ℕ × ℕ)
task_asks n (order o) = []
task_asks n (push k job) = job_asks n job
task_asks n (pulse p) = []
task_asks n (expire p) = []
task_asks n (report p) = []

abbrev pub jobs_asks : ℕ → List Job → List (ℕ × ℕ)
jobs_asks n jobs = flat_map (job_asks n) jobs

abbrev pub tasks_asks : ℕ → List Task → List (ℕ × ℕ)
tasks_asks n tasks = flat_map (task_asks n) tasks

abbrev pub rate_asks : ℕ → HeardRate → List (ℕ × ℕ)
rate_asks n r = asks_if (r.leg == n) r.stay r.word

abbrev pub rates_asks : ℕ → List HeardRate → List (ℕ × ℕ)
rates_asks n rates = flat_map (rate_asks n) rates

pub tasks_asks-append : (n : ℕ) (xs ys : List Task) → tasks_asks n (xs ++ ys) ≡ tasks_asks n xs ++ tasks_asks n ys
tasks_asks-append n xs ys = flat_map-append (task_asks n) xs ys

pub jobs_asks-append : (n : ℕ) (xs ys : List Job) → jobs_asks n (xs ++ ys) ≡ jobs_asks n xs ++ jobs_asks n ys
jobs_asks-append n xs ys = flat_map-append (job_asks n) xs ys

pub rates_asks-append : (n : ℕ) (xs ys : List HeardRate) → rates_asks n (xs ++ ys) ≡ rates_asks n xs ++ rates_asks n ys
rates_asks-append n xs ys = flat_map-append (rate_asks n) xs ys

pub orders_asks : (n : ℕ) (orders : List Order) (rest : List Task) → tasks_asks n (map order orders ++ rest) ≡ tasks_asks n rest
orders_asks n [] rest = refl
orders_asks n (o ∷ orders) rest = orders_asks n orders rest

-- ---- the words of one stay

abbrev pub word_if : ℕ → ℕ × ℕ → List ℕ
word_if stay x = if x.0 == stay then x.1 ∷ [] else []

abbrev pub words_of : ℕ → List (ℕ × ℕ) → List ℕ
words_of stay xs = flat_map (word_if stay) xs

words_of-append : (stay : ℕ) (xs ys : List (ℕ × ℕ)) → words_of stay (xs ++ ys) ≡ words_of stay xs ++ words_of stay ys
words_of-append stay xs ys = flat_map-append (word_if stay) xs ys

pub words_heard-asks : (n stay : ℕ) (rates : List HeardRate) → words_heard n stay rates ≡ words_of stay (rates_asks n rates)
words_heard-asks n stay [] = refl
words_heard-asks n stay (r ∷ rates) =
    step (r.leg == n) (r.stay == stay) refl
    ∙ ap (λ (ws : List ℕ). words_of stay (rate_asks n r) ++ ws) (words_heard-asks n stay rates)
    ∙ sym (words_of-append stay (rate_asks n r) (rates_asks n rates))
  where
    step : (a b : Bool) → (r.stay == stay) ≡ b
        → (if (a && b) then r.word ∷ [] else []) ++ words_heard n stay rates ≡ words_of stay (asks_if a r.stay r.word) ++ words_heard n stay rates
    step true true is = ap (λ (x : Bool). ((if x then r.word ∷ [] else []) ++ []) ++ words_heard n stay rates) (sym is)
    step true false is = ap (λ (x : Bool). ((if x then r.word ∷ [] else []) ++ []) ++ words_heard n stay rates) (sym is)
    step false b is = refl

last_push : (o : Option ℕ) (xs : List ℕ) (x : ℕ) → last_or o (xs ++ x ∷ []) ≡ Some x
last_push o [] x = refl
last_push o (y ∷ xs) x = last_push (Some y) xs x

pub words_same : (stay word : ℕ) (xs : List (ℕ × ℕ)) → last_or None (words_of stay (xs ++ (stay, word) ∷ [])) ≡ Some word
words_same stay word xs =
    ap (λ (ws : List ℕ). last_or None ws)
    (words_of-append stay xs ((stay, word) ∷ [])
    ∙ ap (λ (b : Bool). words_of stay xs ++ ((if b then word ∷ [] else []) ++ [])) (eq-eqb stay stay refl))
    ∙ last_push None (words_of stay xs) word

unlike : (a b : ℕ) → a ≢ b → (a == b) ≡ false
unlike a b differs = grind (arith, nat_tests)

pub words_other : (stay other word : ℕ) (xs : List (ℕ × ℕ)) → other ≢ stay → words_of stay (xs ++ (other, word) ∷ []) ≡ words_of stay xs
words_other stay other word xs differs =
    words_of-append stay xs ((other, word) ∷ [])
    ∙ (ap (λ (b : Bool). words_of stay xs ++ ((if b then word ∷ [] else []) ++ [])) (unlike other stay differs)
    ∙ append-nil (words_of stay xs))

-- ---- stays below a bound

abbrev pub AllBelow : ℕ → List (ℕ × ℕ) → Type 0
AllBelow bound [] = Unit {0}
AllBelow bound (x ∷ xs) = (x.0 < bound) × AllBelow bound xs

pub below-append : (bound : ℕ) (xs ys : List (ℕ × ℕ)) → AllBelow bound xs → AllBelow bound ys → AllBelow bound (xs ++ ys)
below-append bound [] ys a b = b
below-append bound (x ∷ xs) ys a b = (a.0, below-append bound xs ys a.1 b)

below_first : (bound : ℕ) (xs ys : List (ℕ × ℕ)) → AllBelow bound (xs ++ ys) → AllBelow bound xs
below_first bound [] ys a = tt
below_first bound (x ∷ xs) ys a = (a.0, below_first bound xs ys a.1)

pub below_more : (bound more : ℕ) (xs : List (ℕ × ℕ)) → bound ≤ more → AllBelow bound xs → AllBelow more xs
below_more bound more [] le a = tt
below_more bound more (x ∷ xs) le a = (omega (arith, le, a.0), below_more bound more xs le a.1)

words_below : (bound stay : ℕ) (xs : List (ℕ × ℕ)) → bound ≤ stay → AllBelow bound xs → words_of stay xs ≡ []
words_below bound stay [] le a = refl
words_below bound stay (x ∷ xs) le a =
    ap (λ (b : Bool). (if b then x.1 ∷ [] else []) ++ words_of stay xs) (unlike x.0 stay (λ e. absurd (omega (arith, e, le, a.0))))
    ∙ words_below bound stay xs le a.1

-- ---- orders stand before what follows

abbrev pub NoOrders : List Task → Type 0
NoOrders [] = Unit {0}
NoOrders (order o ∷ tasks) = ⊥
NoOrders (push k job ∷ tasks) = NoOrders tasks
NoOrders (pulse p ∷ tasks) = NoOrders tasks
NoOrders (expire p ∷ tasks) = NoOrders tasks
NoOrders (report p ∷ tasks) = NoOrders tasks

abbrev pub OrdersFirst : List Task → Type 0
OrdersFirst [] = Unit {0}
OrdersFirst (order o ∷ tasks) = OrdersFirst tasks
OrdersFirst (push k job ∷ tasks) = NoOrders tasks
OrdersFirst (pulse p ∷ tasks) = NoOrders tasks
OrdersFirst (expire p ∷ tasks) = NoOrders tasks
OrdersFirst (report p ∷ tasks) = NoOrders tasks

pub no_orders-first : (tasks : List Task) → NoOrders tasks → OrdersFirst tasks
no_orders-first [] h = tt
no_orders-first (order o ∷ tasks) h = absurd h
no_orders-first (push k job ∷ tasks) h = h
no_orders-first (pulse p ∷ tasks) h = h
no_orders-first (expire p ∷ tasks) h = h
no_orders-first (report p ∷ tasks) h = h

pub orders_first : (orders : List Order) (rest : List Task) → NoOrders rest → OrdersFirst (map order orders ++ rest)
orders_first [] rest h = no_orders-first rest h
orders_first (o ∷ orders) rest h = orders_first orders rest h

pub no_orders-append : (xs ys : List Task) → NoOrders xs → NoOrders ys → NoOrders (xs ++ ys)
no_orders-append [] ys a b = b
no_orders-append (order o ∷ xs) ys a b = absurd a
no_orders-append (push k job ∷ xs) ys a b = no_orders-append xs ys a b
no_orders-append (pulse p ∷ xs) ys a b = no_orders-append xs ys a b
no_orders-append (expire p ∷ xs) ys a b = no_orders-append xs ys a b
no_orders-append (report p ∷ xs) ys a b = no_orders-append xs ys a b

-- the orders that wait lead the leg from the stay with which its subscriber is present at the desk to the one that stands
abbrev pub Tracks : ℕ → ℕ → ℕ → List Task → ℕ → Type 0
Tracks n bound now [] stands = now ≡ stands
Tracks n bound now (order (Arrive leg stay) ∷ tasks) stands =
    (bound ≤ stay) × MatchBool (leg == n) ((now ≡ 0) × (1 ≤ stay) × Tracks n bound stay tasks stands) (Tracks n bound now tasks stands)
Tracks n bound now (order (Depart leg stay) ∷ tasks) stands =
    MatchBool (leg == n) ((now ≡ stay) × (1 ≤ stay) × Tracks n bound 0 tasks stands) (Tracks n bound now tasks stands)
Tracks n bound now (order (Route leg stay turn on) ∷ tasks) stands = Tracks n bound now tasks stands
Tracks n bound now (push k job ∷ tasks) stands = Tracks n bound now tasks stands
Tracks n bound now (pulse p ∷ tasks) stands = Tracks n bound now tasks stands
Tracks n bound now (expire p ∷ tasks) stands = Tracks n bound now tasks stands
Tracks n bound now (report p ∷ tasks) stands = Tracks n bound now tasks stands

tracks_none : (n bound now : ℕ) (tasks : List Task) (stands : ℕ) → NoOrders tasks → now ≡ stands → Tracks n bound now tasks stands
tracks_none n bound now [] stands h e = e
tracks_none n bound now (order o ∷ tasks) stands h e = absurd h
tracks_none n bound now (push k job ∷ tasks) stands h e = tracks_none n bound now tasks stands h e
tracks_none n bound now (pulse p ∷ tasks) stands h e = tracks_none n bound now tasks stands h e
tracks_none n bound now (expire p ∷ tasks) stands h e = tracks_none n bound now tasks stands h e
tracks_none n bound now (report p ∷ tasks) stands h e = tracks_none n bound now tasks stands h e

none_tracks : (n bound now : ℕ) (tasks : List Task) (stands : ℕ) → NoOrders tasks → Tracks n bound now tasks stands → now ≡ stands
none_tracks n bound now [] stands h e = e
none_tracks n bound now (order o ∷ tasks) stands h e = absurd h
none_tracks n bound now (push k job ∷ tasks) stands h e = none_tracks n bound now tasks stands h e
none_tracks n bound now (pulse p ∷ tasks) stands h e = none_tracks n bound now tasks stands h e
none_tracks n bound now (expire p ∷ tasks) stands h e = none_tracks n bound now tasks stands h e
none_tracks n bound now (report p ∷ tasks) stands h e = none_tracks n bound now tasks stands h e

pub tracks_orders : (n bound now : ℕ) (orders : List Order) (rest : List Task) (stands : ℕ) → NoOrders rest → Follows n bound now orders stands
    → Tracks n bound now (map order orders ++ rest) stands
tracks_orders n bound now [] rest stands none f = tracks_none n bound now rest stands none f
tracks_orders n bound now (Arrive leg stay ∷ orders) rest stands none f =
    (f.0, step (leg == n) f.1 (λ s h. tracks_orders n bound s orders rest stands none h))
  where
    step : (t : Bool) → MatchBool t ((now ≡ 0) × (1 ≤ stay) × Follows n bound stay orders stands) (Follows n bound now orders stands)
        → ((s : ℕ) → Follows n bound s orders stands → Tracks n bound s (map order orders ++ rest) stands)
        → MatchBool t ((now ≡ 0) × (1 ≤ stay) × Tracks n bound stay (map order orders ++ rest) stands)
        (Tracks n bound now (map order orders ++ rest) stands)
    step true h more = (h.0, h.1, more stay h.2)
    step false h more = more now h
tracks_orders n bound now (Depart leg stay ∷ orders) rest stands none f =
    step (leg == n) f (λ s h. tracks_orders n bound s orders rest stands none h)
  where
    step : (t : Bool) → MatchBool t ((now ≡ stay) × (1 ≤ stay) × Follows n bound 0 orders stands) (Follows n bound now orders stands)
        → ((s : ℕ) → Follows n bound s orders stands → Tracks n bound s (map order orders ++ rest) stands)
        → MatchBool t ((now ≡ stay) × (1 ≤ stay) × Tracks n bound 0 (map order orders ++ rest) stands)
        (Tracks n bound now (map order orders ++ rest) stands)
    step true h more = (h.0, h.1, more 0 h.2)
    step false h more = more now h
tracks_orders n bound now (Route leg stay turn on ∷ orders) rest stands none f = tracks_orders n bound now orders rest stands none f

-- ---- the queue of one leg

-- What was heard of the leg is what was asked, what is in hand, what waits in the ring and what waits among the tasks. The stays
-- in it are below the next number, and, but for those among the tasks, below any stay that is still to arrive.
pub record IsWaiting (n next stands : ℕ) (tasks : List Task) (hand ring : List (ℕ × ℕ)) (rates : List HeardRate) (stay : ℕ) (done : List (ℕ × ℕ)) : Type 0 where
  pub bound : ℕ
  pub flows : rates_asks n rates ≡ done ++ (hand ++ (ring ++ tasks_asks n tasks))
  pub below : AllBelow next (rates_asks n rates)
  pub early : AllBelow bound (done ++ (hand ++ ring))
  pub tracks : Tracks n bound stay tasks stands

module _ (n : ℕ) (hand ring : List (ℕ × ℕ)) (rates : List HeardRate) (stay : ℕ) (done : List (ℕ × ℕ)) where
  -- a datagram, a moment or a selection is taken in
  pub waiting_more : (next later stands now : ℕ) (orders : List Order) (rest : List Task) (more : List HeardRate)
      → Follows n next stands orders now → next ≤ later → NoOrders rest → tasks_asks n rest ≡ rates_asks n more
      → AllBelow later (rates_asks n more) → IsWaiting n next stands [] hand ring rates stay done
      → IsWaiting n later now (map order orders ++ rest) hand ring (rates ++ more) stay done
  waiting_more next later stands now orders rest more follows le none same low h = record {
    bound = next;
    flows = rates_asks-append n rates more
        ∙ (ap (λ (xs : List (ℕ × ℕ)). xs ++ rates_asks n more) h.flows
        ∙ (joins ∙ ap (λ (xs : List (ℕ × ℕ)). done ++ (hand ++ (ring ++ xs))) (sym same ∙ sym (orders_asks n orders rest))));
    below = subst (λ (xs : List (ℕ × ℕ)). AllBelow later xs) (sym (rates_asks-append n rates more))
        (below-append later (rates_asks n rates) (rates_asks n more) (below_more next later (rates_asks n rates) le h.below) low);
    early = subst (λ (xs : List (ℕ × ℕ)). AllBelow next xs)
        (h.flows ∙ ap (λ (xs : List (ℕ × ℕ)). done ++ (hand ++ xs)) (append-nil ring)) h.below;
    tracks = tracks_orders n next stay orders rest now none (subst (λ (s : ℕ). Follows n next s orders now) (sym h.tracks) follows);
  }
    where
      joins : (done ++ (hand ++ (ring ++ []))) ++ rates_asks n more ≡ done ++ (hand ++ (ring ++ rates_asks n more))
      joins =
          append_assoc done (hand ++ (ring ++ [])) (rates_asks n more)
          ∙ ap (λ (xs : List (ℕ × ℕ)). done ++ xs)
          (append_assoc hand (ring ++ []) (rates_asks n more)
          ∙ ap (λ (xs : List (ℕ × ℕ)). hand ++ (xs ++ rates_asks n more)) (append-nil ring))

  module _ (next stands : ℕ) where
    -- the first task is done, which asked nothing
    pub waiting_rest : (t : Task) (tasks : List Task) (later : ℕ) → task_asks n t ≡ []
        → (h : IsWaiting n next stands (t ∷ tasks) hand ring rates stay done) → Tracks n h.bound later tasks stands
        → IsWaiting n next stands tasks hand ring rates later done
    waiting_rest t tasks later none h tracks = record {
      bound = h.bound;
      flows = h.flows ∙ ap (λ (xs : List (ℕ × ℕ)). done ++ (hand ++ (ring ++ (xs ++ tasks_asks n tasks)))) none;
      below = h.below;
      early = h.early;
      tracks = tracks;
    }

    -- a job goes into the ring
    pub waiting_put : (k : ℕ) (job : Job) (tasks : List Task) → NoOrders tasks → IsWaiting n next stands (push k job ∷ tasks) hand ring rates stay done
        → IsWaiting n next stands tasks hand (ring ++ job_asks n job) rates stay done
    waiting_put k job tasks none h = record {
      bound = next;
      flows = flows;
      below = h.below;
      early = below_first next (done ++ (hand ++ (ring ++ job_asks n job))) (tasks_asks n tasks)
          (subst (λ (xs : List (ℕ × ℕ)). AllBelow next xs) (flows ∙ sym parts) h.below);
      tracks = tracks_none n next stay tasks stands none (none_tracks n h.bound stay tasks stands none h.tracks);
    }
      where
        flows : rates_asks n rates ≡ done ++ (hand ++ ((ring ++ job_asks n job) ++ tasks_asks n tasks))
        flows = h.flows ∙ ap (λ (xs : List (ℕ × ℕ)). done ++ (hand ++ xs)) (sym (append_assoc ring (job_asks n job) (tasks_asks n tasks)))

        parts : (done ++ (hand ++ (ring ++ job_asks n job))) ++ tasks_asks n tasks ≡ done ++ (hand ++ ((ring ++ job_asks n job) ++ tasks_asks n tasks))
        parts =
            append_assoc done (hand ++ (ring ++ job_asks n job)) (tasks_asks n tasks)
            ∙ ap (λ (xs : List (ℕ × ℕ)). done ++ xs) (append_assoc hand (ring ++ job_asks n job) (tasks_asks n tasks))

    -- a job is taken off the ring, while the hand is free
    pub waiting_taken : (tasks : List Task) (first rest : List (ℕ × ℕ)) → hand ≡ [] → ring ≡ first ++ rest
        → IsWaiting n next stands tasks hand ring rates stay done → IsWaiting n next stands tasks first rest rates stay done
    waiting_taken tasks first rest empty is h = record {
      bound = h.bound;
      flows = h.flows ∙ ap (λ (xs : List (ℕ × ℕ)). done ++ (xs ++ (ring ++ tasks_asks n tasks))) empty
          ∙ ap (λ (xs : List (ℕ × ℕ)). done ++ (xs ++ tasks_asks n tasks)) is
          ∙ ap (λ (xs : List (ℕ × ℕ)). done ++ xs) (append_assoc first rest (tasks_asks n tasks));
      below = h.below;
      early = subst (λ (xs : List (ℕ × ℕ)). AllBelow h.bound xs)
          (ap (λ (xs : List (ℕ × ℕ)). done ++ (xs ++ ring)) empty ∙ ap (λ (xs : List (ℕ × ℕ)). done ++ xs) is) h.early;
      tracks = h.tracks;
    }

    -- what is in hand is asked
    pub waiting_asked : (tasks : List Task) → IsWaiting n next stands tasks hand ring rates stay done
        → IsWaiting n next stands tasks [] ring rates stay (done ++ hand)
    waiting_asked tasks h = record {
      bound = h.bound;
      flows = h.flows ∙ sym (append_assoc done hand (ring ++ tasks_asks n tasks));
      below = h.below;
      early = subst (λ (xs : List (ℕ × ℕ)). AllBelow h.bound xs) (sym (append_assoc done hand ring)) h.early;
      tracks = h.tracks;
    }

    -- a stay that arrives was never asked in
    pub silent_before : (tasks : List Task) (new : ℕ) (h : IsWaiting n next stands tasks hand ring rates stay done) → h.bound ≤ new → words_of new done ≡ []
    silent_before tasks new h le = words_below h.bound new done le (below_first h.bound done (hand ++ ring) h.early)
