-- Turns one after the other.
use Rattle.std.proofs.Common.{◌≡◌, ◌∙◌, ℕ, ◌+◌, ◌<◌, ◌≤◌, Bool, true, false, inl, inr, List, [], ◌∷◌, ◌++◌, get_or, length, map, take, refl, sym, ap, subst, arith, append_assoc, append-nil, length-append, Option}
use Rattle.std.proofs.lemmas.Grind.{flat_map-append}
use Rattle.std.proofs.lemmas.List.{map-append, take_more}
use Rattle.std.specs.Prelude.{Result, Ok, Err, OnErr}
use Rattle.events.specs.declared.event.Event.{Event}
use Rattle.events.specs.declared.output.Out.{Out}
use Rattle.ports.specs.declared.datagram.Datagram.{Datagram}
use Rattle.ports.specs.declared.source.TheConstants.{MAX_FAULTS}
use Rattle.ports.specs.Outside.{Arrival, came, chosen, stop, silence, failure, is_stop, Grows, SinkView, datagram_in, datagrams_of}
use Rattle.ports.specs.Ticks.{TicksState, ticks_after}
use Rattle.ports.proofs.GrowsLemmas.{grows_more, grows_nothing}
use Rattle.ports.specs.declared.source.ReceiveFault.{ReceiveFault}
use Rattle.settings.specs.Links.{LinkTable}
use Rattle.desk_calls.specs.DeskCalls.{source_of}
use Rattle.datagram.specs.Reads.{Admission, IsSaidBy}
use Rattle.entrance.specs.declared.entrance.Admitted.{Admitted}
use Rattle.entrance.specs.declared.entrance.Admitted.TheVariants.{Nothing, Taking, Select, Stop}
use Rattle.entrance.specs.Entrance.{ComesInVain, IfTaken, IsTakenFrom}
use Rattle.core_steps.specs.Hearing.{SaysTaken}
use Rattle.core_steps.specs.Waits.{as_counted}
use Rattle.core_steps.specs.World.{WorldState}
use Rattle.one_thread.specs.declared.tally.Tally.{Tally}
use Rattle.one_thread.specs.Driver.{FailsToReceive, StopsIn}
use Rattle.one_thread.specs.Driving.{Drives, DrivesSome}
use Rattle.one_thread.specs.Turns.{BreaksOff, GoesOn, SendsCounted, Sends, HasEnded, HasMade, NeverStops, MakesTurn, MakesTurns, OutsideView, Raises, Turn, events_of, faults_over, faults_with, brought_at, heard_count, heard_over, sink_of, tick_at, ticks_over, turn_events, view_of}
use Rattle.one_thread.proofs.DrivingLemmas.{drives_after, drives_nothing, drives_on, some_none}

-- ---- what is handed over

pub raises_more : (a b c n m : ℕ) → Raises a n b → Raises b m c → Raises a (n + m) c
raises_more a b c n m first last =
    λ k is. last (k + n) (first k is) ∙ ap as_counted (omega arith)

pub raises_nothing : (a : ℕ) → Raises a 0 a
raises_nothing a = λ k is. is ∙ ap as_counted (omega arith)

pub sends_nothing : (a : SinkView) → Sends [] a a 0 0
sends_nothing a = record { handed = grows_nothing a.handed; all = refl; failures = omega arith }

pub sends_more : (xs ys : List Out) (a b c : SinkView) (s f t g : ℕ) → Sends xs a b s f → Sends ys b c t g
    → Sends (xs ++ ys) a c (s + t) (f + g)
sends_more xs ys a b c s f t g first last =
    let both : datagrams_of (xs ++ ys) ≡ datagrams_of xs ++ datagrams_of ys = flat_map-append datagram_in xs ys in
    let size = ap length both ∙ length-append (datagrams_of xs) (datagrams_of ys) in
    record {
      handed = subst (λ (l : List Datagram). Grows a.handed l c.handed) (sym both)
          (grows_more a.handed (datagrams_of xs) (datagrams_of ys) b.handed c.handed first.handed last.handed);
      all = omega (arith, size, first.all, last.all);
      failures = omega (arith, first.failures, last.failures);
    }

pub counted_more : (xs ys : List Out) (a b c : SinkView) (d e f : Tally) → SendsCounted xs a b d e → SendsCounted ys b c e f → SendsCounted (xs ++ ys) a c d f
counted_more xs ys a b c d e f first last = record {
  sent = first.sent + last.sent;
  failed = first.failed + last.failed;
  sends = sends_more xs ys a b c first.sent first.failed last.sent last.failed first.sends last.sends;
  heard = last.heard ∙ first.heard;
  counts_sent = raises_more d.sent e.sent f.sent first.sent last.sent first.counts_sent last.counts_sent;
  counts_failed = raises_more d.failed e.failed f.failed first.failed last.failed first.counts_failed last.counts_failed;
}

pub counted_none : (outs : List Out) (a : SinkView) (t : Tally) → datagrams_of outs ≡ [] → SendsCounted outs a a t t
counted_none outs a t none = record {
  sent = 0;
  failed = 0;
  sends = record {
    handed = subst (λ (l : List Datagram). Grows a.handed l a.handed) (sym none) (grows_nothing a.handed);
    all = sym (ap length none);
    failures = omega arith;
  };
  heard = refl;
  counts_sent = raises_nothing t.sent;
  counts_failed = raises_nothing t.failed;
}

-- ---- one turn more

events_last : (ticks : TicksState) (turns : List Turn) (t : Turn)
    → events_of ticks (turns ++ t ∷ []) ≡ events_of ticks turns ++ turn_events (ticks_over ticks turns) t
events_last ticks [] t = append-nil (turn_events ticks t)
events_last ticks (x ∷ turns) t =
    ap (λ (l : List Event). turn_events ticks x ++ l) (events_last (ticks_after ticks x.moment) turns t)
    ∙ sym (append_assoc (turn_events ticks x) (events_of (ticks_after ticks x.moment) turns) (turn_events (ticks_over (ticks_after ticks x.moment) turns) t))

ticks_last : (ticks : TicksState) (turns : List Turn) (t : Turn)
    → ticks_over ticks (turns ++ t ∷ []) ≡ ticks_after (ticks_over ticks turns) t.moment
ticks_last ticks [] t = refl
ticks_last ticks (x ∷ turns) t = ticks_last (ticks_after ticks x.moment) turns t

faults_last : (faults : ℕ) (turns : List Turn) (t : Turn) → faults_over faults (turns ++ t ∷ []) ≡ faults_with (faults_over faults turns) t.arrival
faults_last faults [] t = refl
faults_last faults (x ∷ turns) t = faults_last (faults_with faults x.arrival) turns t

heard_last : (turns : List Turn) (t : Turn) → heard_over (turns ++ t ∷ []) ≡ heard_over turns + heard_count t.arrival
heard_last [] t = omega arith
heard_last (x ∷ turns) t = ap (λ (n : ℕ). heard_count x.arrival + n) (heard_last turns t) ∙ omega arith

goes_on_last : (faults : ℕ) (turns : List Turn) (t : Turn) → GoesOn faults turns → faults_over faults turns < MAX_FAULTS
    → GoesOn faults (turns ++ t ∷ [])
goes_on_last faults [] t on few = (few, tt)
goes_on_last faults (x ∷ turns) t on few = (on.0, goes_on_last (faults_with faults x.arrival) turns t on.1 few)

makes_last : (ticks next : TicksState) (turns : List Turn) (f g : ℕ) (stopped : Bool) (a b c : WorldState) (x y z : OutsideView) (d e : Tally)
    (made : MakesTurns ticks turns a b x y d) (one : MakesTurn (ticks_over ticks turns) next f g stopped b c y z d e)
    → MakesTurns ticks (turns ++ one.turn ∷ []) a c x z e
makes_last ticks next turns f g stopped a b c x y z d e made one = record {
  outs = made.outs ++ one.outs;
  drives = subst (λ (l : List Event). Drives l a [] c (made.outs ++ one.outs)) (sym (events_last ticks turns one.turn))
      (drives_on (events_of ticks turns) (turn_events (ticks_over ticks turns) one.turn) a b c [] made.outs (made.outs ++ one.outs)
      made.drives (drives_after (turn_events (ticks_over ticks turns) one.turn) b c made.outs one.outs one.drives));
  given = subst (λ (l : List Arrival). Grows x.given l z.given) (sym (map-append (λ (t : Turn). t.arrival) turns (one.turn ∷ [])))
      (grows_more x.given (map (λ (t : Turn). t.arrival) turns) (one.turn.arrival ∷ []) y.given z.given made.given one.given);
  told = subst (λ (l : List ℕ). Grows x.told l z.told) (sym (map-append (λ (t : Turn). t.moment) turns (one.turn ∷ [])))
      (grows_more x.told (map (λ (t : Turn). t.moment) turns) (one.turn.moment ∷ []) y.told z.told made.told one.told);
  sent = made.sent + one.sent;
  failed = made.failed + one.failed;
  sends = sends_more made.outs one.outs (sink_of x) (sink_of y) (sink_of z) made.sent made.failed one.sent one.failed made.sends one.sends;
  counts_heard = one.counts_heard (heard_over turns) made.counts_heard ∙ ap as_counted (sym (heard_last turns one.turn));
  counts_sent = one.counts_sent made.sent made.counts_sent;
  counts_failed = one.counts_failed made.failed made.counts_failed;
}

pub makes_nothing : (ticks : TicksState) (w : WorldState) (x : OutsideView) (t : Tally) → t ≡ record { heard = 0; sent = 0; failed = 0 }
    → MakesTurns ticks [] w w x x t
makes_nothing ticks w x t none = record {
  outs = [];
  drives = drives_nothing w [];
  given = grows_nothing x.given;
  told = grows_nothing x.told;
  sent = 0;
  failed = 0;
  sends = sends_nothing (sink_of x);
  counts_heard = ap (λ (u : Tally). u.heard) none;
  counts_sent = ap (λ (u : Tally). u.sent) none;
  counts_failed = ap (λ (u : Tally). u.failed) none;
}

pub made_nothing : (w : WorldState) (ticks : TicksState) (faults : ℕ) (t : Tally) (x : OutsideView) → faults ≡ 0
    → t ≡ record { heard = 0; sent = 0; failed = 0 } → HasMade w ticks 0 w ticks faults t x x
made_nothing w ticks faults t x zero none = record {
  turns = [];
  whole = record { size = refl; on = tt };
  goes_on = tt;
  made = makes_nothing ticks w x t none;
  noted = refl;
  faults = zero;
}

never_stops_last : (turns : List Turn) (t : Turn) → NeverStops turns → is_stop t.arrival ≡ false → NeverStops (turns ++ t ∷ [])
never_stops_last [] t on not = (not, tt)
never_stops_last (x ∷ turns) t on not = (on.0, never_stops_last turns t on.1 not)

pub made_more : (start : WorldState) (ticks : TicksState) (count : ℕ) (w next : WorldState) (t u : TicksState) (f g : ℕ)
    (stopped : Bool) (d e : Tally) (x y z : OutsideView) → HasMade start ticks count w t f d x y → f < MAX_FAULTS
    → MakesTurn t u f g stopped w next y z d e → stopped ≡ false → HasMade start ticks (count + 1) next u g e x z
made_more start ticks count w next t u f g stopped d e x y z made few one not =
    let at : MakesTurn (ticks_over ticks made.turns) u f g stopped w next y z d e =
    subst (λ (s : TicksState). MakesTurn s u f g stopped w next y z d e) made.noted one in
    record {
      turns = made.turns ++ at.turn ∷ [];
      whole = record {
        size = length-append made.turns (at.turn ∷ []) ∙ ap (λ (n : ℕ). n + 1) made.whole.size;
        on = never_stops_last made.turns at.turn made.whole.on (sym at.stops ∙ not);
      };
      goes_on = goes_on_last 0 made.turns at.turn made.goes_on (omega (arith, few, made.faults));
      made = makes_last ticks u made.turns f g stopped start w next x y z d e made.made at;
      noted = at.noted ∙ sym (ticks_last ticks made.turns at.turn);
      faults = at.failing ∙ ap (λ (n : ℕ). faults_with n at.turn.arrival) made.faults ∙ sym (faults_last 0 made.turns at.turn);
    }

-- ---- how turns end

pub ends_whole : (start : WorldState) (ticks : TicksState) (count : ℕ) (w : WorldState) (t : TicksState) (f : ℕ) (d : Tally)
    (x y : OutsideView) → HasMade start ticks count w t f d x y → HasEnded start ticks count w f d x y
ends_whole start ticks count w t f d x y made = record {
  turns = made.turns;
  in_time = inl made.whole;
  goes_on = made.goes_on;
  made = made.made;
  faults = made.faults;
}

pub ends_stopped : (start : WorldState) (ticks : TicksState) (count done : ℕ) (w next : WorldState) (t u : TicksState) (f g : ℕ)
    (stopped : Bool) (d e : Tally) (x y z : OutsideView) → HasMade start ticks done w t f d x y → f < MAX_FAULTS
    → MakesTurn t u f g stopped w next y z d e → stopped ≡ true → done < count → HasEnded start ticks count next g e x z
ends_stopped start ticks count done w next t u f g stopped d e x y z made few one is within =
    let at : MakesTurn (ticks_over ticks made.turns) u f g stopped w next y z d e =
    subst (λ (s : TicksState). MakesTurn s u f g stopped w next y z d e) made.noted one in
    record {
      turns = made.turns ++ at.turn ∷ [];
      in_time = inr (record {
        before = made.turns;
        last = at.turn;
        all = refl;
        on = made.whole.on;
        stops = sym at.stops ∙ is;
        size = omega (arith, within, made.whole.size, length-append made.turns (at.turn ∷ []));
      });
      goes_on = goes_on_last 0 made.turns at.turn made.goes_on (omega (arith, few, made.faults));
      made = makes_last ticks u made.turns f g stopped start w next x y z d e made.made at;
      faults = at.failing ∙ ap (λ (n : ℕ). faults_with n at.turn.arrival) made.faults ∙ sym (faults_last 0 made.turns at.turn);
    }

-- the next of a list is handed over
pub given_more : (outs : List Out) (i : ℕ) (o : Out) (a b c : SinkView) (d e f : Tally) → i < length outs → SendsCounted (take i outs) a b d e
    → o ≡ get_or outs i o → SendsCounted (o ∷ []) b c e f → SendsCounted (take (i + 1) outs) a c d f
given_more outs i o a b c d e f within before is one =
    let all : take (i + 1) outs ≡ take i outs ++ o ∷ [] =
    take_more outs i o within ∙ ap (λ (q : Out). take i outs ++ q ∷ []) (sym is) in
    subst (λ (l : List Out). SendsCounted l a c d f) (sym all) (counted_more (take i outs) (o ∷ []) a b c d e f before one)

-- ---- a turn

pub turn_made : (ticks next : TicksState) (faults next_faults : ℕ) (stopped : Bool) (old new : WorldState) (g h : Option (List Arrival))
    (t u : Option (List ℕ)) (s v : SinkView) (former mid tally : Tally) (arrival : Arrival) (moment : ℕ) (before outs : List Out)
    → before ≡ [] → Grows g (arrival ∷ []) h → Grows t (moment ∷ []) u
    → Drives (brought_at moment arrival ++ tick_at ticks moment) old before new outs → next ≡ ticks_after ticks moment
    → next_faults ≡ faults_with faults arrival → stopped ≡ is_stop arrival → Raises former.heard (heard_count arrival) mid.heard → mid.sent ≡ former.sent
    → mid.failed ≡ former.failed → SendsCounted outs s v mid tally
    → MakesTurn ticks next faults next_faults stopped old new (view_of g t s) (view_of h u v) former tally
turn_made ticks next faults next_faults stopped old new g h t u s v former mid tally arrival moment before outs none given told drives noted failing stops heard sent failed sends =
    record {
      turn = record { arrival = arrival; moment = moment };
      outs = outs;
      drives = subst (λ (l : List Out). Drives (brought_at moment arrival ++ tick_at ticks moment) old l new outs) none drives;
      given = given;
      told = told;
      sent = sends.sent;
      failed = sends.failed;
      sends = sends.sends;
      counts_heard = λ n is. sends.heard ∙ heard n is;
      counts_sent = λ n is. sends.counts_sent n (sent ∙ is);
      counts_failed = λ n is. sends.counts_failed n (failed ∙ is);
      noted = noted;
      failing = failing;
      stops = stops;
    }

pub turn_broken : (ticks : TicksState) (old new : WorldState) (g h : Option (List Arrival)) (t u : Option (List ℕ)) (s : SinkView)
    (arrival : Arrival) (moment : ℕ) (before unsent : List Out) → before ≡ [] → Grows g (arrival ∷ []) h → Grows t (moment ∷ []) u
    → DrivesSome (brought_at moment arrival ++ tick_at ticks moment) old before new unsent
    → BreaksOff ticks old (view_of g t s) (view_of h u s)
turn_broken ticks old new g h t u s arrival moment before unsent none given told some = record {
  turn = record { arrival = arrival; moment = moment };
  new = new;
  unsent = unsent;
  drives = subst (λ (l : List Out). DrivesSome (brought_at moment arrival ++ tick_at ticks moment) old l new unsent) none some;
  given = given;
  told = told;
  sink = refl;
}

-- something came, and there was no memory to read it
pub turn_in_vain : (ticks : TicksState) (w : WorldState) (g h : Option (List Arrival)) (t u : Option (List ℕ)) (s : SinkView) → ComesInVain g t h u
    → BreaksOff ticks w (view_of g t s) (view_of h u s)
turn_in_vain ticks w g h t u s v = record {
  turn = record { arrival = v.arrival; moment = v.moment };
  new = w;
  unsent = [];
  drives = some_none (brought_at v.moment v.arrival ++ tick_at ticks v.moment) w w [] [] (refl, refl);
  given = v.gives;
  told = v.tells;
  sink = refl;
}

-- what the entrance shows is what the datagram says
pub says_taken : (w : WorldState) (table : LinkTable) (admitted : Result Admitted ReceiveFault) (t current : Admission) (datagram : List ℕ)
    → table ≡ w.setup.table → t ≡ current → IfTaken admitted (IsTakenFrom table current datagram) → IfTaken admitted (SaysTaken w t datagram)
says_taken w table (Ok Nothing) t current datagram et ec h = tt
says_taken w table (Ok Taking) t current datagram et ec h =
    subst (λ (x : LinkTable). IsSaidBy (source_of x t.endpoint).0 t datagram) et
    (subst (λ (x : Admission). IsSaidBy (source_of table x.endpoint).0 x datagram) (sym ec) h.0)
says_taken w table (Ok (Select leg on)) t current datagram et ec h = tt
says_taken w table (Ok Stop) t current datagram et ec h = tt
says_taken w table (Err fault) t current datagram et ec h = tt

faults_rise : (faults : ℕ) (a : Arrival) → faults_with faults a ≤ faults + 1
faults_rise faults (came endpoint bytes) = omega arith
faults_rise faults (chosen leg on) = omega arith
faults_rise faults stop = omega arith
faults_rise faults silence = omega arith
faults_rise faults failure = omega arith

-- ---- a run that stops

pub stops_in : (start : WorldState) (ticks : TicksState) (count : ℕ) (w : WorldState) (t : TicksState) (f : ℕ) (d : Tally)
    (x y z : OutsideView) → HasMade start ticks count w t f d x y → f < MAX_FAULTS → BreaksOff t w y z → StopsIn start ticks x z
stops_in start ticks count w t f d x y z made few breaks = record {
  turns = made.turns;
  at = w;
  between = y;
  tally = d;
  on = made.whole.on;
  goes_on = made.goes_on;
  few = omega (arith, few, made.faults);
  made = made.made;
  breaks = subst (λ (s : TicksState). BreaksOff s w y z) made.noted breaks;
}

-- a receive that fails is no stop
no_stop : (faults : ℕ) (a : Arrival) → MAX_FAULTS ≤ faults_with faults a → is_stop a ≡ false
no_stop faults (came endpoint bytes) many = refl
no_stop faults (chosen leg on) many = refl
no_stop faults stop many = absurd (omega (arith, many))
no_stop faults silence many = refl
no_stop faults failure many = refl

pub fails_in : (start : WorldState) (ticks : TicksState) (count : ℕ) (w next : WorldState) (t u : TicksState) (f g : ℕ)
    (stopped : Bool) (d e : Tally) (x y z : OutsideView) → HasMade start ticks count w t f d x y → f < MAX_FAULTS
    → MakesTurn t u f g stopped w next y z d e → MAX_FAULTS ≤ g → FailsToReceive start ticks x z
fails_in start ticks count w next t u f g stopped d e x y z made few one many =
    let enough : MAX_FAULTS ≤ faults_with f one.turn.arrival = omega (arith, many, one.failing) in
    let all = made_more start ticks count w next t u f g stopped d e x y z made few one (one.stops ∙ no_stop f one.turn.arrival enough) in
    record {
      turns = all.turns;
      final = next;
      tally = e;
      on = all.whole.on;
      goes_on = all.goes_on;
      many = omega (arith, few, many, all.faults, one.failing, faults_rise f one.turn.arrival);
      made = all.made;
    }

pub on_err_of : {A E : Type 0} (r : Result A E) (P : Type 0) → P → OnErr r P
on_err_of {A} {E} (Ok x) P p = tt
on_err_of {A} {E} (Err e) P p = p
