-- The quiet law: what every world of a run keeps, and what that says once nothing waits.
use Rattle.std.proofs.Common.{◌≡◌, ◌≢◌, ℕ, zero, suc, ◌+◌, ◌^◌, ◌-◌, List, [], ◌∷◌, ◌++◌, length, map, refl, sym, ap, subst, ◌∙◌, arith, Option, Some, None, Bool, true, false, inl, inr, append_assoc, append-nil}
use Rattle.std.specs.Prelude.{slice_get, flat_map, sum_by, min, MatchBool}
use Rattle.std.specs.List.{last_or, AllByRecursion}
use Rattle.std.specs.Option.{option_map_or}
use Rattle.std.proofs.lemmas.Bool.{cases_eq}
use Rattle.std.proofs.lemmas.List.Sums.{sum_by-cons, fold-append}
use Rattle.std.proofs.lemmas.Option.{none-some, same_Some, slice_get_within, get_or_from_slice_get}
use Rattle.tmmbr_tuple.specs.declared.tuple.Tuple.{Tuple}
use Rattle.tmmbr_tuple.specs.Tuple.{word_of}
use Rattle.bounding_set.specs.Rows.{tuple_of}
use Rattle.settings.specs.declared.settings.LegSettings.{LegSettings}
use Rattle.members.specs.Room.{RoomState, leg_at, idle_leg, new_room}
use Rattle.settings.specs.Settings.{Configuration, IsInRange}
use Rattle.members.proofs.EndedLemmas.{once_new}
use Rattle.members.proofs.StandLemmas.{stands_new}
use Rattle.rate_cert.specs.declared.request.Request.{Request}
use Rattle.desk.specs.declared.call.Entry.{Entry}
use Rattle.desk.specs.declared.presence.Asked.{Asked}
use Rattle.desk.specs.declared.presence.Present.{Present}
use Rattle.desk.specs.declared.base.Base.{Base}
use Rattle.desk.specs.Presence.{presence_of, asked_in, stay_in}
use Rattle.desk.specs.State.{DeskState, now_of}
use Rattle.desk.specs.Trace.{IsBase, base_after, empty_base}
use Rattle.desk.proofs.LiveLemmas.{asked_by, tuple_in, tuple_of-live}
use Rattle.desk.proofs.PresenceLemmas.{absent_without_stay}
use Rattle.events.specs.declared.event.Event.{Event}
use Rattle.events.specs.declared.event.Event.TheVariants.{Hear, Tick, Select, Ingress, Work}
use Rattle.events.specs.declared.job.Job.{Job}
use Rattle.events.specs.declared.output.Out.{Out}
use Rattle.events.specs.declared.output.Out.TheVariants.{Busy}
use Rattle.core_steps.specs.Happening.{Happening, GivenUp, RecordedCall, giving, world_after}
use Rattle.core_steps.specs.Hearing.{IsHearing}
use Rattle.settings.specs.Links.{table_of, worker_of}
use Rattle.core_steps.specs.Opening.{setup_by, IsNewDesk, IsNewWorker, IsNewWorld}
use Rattle.core_steps.specs.Quiet.{HeardRate, HeardIn, HearsRates, IsHeardOf, rates_said, IsQuiet, LastHeardIsLive, ObeysQuietLaw, IsLastHeard, IsLiveOrTaken, ExpireTook, last_heard_word}
use Rattle.core_steps.specs.Rule.{Does, is_busy}
use Rattle.core_steps.specs.Run.{Runs, worlds_after, HasRun}
use Rattle.core_steps.specs.Waits.{waiting_in, hand_count, pending_count, as_counted}
use Rattle.core_steps.specs.declared.world.Waiting.{Waiting}
use Rattle.core_steps.specs.World.{WorldState, WorkerState, Task, Hand, free, doing, telling}
use Rattle.core_steps.proofs.HistoryLemmas.{runs_join}
use Rattle.core_steps.specs.Traces.{entries_at, calls_of}
use Rattle.core_steps.proofs.QuietDeskLemmas.{Holding, silent, asking, taken}
use Rattle.core_steps.proofs.QuietLegLemmas.{asker, IsKeptDesk, IsAsking}
use Rattle.core_steps.proofs.QuietQueueLemmas.{hand_asks, jobs_asks, rates_asks, words_of, words_heard-asks, IsWaiting}
use Rattle.core_steps.proofs.QuietKeptLemmas.{IsPlaced, IsPlacedHand, IsPlacedWorker, stay_at, IsKeptLeg, IsKept, worker_there}
use Rattle.core_steps.proofs.QuietStepLemmas.{KeptIn, keeps}

-- ---- the new world

unstarted_stay : (ls : List LegSettings) (n : ℕ) → (leg_at (map idle_leg ls) n).stay ≡ 0
unstarted_stay [] n = refl
unstarted_stay (l ∷ ls) zero = refl
unstarted_stay (l ∷ ls) (suc n) = unstarted_stay ls n

module _ (c : Configuration) (range : IsInRange c) (w : WorldState) (new : IsNewWorld c w) where
  is_new : (p : ℕ) (d : DeskState) → slice_get w.desks p ≡ Some d → IsNewDesk c d
  is_new p d at =
      subst (λ (x : DeskState). IsNewDesk c x) (get_or_from_slice_get w.desks p d d at) (new.desks p d (slice_get_within w.desks p d at))

  nothing_recorded : (p : ℕ) (d : DeskState) → slice_get w.desks p ≡ Some d → now_of d ≡ empty_base
  nothing_recorded p d at =
      let h = is_new p d at in
      ap (λ (es : List Entry). base_after d.request_ms d.base es) h.history ∙ h.base

  new_desk : (p : ℕ) (d : DeskState) → slice_get w.desks p ≡ Some d → IsKeptDesk c p d []
  new_desk p d at =
      let h = is_new p d at in
      let none = nothing_recorded p d at in
      record {
        legal = h.legal;
        ms = h.request_ms;
        by = none;
        base = subst (λ (b : Base). IsBase b) (h.base ∙ sym none) h.legal.base;
        owners = λ owner some. absurd (omega (arith, some, ap (λ (b : Base). stay_in b.present.items owner) none));
      }

  new_worker : (k : ℕ) (s : WorkerState) → slice_get w.workers k ≡ Some s → IsPlacedWorker c k s
  new_worker k s at =
      let h = new.workers k s at in
      record {
        jobs = subst (λ (js : List Job). AllByRecursion (IsPlaced c k) js) (sym h.jobs) tt;
        hand = subst (λ (x : Hand). IsPlacedHand c k x) (sym h.hand) tt;
      }

  new_leg : (n : ℕ) (l : LegSettings) → IsKeptLeg c n l 1 (leg_at (map idle_leg c.legs) n).stay [] w.desks w.workers [] []
  new_leg n l = record {
    stay = 0;
    done = [];
    asking = λ d at. record {
      stays = ap (λ (b : Base). stay_in b.present.items (asker c l)) (nothing_recorded l.publisher d at);
      holds = λ some. absurd (omega (arith, some));
    };
    waiting = λ s at. waiting s (new.workers (worker_of (table_of c) l) s at);
  }
    where
      waiting : (s : WorkerState) → IsNewWorker c (worker_of (table_of c) l) s
          → IsWaiting n 1 (leg_at (map idle_leg c.legs) n).stay [] (hand_asks n s.hand) (jobs_asks n s.jobs) [] 0 []
      waiting s h =
          subst (λ (x : Hand). IsWaiting n 1 (leg_at (map idle_leg c.legs) n).stay [] (hand_asks n x) (jobs_asks n s.jobs) [] 0 []) (sym h.hand)
          (subst (λ (js : List Job). IsWaiting n 1 (leg_at (map idle_leg c.legs) n).stay [] [] (jobs_asks n js) [] 0 []) (sym h.jobs)
          (record { bound = 0; flows = refl; below = tt; early = tt; tracks = sym (unstarted_stay c.legs n) }))

  pub kept_new : KeptIn c w [] []
  kept_new =
      let start = stands_new c (λ k d below. (range.legs k d below).different) in
      subst (λ (r : RoomState). IsKept c r.endpoints r.legs r.next w.tasks w.desks w.workers [] []) (sym new.room)
      (subst (λ (ts : List Task). IsKept c (new_room c).endpoints (new_room c).legs (new_room c).next ts w.desks w.workers [] []) (sym new.tasks)
      (record {
        stand = start.stand;
        past = [];
        once = once_new c;
        first = tt;
        placed = tt;
        worker_count = new.worker_count;
        workers_placed = new_worker;
        desk_count = new.desk_count;
        desks_kept = new_desk;
        legs_kept = λ n l _. new_leg n l;
      }))

-- ---- a run

append_none : {X : Type 0} (xs ys : List X) → xs ++ ys ≡ [] → (xs ≡ []) × (ys ≡ [])
append_none [] ys e = (refl, e)
append_none (x ∷ xs) ys e = let sizes = ap length e in absurd (omega (arith, sizes))

pub kept_run : (c : Configuration) → IsInRange c → (w : WorldState) → w.setup ≡ setup_by c → (events : List Event) (history : List Happening)
    (rates more : List HeardRate) (asked : List RecordedCall) → Runs w events history → HeardIn w events history more
    → flat_map (λ (h : Happening). h.unrecorded) history ≡ [] → flat_map (λ (h : Happening). h.given_up) history ≡ []
    → KeptIn c w rates asked → KeptIn c (worlds_after w history) (rates ++ more) (asked ++ calls_of history)
kept_run c range w setup [] [] rates more asked runs heard u g h =
    subst (λ (rs : List HeardRate). KeptIn c w rs (asked ++ [])) (sym (ap (λ (xs : List HeardRate). rates ++ xs) heard ∙ append-nil rates))
    (subst (λ (cs : List RecordedCall). KeptIn c w rates cs) (sym (append-nil asked)) h)
kept_run c range w setup [] (x ∷ history) rates more asked runs heard u g h = absurd runs
kept_run c range w setup (e ∷ events) [] rates more asked runs heard u g h = absurd runs
kept_run c range w setup (e ∷ events) (x ∷ history) rates more asked runs heard u g h =
    let us = append_none x.unrecorded (flat_map (λ (h : Happening). h.unrecorded) history) u in
    let gs = append_none x.given_up (flat_map (λ (h : Happening). h.given_up) history) g in
    let next = keeps c range w setup rates asked h e x heard.0 runs.0 heard.2 us.0 gs.0 in
    let rest = kept_run c range (world_after w x) setup events history (rates ++ heard.0) heard.1 (asked ++ x.asked) runs.1 heard.3 us.1 gs.1 next in
    subst (λ (rs : List HeardRate). KeptIn c (worlds_after (world_after w x) history) rs (asked ++ calls_of (x ∷ history)))
    (append_assoc rates heard.0 heard.1 ∙ ap (λ (xs : List HeardRate). rates ++ xs) (sym heard.4))
    (subst (λ (cs : List RecordedCall). KeptIn c (worlds_after (world_after w x) history) ((rates ++ heard.0) ++ heard.1) cs)
    (append_assoc asked x.asked (calls_of history)) rest)

-- if none was lost in the end, none was given up
pub none_lost : (w : WorldState) (history : List Happening) → (worlds_after w history).lost ≡ 0
    → (w.lost ≡ 0) × (flat_map (λ (h : Happening). h.given_up) history ≡ [])
none_lost w [] e = (e, refl)
none_lost w (h ∷ history) e =
    let rest = none_lost (world_after w h) history e in
    let zero_count : min (w.lost + length h.given_up) (2 ^ 64 - 1) ≡ 0 = rest.0 in
    let first : (w.lost ≡ 0) × (length h.given_up ≡ 0) = (omega (arith, zero_count), omega (arith, zero_count)) in
    (first.0, ap (λ (gs : List GivenUp). gs ++ flat_map (λ (h : Happening). h.given_up) history) (empty h.given_up first.1) ∙ rest.1)
  where
    empty : (gs : List GivenUp) → length gs ≡ 0 → gs ≡ []
    empty [] same = refl
    empty (x ∷ gs) same = absurd (omega (arith, same))

-- ---- when nothing waits

empty_list : {X : Type 0} (xs : List X) → length xs ≡ 0 → xs ≡ []
empty_list [] same = refl
empty_list (x ∷ xs) same = absurd (omega (arith, same))

none_of : {X : Type 0} (f : X → ℕ) (xs : List X) (k : ℕ) (x : X) → sum_by f xs ≡ 0 → slice_get xs k ≡ Some x → f x ≡ 0
none_of f [] k x none at = absurd (none-some x at)
none_of f (y ∷ xs) zero x none at =
    let same = same_Some y x at in
    ap f (sym same) ∙ omega (arith, none, sum_by-cons f y xs)
none_of f (y ∷ xs) (suc k) x none at = none_of f xs k x (omega (arith, none, sum_by-cons f y xs)) at

hand_empty : (n : ℕ) (h : Hand) → hand_count h ≡ 0 → hand_asks n h ≡ []
hand_empty n free e = refl
hand_empty n (doing job) e = absurd (omega (arith, e))
hand_empty n (telling p) e = refl

asked_by-in : (o : Option Present) → asked_by o ≡ tuple_in (option_map_or (λ (p : Present). p.asked) o None)
asked_by-in None = refl
asked_by-in (Some p) = refl

module _ (c : Configuration) (range : IsInRange c) (w : WorldState) (rates : List HeardRate) (asked : List RecordedCall) (kept : KeptIn c w rates asked)
    (waits : waiting_in w ≡ record { tasks = 0; jobs = 0; hands = 0 }) where
  no_tasks : w.tasks ≡ []
  no_tasks =
      let count : length w.tasks + pending_count w.pending ≡ 0 = ap (λ (x : Waiting). x.tasks) waits in
      empty_list w.tasks (omega (arith, count))

  no_jobs : (k : ℕ) (s : WorkerState) → slice_get w.workers k ≡ Some s → s.jobs ≡ []
  no_jobs k s at =
      let count : as_counted (sum_by (λ (x : WorkerState). length x.jobs) w.workers) ≡ 0 = ap (λ (x : Waiting). x.jobs) waits in
      empty_list s.jobs (none_of (λ (x : WorkerState). length x.jobs) w.workers k s (omega (arith, count)) at)

  no_hands : (k : ℕ) (s : WorkerState) → slice_get w.workers k ≡ Some s → hand_count s.hand ≡ 0
  no_hands k s at =
      let count : as_counted (sum_by (λ (x : WorkerState). hand_count x.hand) w.workers) ≡ 0 = ap (λ (x : Waiting). x.hands) waits in
      none_of (λ (x : WorkerState). hand_count x.hand) w.workers k s (omega (arith, count)) at

  -- of a leg all that was heard was asked, and its subscriber is present with the stay that stands
  module _ (n : ℕ) (l : LegSettings) (there : slice_get c.legs n ≡ Some l) where
    leg : IsKeptLeg c n l w.room.next (stay_at w.room.legs n) w.tasks w.desks w.workers rates asked
    leg = kept.legs_kept n l there

    settled : IsWaiting n w.room.next (stay_at w.room.legs n) [] [] [] rates leg.stay leg.done
    unfolding leg
    settled =
        let found = worker_there c l w.workers range kept.worker_count in
        let k = worker_of (table_of c) l in
        subst (λ (ts : List Task). IsWaiting n w.room.next (stay_at w.room.legs n) ts [] [] rates leg.stay leg.done) no_tasks
        (subst (λ (js : List Job). IsWaiting n w.room.next (stay_at w.room.legs n) w.tasks [] (jobs_asks n js) rates leg.stay leg.done) (no_jobs k found.0 found.1)
        (subst (λ (xs : List (ℕ × ℕ)). IsWaiting n w.room.next (stay_at w.room.legs n) w.tasks xs (jobs_asks n found.0.jobs) rates leg.stay leg.done)
        (hand_empty n found.0.hand (no_hands k found.0 found.1)) (leg.waiting found.0 found.1)))

    stands_now : leg.stay ≡ stay_at w.room.legs n
    stands_now = settled.tracks

    all_asked : rates_asks n rates ≡ leg.done
    all_asked = settled.flows ∙ append-nil leg.done

    last_word : last_heard_word n (stay_at w.room.legs n) rates ≡ last_or None (words_of leg.stay leg.done)
    last_word =
        ap (λ (ws : List ℕ). last_or None ws) (words_heard-asks n (stay_at w.room.legs n) rates)
        ∙ (ap (λ (s : ℕ). last_or None (words_of s (rates_asks n rates))) (sym stands_now)
        ∙ ap (λ (xs : List (ℕ × ℕ)). last_or None (words_of leg.stay xs)) all_asked)

    asks_now : (d : DeskState) → slice_get w.desks l.publisher ≡ Some d → IsAsking c l d asked leg.stay (last_or None (words_of leg.stay leg.done))
    asks_now d at = leg.asking d at

  asks_for : (p owner : ℕ) (d : DeskState) → slice_get w.desks p ≡ Some d
      → tuple_of d.bounds.rows owner ≡ tuple_in (asked_in (now_of d).present.items owner)
  asks_for p owner d at =
      let h = kept.desks_kept p d at in
      ap (λ (rows : List Request). tuple_of rows owner) h.legal.live
      ∙ (tuple_of-live (now_of d).present.items owner h.base.rising ∙ asked_by-in (presence_of (now_of d).present.items owner))

  absent_asks : (p owner : ℕ) (d : DeskState) → slice_get w.desks p ≡ Some d → stay_in (now_of d).present.items owner ≡ 0
      → tuple_of d.bounds.rows owner ≡ None
  absent_asks p owner d at absent =
      let h = kept.desks_kept p d at in
      asks_for p owner d at
      ∙ ap (λ (o : Option Present). tuple_in (option_map_or (λ (x : Present). x.asked) o None))
      (absent_without_stay (now_of d).present.items owner h.base.stays absent)

  holding_live : (ms : ℕ) (entries : List Entry) (owner stay : ℕ) (held : Option Asked) (word : Option ℕ) (tuple : Tuple)
      → tuple_in held ≡ Some tuple → Holding ms entries owner stay held word → word ≡ Some (word_of tuple)
  holding_live ms entries owner stay held word tuple live (silent none is) =
      absurd (none-some tuple (sym (ap (λ (o : Option Asked). tuple_in o) none) ∙ live))
  holding_live ms entries owner stay held word tuple live (asking a place has is h) =
      is ∙ ap (λ (t : Tuple). Some (word_of t)) (same_Some a.tuple tuple (sym (ap (λ (o : Option Asked). tuple_in o) has) ∙ live))
  holding_live ms entries owner stay held word tuple live (taken x none is h) =
      absurd (none-some tuple (sym (ap (λ (o : Option Asked). tuple_in o) none) ∙ live))

  holding_heard : (ms : ℕ) (entries : List Entry) (owner stay : ℕ) (held : Option Asked) (last : Option ℕ) (d : DeskState) (word : ℕ)
      → tuple_of d.bounds.rows owner ≡ tuple_in held → last ≡ Some word → Holding ms entries owner stay held last → IsLiveOrTaken ms entries d owner stay word
  holding_heard ms entries owner stay held last d word rows same (silent none is) = absurd (none-some word (sym is ∙ same))
  holding_heard ms entries owner stay held last d word rows same (asking a place has is h) =
      inl (a.tuple, same_Some (word_of a.tuple) word (sym is ∙ same), rows ∙ ap (λ (o : Option Asked). tuple_in o) has)
  holding_heard ms entries owner stay held last d word rows same (taken x none is h) =
      inr (subst (λ (y : ℕ). ExpireTook ms entries owner stay y) (same_Some x word (sym is ∙ same)) h)

  live_is_heard : (p owner : ℕ) (d : DeskState) (tuple : Tuple) → slice_get w.desks p ≡ Some d → tuple_of d.bounds.rows owner ≡ Some tuple
      → IsLastHeard c rates w p owner tuple
  live_is_heard p owner d tuple at live =
      elim (cases_eq (stay_in (now_of d).present.items owner) 0) [
        | inl absent ↦ absurd (none-some tuple (sym (absent_asks p owner d at absent) ∙ live))
        | inr here ↦ present here
      ]
    where
      present : stay_in (now_of d).present.items owner ≢ 0 → IsLastHeard c rates w p owner tuple
      present here =
          let of = (kept.desks_kept p d at).owners owner (omega (arith, here)) in
          let found : slice_get w.desks of.leg.publisher ≡ Some d = ap (slice_get w.desks) of.from ∙ at in
          let k = leg of.number of.leg of.there in
          let asks = asks_now of.number of.leg of.there d found in
          let stands : k.stay ≡ stay_at w.room.legs of.number = stands_now of.number of.leg of.there in
          let its : stay_in (now_of d).present.items owner ≡ k.stay
          = ap (λ (o : ℕ). stay_in (now_of d).present.items o) (sym of.to) ∙ asks.stays in
          let held : tuple_in (asked_in (now_of d).present.items (asker c of.leg)) ≡ Some tuple
          = ap (λ (o : ℕ). tuple_in (asked_in (now_of d).present.items o)) of.to ∙ (sym (asks_for p owner d at) ∙ live) in
          record {
            number = of.number;
            leg = of.leg;
            there = of.there;
            from = of.from;
            to = of.to;
            stands = λ none. here (its ∙ (stands ∙ none));
            heard = last_word of.number of.leg of.there
                ∙ holding_live c.request_ms _ (asker c of.leg) k.stay (asked_in (now_of d).present.items (asker c of.leg)) _ tuple held
                (asks.holds (omega (arith, here, its)));
          }

  heard_is_live : (n word : ℕ) (l : LegSettings) (d : DeskState) → slice_get c.legs n ≡ Some l → slice_get w.desks l.publisher ≡ Some d
      → stay_at w.room.legs n ≢ 0 → last_heard_word n (stay_at w.room.legs n) rates ≡ Some word
      → IsLiveOrTaken c.request_ms (entries_at l.publisher asked) d (asker c l) (stay_at w.room.legs n) word
  heard_is_live n word l d there at stands heard =
      let asks = asks_now n l there d at in
      let now = stands_now n l there in
      subst (λ (s : ℕ). IsLiveOrTaken c.request_ms (entries_at l.publisher asked) d (asker c l) s word) now
      (holding_heard c.request_ms (entries_at l.publisher asked) (asker c l) (leg n l there).stay (asked_in (now_of d).present.items (asker c l)) _ d word
      (asks_for l.publisher (asker c l) d at) (sym (last_word n l there) ∙ heard) (asks.holds (omega (arith, stands, now))))

  none_is_live : (n : ℕ) (l : LegSettings) (d : DeskState) → slice_get c.legs n ≡ Some l → slice_get w.desks l.publisher ≡ Some d
      → stay_at w.room.legs n ≡ 0 → tuple_of d.bounds.rows (asker c l) ≡ None
  none_is_live n l d there at none =
      absent_asks l.publisher (asker c l) d at ((asks_now n l there d at).stays ∙ (stands_now n l there ∙ none))

pub last_heard_is_live : (c : Configuration) (w : WorldState) (events : List Event) (history : List Happening) (rates : List HeardRate)
    → IsInRange c → IsNewWorld c w → Runs w events history → HeardIn w events history rates
    → IsQuiet history (worlds_after w history) → LastHeardIsLive c history rates (worlds_after w history)
last_heard_is_live c w events history rates range new runs heard quiet =
    let lost = none_lost w history quiet.lost in
    let kept = kept_run c range w new.setup events history [] rates [] runs heard quiet.recorded lost.1 (kept_new c range w new) in
    record {
      live = λ p owner d tuple at live. live_is_heard c range (worlds_after w history) rates (calls_of history) kept quiet.waits p owner d tuple at live;
      heard = λ n word l d there at stands last.
          heard_is_live c range (worlds_after w history) rates (calls_of history) kept quiet.waits n word l d there at stands last;
      none = λ n l d there at none. none_is_live c range (worlds_after w history) rates (calls_of history) kept quiet.waits n l d there at none;
    }

-- ---- what was heard in a run

heard_once : (w : WorldState) (moment endpoint : ℕ) (bytes : List ℕ) (h : Happening) (b : Bool)
    → MatchBool b (h ≡ giving w (Busy ∷ [])) (IsHearing w moment endpoint bytes h)
    → (rates : List HeardRate) × MatchBool b (rates ≡ []) (IsHeardOf w moment endpoint bytes rates)
heard_once w moment endpoint bytes h true r = ([], refl)
heard_once w moment endpoint bytes h false r =
    (rates_said w moment endpoint r.said, record { said = r.said; says = r.says; is = refl })

heard_at : (w : WorldState) (e : Event) (h : Happening) → Does w e h → (rates : List HeardRate) × HearsRates w e rates
heard_at w (Hear moment endpoint bytes) h r = heard_once w moment endpoint bytes h (is_busy w) r
heard_at w (Tick moment) h r = ([], refl)
heard_at w (Select moment number on) h r = ([], refl)
heard_at w Ingress h r = ([], refl)
heard_at w (Work k) h r = ([], refl)

pub heard_in : (w : WorldState) (events : List Event) (history : List Happening) → Runs w events history
    → (rates : List HeardRate) × HeardIn w events history rates
heard_in w [] history r = ([], refl)
heard_in w (e ∷ events) [] r = absurd r
heard_in w (e ∷ events) (h ∷ history) r =
    let first = heard_at w e h r.0 in
    let others = heard_in (world_after w h) events history r.1 in
    (first.0 ++ others.0, (first.0, others.0, first.1, others.1, refl))

-- ---- a run after a run

pub obeys : (events : List Event) (old : WorldState) (outs : List Out) (new : WorldState) (all : List Out) → HasRun events old outs new all
    → ObeysQuietLaw events old new
obeys events old outs new all run c start before past range is_new runs same =
    let whole : Runs start (before ++ events) (past ++ run.history) =
    runs_join start before events past run.history runs (subst (λ (x : WorldState). Runs x events run.history) same run.runs) in
    let heard = heard_in start (before ++ events) (past ++ run.history) whole in
    let leads : new ≡ worlds_after start (past ++ run.history) =
    run.leads ∙ (ap (λ (x : WorldState). worlds_after x run.history) same ∙ sym (fold-append world_after start past run.history)) in
    record {
      next = run.history;
      runs = run.runs;
      leads = run.leads;
      rates = heard.0;
      heard = heard.1;
      live = λ quiet. subst (λ (x : WorldState). LastHeardIsLive c (past ++ run.history) heard.0 x) (sym leads)
          (last_heard_is_live c start (before ++ events) (past ++ run.history) heard.0 range is_new whole heard.1
          (subst (λ (x : WorldState). IsQuiet (past ++ run.history) x) leads quiet));
    }
