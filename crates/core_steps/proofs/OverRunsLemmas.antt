-- What holds over every run from a new world, in one call or several.
use Rattle.std.proofs.Common.{◌≡◌, ◌≢◌, ◌<◌, ◌≤◌, ℕ, zero, suc, get_or, List, [], ◌∷◌, ◌++◌, length, take, drop, Option, None, Some, Result, Ok, Err, refl, ap, sym, ◌∙◌, subst, append_assoc, inl, inr, arith}
use Rattle.std.specs.Prelude.{◌⊎◌, OnOk, IfErr, fold, slice_get, slice_set}
use Rattle.std.proofs.lemmas.Bool.{cases_lt, cases_eq}
use Rattle.std.proofs.lemmas.List.Sums.{fold-append}
use Rattle.std.proofs.lemmas.Option.{none-some, same_Some, slice_get_within}
use Rattle.tmmbr_tuple.specs.declared.tuple.Tuple.{Tuple}
use Rattle.bounding_set.specs.Rows.{tuple_of}
use Rattle.rate_cert.specs.declared.request.Request.{Request}
use Rattle.settings.specs.Settings.{Configuration}
use Rattle.settings.specs.Links.{table_of}
use Rattle.members.specs.declared.order.Order.TheVariants.{Depart}
use Rattle.desk.specs.declared.base.Base.{Base}
use Rattle.desk.specs.declared.call.Call.{Call as DeskCall}
use Rattle.desk.specs.declared.call.Call.TheVariants.{Stay, Time}
use Rattle.desk.specs.declared.call.Change.{Change}
use Rattle.desk.specs.declared.call.Entry.{Entry}
use Rattle.desk.specs.declared.presence.Asked.{Asked}
use Rattle.desk.specs.History.{IsLegalHistory}
use Rattle.desk.specs.Places.{HasEntryAt, WasDone, IsRequestOf, IsPresentFrom, IsLastRequestFrom}
use Rattle.desk.specs.Presence.{stay_in, refusal_of, refusal_in}
use Rattle.desk.specs.State.{DeskState}
use Rattle.desk.specs.Trace.{IsBase, empty_base, base_with, base_after, live_after}
use Rattle.desk.proofs.PlaceLemmas.{not_in_nil, head_is, from_tail}
use Rattle.desk.proofs.PresenceLemmas.{stay_in-named}
use Rattle.desk.proofs.RequestLemmas.{request_law, absent_law}
use Rattle.desk.proofs.SinceLemmas.{less_one, first_step, present_on, present_law}
use Rattle.desk.proofs.TraceLemmas.{done_accepted, legal-first, legal-rest}
use Rattle.events.specs.declared.event.Event.{Event}
use Rattle.events.specs.declared.output.Out.{Out}
use Rattle.events.specs.declared.run_fault.RunFault.{RunFault}
use Rattle.events.specs.RunFaults.{done_of}
use Rattle.events.specs.declared.job.Job.{Job}
use Rattle.desk_calls.specs.DeskCalls.{source_of}
use Rattle.core_steps.specs.EveryRun.{tasks_done}
use Rattle.core_steps.specs.Happening.{Happening, RecordedCall, desks_by, world_after}
use Rattle.core_steps.specs.Opening.{IsNewWorld}
use Rattle.core_steps.specs.OverRuns.{events_done, OverRuns, Announces, AnnouncesOverRuns, ShowsAnnounced, EndsStays, EndsStaysOverRuns, IsLiveInStay}
use Rattle.core_steps.specs.Rule.{Does}
use Rattle.core_steps.specs.Run.{Runs, HasRun, worlds_after}
use Rattle.core_steps.specs.Traces.{AtDesk, AnnouncesAfter, HasLeft, IsRequestIn, calls_of, entries_at}
use Rattle.core_steps.specs.World.{WorldState, Task, order}
use Rattle.core_steps.proofs.CauseLemmas.{Causes, finished_in}
use Rattle.core_steps.proofs.EndingLemmas.{ended_stays_stay_ended, length-desks}
use Rattle.core_steps.proofs.HistoryLemmas.{runs_join}
use Rattle.core_steps.proofs.KindLemmas.{kind_of}
use Rattle.core_steps.proofs.QuietLegLemmas.{set_cases}
use Rattle.core_steps.proofs.ToldLemmas.{told_over_run}
use Rattle.core_steps.proofs.TraceLemmas.{StandsAnnounced, IsRecordedAt, asks_one, announced_over_run}

-- ---- runs

-- the beginning of a run is a run
pub runs_first : (w : WorldState) (events : List Event) (first rest : List Happening) → Runs w events (first ++ rest)
    → (some : List Event) × Runs w some first
runs_first w events [] rest r = ([], tt)
runs_first w [] (h ∷ first) rest r = absurd r
runs_first w (e ∷ events) (h ∷ first) rest r =
    let more = runs_first (world_after w h) events first rest r.1 in (e ∷ more.0, (r.0, more.1))

over_runs : (P : Configuration → List Happening → WorldState → Type 0)
    → ((c : Configuration) (w : WorldState) (events : List Event) (history : List Happening) → IsNewWorld c w → Runs w events history
    → P c history (worlds_after w history))
    → (events : List Event) (old : WorldState) (outs : List Out) (new : WorldState) (all : List Out) → HasRun events old outs new all
    → OverRuns P events old outs new all
over_runs P law events old outs new all run c start before past is_new runs same =
    let whole : Runs start (before ++ events) (past ++ run.history) =
    runs_join start before events past run.history runs (subst (λ (x : WorldState). Runs x events run.history) same run.runs) in
    let leads : new ≡ worlds_after start (past ++ run.history) =
    run.leads ∙ (ap (λ (x : WorldState). worlds_after x run.history) same ∙ sym (fold-append world_after start past run.history)) in
    record {
      run = run;
      now = subst (λ (x : WorldState). P c (past ++ run.history) x) (sym leads)
          (law c start (before ++ events) (past ++ run.history) is_new whole);
      before = λ first rest e.
          let r = runs_first start (before ++ events) first rest
          (subst (λ (hs : List Happening). Runs start (before ++ events) hs) e whole) in
          law c start r.0 first is_new r.1;
    }

-- whatever a run did, there is a history of it
pub has_run : (result : Result (Unit {0}) RunFault) (events : List Event) (old : WorldState) (outs : List Out) (new : WorldState)
    (all : List Out) → OnOk result (HasRun events old outs new all)
    → IfErr result (λ fault. (done_of fault < length events) × HasRun (take (done_of fault) events) old outs new all)
    → HasRun (events_done result events) old outs new all
has_run (Ok x) events old outs new all ok err = ok
has_run (Err fault) events old outs new all ok err = err.1

-- ---- the call at a place of the history

record IsFound (w : WorldState) (history : List Happening) (before : List RecordedCall) (a : RecordedCall) : Type 0 where
  first : List Happening
  at : Happening
  rest : List Happening
  splits : history ≡ first ++ at ∷ rest
  calls : calls_of first ≡ before
  asked : at.asked ≡ a ∷ []
  recorded : IsRecordedAt (worlds_after w first) a

found : (w : WorldState) (events : List Event) (history : List Happening) (before behind : List RecordedCall) (a : RecordedCall)
    → Runs w events history → calls_of history ≡ before ++ a ∷ behind → IsFound w history before a
found w [] [] [] behind a r is = absurd (cc)
found w [] [] (b ∷ before) behind a r is = absurd (cc)
found w [] (h ∷ history) before behind a r is = absurd r
found w (e ∷ events) [] before behind a r is = absurd r
found w (e ∷ events) (h ∷ history) before behind a r is =
    elim (asks_one w e h r.0) [
      | inl none ↦ none_here none
          (found (world_after w h) events history before behind a r.1
          (ap (λ (xs : List RecordedCall). xs ++ calls_of history) (sym none) ∙ is))
      | inr one ↦ one_here before one.0 one.1 one.2
          (ap (λ (xs : List RecordedCall). xs ++ calls_of history) (sym one.1) ∙ is)
          (λ (before : List RecordedCall). found (world_after w h) events history before behind a r.1)
    ]
  where
    none_here : h.asked ≡ [] → IsFound (world_after w h) history before a → IsFound w (h ∷ history) before a
    none_here none f = record {
      first = h ∷ f.first;
      at = f.at;
      rest = f.rest;
      splits = ap (λ (hs : List Happening). h ∷ hs) f.splits;
      calls = ap (λ (xs : List RecordedCall). xs ++ calls_of f.first) none ∙ f.calls;
      asked = f.asked;
      recorded = f.recorded;
    }

    one_here : (before : List RecordedCall) (b : RecordedCall) → h.asked ≡ b ∷ [] → IsRecordedAt w b
        → b ∷ calls_of history ≡ before ++ a ∷ behind
        → ((before : List RecordedCall) → calls_of history ≡ before ++ a ∷ behind → IsFound (world_after w h) history before a)
        → IsFound w (h ∷ history) before a
    one_here [] b one its same next =
        let here : b ≡ a = ap (λ (xs : List RecordedCall). get_or xs 0 b) same in
        record {
          first = [];
          at = h;
          rest = history;
          splits = refl;
          calls = refl;
          asked = one ∙ ap (λ (x : RecordedCall). x ∷ []) here;
          recorded = subst (IsRecordedAt w) here its;
        }
    one_here (x ∷ before) b one its same next =
        let here : b ≡ x = ap (λ (xs : List RecordedCall). get_or xs 0 b) same in
        let f = next before (ap (λ (xs : List RecordedCall). drop 1 xs) same) in
        record {
          first = h ∷ f.first;
          at = f.at;
          rest = f.rest;
          splits = ap (λ (hs : List Happening). h ∷ hs) f.splits;
          calls = ap (λ (xs : List RecordedCall). xs ++ calls_of f.first) one
              ∙ ap (λ (xs : List RecordedCall). b ∷ xs) f.calls ∙ ap (λ (z : RecordedCall). z ∷ before) here;
          asked = f.asked;
          recorded = f.recorded;
        }

-- ---- what is announced

calls_append : (xs ys : List Happening) → calls_of (xs ++ ys) ≡ calls_of xs ++ calls_of ys
calls_append [] ys = refl
calls_append (h ∷ xs) ys =
    ap (λ (cs : List RecordedCall). h.asked ++ cs) (calls_append xs ys) ∙ sym (append_assoc h.asked (calls_of xs) (calls_of ys))

desk_set : (P : DeskState → Type 0) (desks : List DeskState) (k : ℕ) (x : DeskState) → AtDesk P (slice_set desks k x) k → P x
desk_set P desks k x at =
    elim (set_cases desks k k x at.desk at.there) [
      | inl here ↦ subst P here.1 at.is
      | inr other ↦ absurd (other.0 refl)
    ]

shown_over_run : (c : Configuration) (w : WorldState) (events : List Event) (history : List Happening) → IsNewWorld c w
    → Runs w events history → (before behind : List RecordedCall) (a : RecordedCall) → calls_of history ≡ before ++ a ∷ behind
    → ShowsAnnounced c before a
shown_over_run c w events history new r before behind a is =
    let f = found w events history before behind a r is in
    let upto : List Happening = f.first ++ f.at ∷ [] in
    let splits : history ≡ upto ++ f.rest = f.splits ∙ sym (append_assoc f.first (f.at ∷ []) f.rest) in
    let part = runs_first w events upto f.rest (subst (λ (hs : List Happening). Runs w events hs) splits r) in
    let calls : calls_of upto ≡ before ++ a ∷ [] =
    calls_append f.first (f.at ∷ [])
    ∙ ap (λ (cs : List RecordedCall). cs ++ (f.at.asked ++ [])) f.calls
    ∙ ap (λ (cs : List RecordedCall). before ++ (cs ++ [])) f.asked in
    let low : a.publisher < length c.endpoints = omega (arith, f.recorded.within, length-desks w f.first, new.desk_count) in
    let at = announced_over_run c w part.0 upto new part.1 a.publisher low in
    let desks : (worlds_after w upto).desks ≡ slice_set (worlds_after w f.first).desks a.publisher a.desk =
    ap (λ (x : WorldState). x.desks) (fold-append world_after w f.first (f.at ∷ []))
    ∙ ap (λ (cs : List RecordedCall). fold desks_by (worlds_after w f.first).desks cs) f.asked in
    let stands : StandsAnnounced c (entries_at a.publisher (calls_of upto)) a.desk =
    desk_set (StandsAnnounced c (entries_at a.publisher (calls_of upto))) (worlds_after w f.first).desks a.publisher a.desk
    (subst (λ (ds : List DeskState). AtDesk (StandsAnnounced c (entries_at a.publisher (calls_of upto))) ds a.publisher) desks at) in
    record {
      announces = subst (λ (cs : List RecordedCall). AnnouncesAfter c (entries_at a.publisher cs) a.desk) calls stands.announces;
      set = f.recorded.told.announced;
    }

pub announces_over_run : (c : Configuration) (w : WorldState) (events : List Event) (history : List Happening) → IsNewWorld c w
    → Runs w events history → Announces c history (worlds_after w history)
announces_over_run c w events history new r = record {
  desks = λ p low.
      let at = announced_over_run c w events history new r p low in
      record { desk = at.desk; there = at.there; is = at.is.announces };
  shown = shown_over_run c w events history new r;
  told = told_over_run c w events history new r;
}

pub announces_over_runs : (events : List Event) (old : WorldState) (outs : List Out) (new : WorldState) (all : List Out)
    → HasRun events old outs new all → AnnouncesOverRuns events old outs new all
announces_over_runs = over_runs Announces announces_over_run

-- ---- the task at a place of the history

record IsDoneAt (w : WorldState) (history : List Happening) (t : Task) : Type 0 where
  first : List Happening
  at : Happening
  rest : List Happening
  splits : history ≡ first ++ at ∷ rest
  events : List Event
  event : Event
  later : List Event
  runs : Runs w events first
  does : Does (worlds_after w first) event at
  goes_on : Runs (world_after (worlds_after w first) at) later rest
  did : at.did ≡ t ∷ []

did_one : (w : WorldState) (ts : List Task) (js : List Job) (who : Option (ℕ × DeskCall)) → Causes w ts js who
    → (ts ≡ []) ⊎ ((t : Task) × (ts ≡ t ∷ []))
did_one w [] js who c = inl refl
did_one w (t ∷ []) js who c = inr (t, refl)
did_one w (t ∷ (u ∷ ts)) js who c = absurd c

done_at : (w : WorldState) (events : List Event) (history : List Happening) (place : ℕ) (t : Task) → Runs w events history
    → slice_get (tasks_done history) place ≡ Some t → IsDoneAt w history t
done_at w [] [] place t r is = absurd (none-some t is)
done_at w [] (h ∷ history) place t r is = absurd r
done_at w (e ∷ events) [] place t r is = absurd r
done_at w (e ∷ events) (h ∷ history) place t r is =
    elim (did_one w h.did (finished_in h) (kind_of w e h r.0).asks.who (kind_of w e h r.0).asks.cause) [
      | inl none ↦ behind
          (done_at (world_after w h) events history place t r.1
          (ap (λ (ts : List Task). slice_get (ts ++ tasks_done history) place) (sym none) ∙ is))
      | inr one ↦ at_one one.0 one.1 place (ap (λ (ts : List Task). slice_get (ts ++ tasks_done history) place) (sym one.1) ∙ is)
          (λ (k : ℕ). done_at (world_after w h) events history k t r.1)
    ]
  where
    behind : IsDoneAt (world_after w h) history t → IsDoneAt w (h ∷ history) t
    behind d = record {
      first = h ∷ d.first;
      at = d.at;
      rest = d.rest;
      splits = ap (λ (hs : List Happening). h ∷ hs) d.splits;
      events = e ∷ d.events;
      event = d.event;
      later = d.later;
      runs = (r.0, d.runs);
      does = d.does;
      goes_on = d.goes_on;
      did = d.did;
    }

    at_one : (u : Task) → h.did ≡ u ∷ [] → (place : ℕ) → slice_get (u ∷ tasks_done history) place ≡ Some t
        → ((k : ℕ) → slice_get (tasks_done history) k ≡ Some t → IsDoneAt (world_after w h) history t) → IsDoneAt w (h ∷ history) t
    at_one u one zero is next = record {
      first = [];
      at = h;
      rest = history;
      splits = refl;
      events = [];
      event = e;
      later = events;
      runs = tt;
      does = r.0;
      goes_on = r.1;
      did = one ∙ ap (λ (x : Task). x ∷ []) (same_Some u t is);
    }
    at_one u one (suc place) is next = behind (next place is)

-- ---- no request of a stay that ended is live

-- a request that was done while an owner is present asks in the stay with which it is present
asked_in_stay : (gap ms : ℕ) (base : Base) (entries : List Entry) (owner s n from place : ℕ) (tuple : Tuple) → 1 ≤ s
    → IsLegalHistory gap ms base entries → IsPresentFrom base entries owner s from → from ≤ place
    → HasEntryAt (WasDone (IsRequestIn owner n tuple)) entries place → s ≡ n
asked_in_stay gap ms base [] owner s n from place tuple some legal here low request =
    absurd (not_in_nil (WasDone (IsRequestIn owner n tuple)) place request)
asked_in_stay gap ms base (e ∷ entries) owner s n from zero tuple some legal here low request =
    first (head_is (WasDone (IsRequestIn owner n tuple)) e entries request)
  where
    stands : stay_in base.present.items owner ≡ s
    stands = elim here.began [ inl at ↦ at.1 | inr at ↦ absurd (omega (arith, low, at.1)) ]

    named : (call : DeskCall) → refusal_of base.present.items call ≡ None → IsRequestIn owner n tuple call
        → stay_in base.present.items owner ≡ n
    named (Stay o stay change) accepted is =
        subst (λ (k : ℕ). stay_in base.present.items k ≡ n) is.0
        (stay_in-named base.present.items o.0 stay
        (subst (λ (x : Change). refusal_in base.present.items o.0 stay x ≡ None) is.1.1 accepted) ∙ is.1.0)
    named (Time moment signal) accepted is = absurd is

    first : WasDone (IsRequestIn owner n tuple) e → s ≡ n
    first was =
        sym stands
        ∙ named e.call (done_accepted gap ms base e.call e.answer (legal-first gap ms base e entries legal) was.0) was.1
asked_in_stay gap ms base (e ∷ entries) owner s n from (suc place) tuple some legal here low request =
    asked_in_stay gap ms (base_with ms base e) entries owner s n (less_one from) place tuple some (legal-rest gap ms base e entries legal)
    (present_on ms base e entries owner s some (first_step gap ms owner base e entries legal) from here) (less from low)
    (from_tail (WasDone (IsRequestIn owner n tuple)) e entries place request)
  where
    less : (k : ℕ) → k ≤ suc place → less_one k ≤ place
    less zero below = omega arith
    less (suc k) below = omega (arith, below)

request_of : (owner n : ℕ) (tuple : Tuple) (entries : List Entry) (place : ℕ) → HasEntryAt (WasDone (IsRequestIn owner n tuple)) entries place
    → HasEntryAt (WasDone (IsRequestOf owner tuple)) entries place
request_of owner n tuple entries place h = record { entry = h.entry; there = h.there; is = (h.is.0, step h.entry.call h.is.1) }
  where
    step : (call : DeskCall) → IsRequestIn owner n tuple call → IsRequestOf owner tuple call
    step (Stay o stay change) is = (is.0, is.1.1)
    step (Time moment signal) is = is

empty_is_base : IsBase empty_base
empty_is_base = record {
  rising = λ i j d less below. absurd (omega (arith, below));
  stays = λ i d below. absurd (omega (arith, below));
  few = omega arith;
  words = omega arith;
}

none_live : (c : Configuration) (entries : List Entry) (owner n : ℕ) (d : DeskState) → StandsAnnounced c entries d → HasLeft owner n d
    → IsLiveInStay entries owner n d → ⊥
none_live c entries owner n d stands left x =
    elim (cases_eq (stay_in (base_after c.request_ms empty_base entries).present.items owner) 0) [
      | inl absent ↦
          absurd (none-some x.tuple
          (sym (absent_law c.pli_gap_ms c.request_ms empty_base entries owner empty_is_base a.stays a.legal absent) ∙ row))
      | inr here ↦ present (omega (arith, here))
    ]
  where
    a : AnnouncesAfter c entries d
    a = stands.announces

    row : tuple_of (live_after c.request_ms empty_base entries) owner ≡ Some x.tuple
    row = ap (λ (rows : List Request). tuple_of rows owner) (sym stands.announces.live) ∙ x.live

    now_stay : ℕ
    now_stay = stay_in (base_after c.request_ms empty_base entries).present.items owner

    away : stay_in (base_after c.request_ms empty_base entries).present.items owner ≢ n
    away is = left (ap (λ (b : Base). stay_in b.present.items owner) stands.now ∙ is)

    last_is : (from : ℕ) → IsLastRequestFrom c.request_ms empty_base entries owner from x.tuple → from ≤ x.place
    last_is from q =
        elim (cases_lt x.place q.asked) [
          | inl less ↦ absurd (x.last q.asked x.tuple less q.request)
          | inr not ↦ omega (arith, not, q.counts)
        ]

    present : 1 ≤ stay_in (base_after c.request_ms empty_base entries).present.items owner → ⊥
    present some =
        let s : ℕ = stay_in (base_after c.request_ms empty_base entries).present.items owner in
        let here = (present_law c.pli_gap_ms c.request_ms empty_base entries owner s a.legal some).0 refl in
        let live = (request_law c.pli_gap_ms c.request_ms empty_base entries owner s here.0 x.tuple empty_is_base a.stays a.legal some here.1).0 row in
        elim live [
          | inl q ↦
              away
              (asked_in_stay c.pli_gap_ms c.request_ms empty_base entries owner s n here.0 x.place x.tuple some a.legal here.1
              (last_is here.0 q) x.request)
          | inr q ↦ none_in_base q.1.there
        ]
      where
        none_in_base : {z : Asked} → None ≡ Some z → ⊥
        none_in_base {z} is = none-some z is

-- ---- stays that ended

pub ends_over_run : (c : Configuration) (w : WorldState) (events : List Event) (history : List Happening) → IsNewWorld c w
    → Runs w events history → EndsStays c history (worlds_after w history)
ends_over_run c w events history new r place leg stay l d some is f g =
    let t = done_at w events history place (order (Depart leg stay)) r is in
    let leads : worlds_after w history ≡ worlds_after (world_after (worlds_after w t.first) t.at) t.rest =
    ap (λ (hs : List Happening). worlds_after w hs) t.splits ∙ fold-append world_after w t.first (t.at ∷ t.rest) in
    let left : HasLeft (source_of (table_of c) l.subscriber).0 stay d =
    ended_stays_stay_ended c w t.events t.later t.first t.rest t.event t.at leg stay l d new t.runs t.does t.did t.goes_on some f
    (ap (λ (x : WorldState). slice_get x.desks l.publisher) (sym leads) ∙ g) in
    let low : l.publisher < length c.endpoints =
    omega (
      arith,
      slice_get_within (worlds_after w history).desks l.publisher d g,
      length-desks w history,
      new.desk_count,
    ) in
    let at = announced_over_run c w events history new r l.publisher low in
    let one : at.desk ≡ d = same_Some at.desk d (sym at.there ∙ g) in
    let stands : StandsAnnounced c (entries_at l.publisher (calls_of history)) d =
    subst (StandsAnnounced c (entries_at l.publisher (calls_of history))) one at.is in
    (left, none_live c (entries_at l.publisher (calls_of history)) (source_of (table_of c) l.subscriber).0 stay d stands left)

pub ends_over_runs : (events : List Event) (old : WorldState) (outs : List Out) (new : WorldState) (all : List Out)
    → HasRun events old outs new all → EndsStaysOverRuns events old outs new all
ends_over_runs = over_runs EndsStays ends_over_run
