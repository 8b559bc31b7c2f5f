-- What a run makes of each desk, and what it announces.
use Rattle.std.proofs.Common.{◌≡◌, ◌≢◌, ◌<◌, ◌≤◌, ◌+◌, ℕ, zero, suc, List, [], ◌∷◌, ◌++◌, length, Bool, true, false, Option, None, Some, refl, ap, sym, ◌∙◌, subst, append_assoc, append-nil, inl, inr, arith}
use Rattle.std.specs.Prelude.{◌⊎◌, All, fold, map, slice_get, slice_set, ◌==◌, if◌then◌else◌}
use Rattle.std.specs.List.{flat_map, AllByRecursion}
use Rattle.std.proofs.lemmas.Bool.{eqb-true, eq-eqb}
use Rattle.std.proofs.lemmas.Grind.{flat_map-append}
use Rattle.std.proofs.lemmas.List.{length-append, map-append}
use Rattle.std.proofs.lemmas.Option.{get_or_from_slice_get, slice_get_within, same_Some}
use Rattle.std.proofs.Math.Dec.{lit≤}
use Rattle.circular_buffer.proofs.Places.{slice_get-some, slice_get-set_same, slice_get-set_other}
use Rattle.settings.specs.Settings.{Configuration}
use Rattle.desk.specs.declared.call.Call.{Call as DeskCall}
use Rattle.desk.specs.declared.call.Entry.{Entry}
use Rattle.desk.specs.declared.base.Base.{Base}
use Rattle.desk.specs.declared.desk.TheConstants.{HISTORY_LIMIT}
use Rattle.desk.specs.Call.{HasStay}
use Rattle.desk.specs.Presence.{live_requests}
use Rattle.desk.specs.Trace.{empty_base, base_with, base_after}
use Rattle.desk.specs.Answer.{IsAnswerTo}
use Rattle.desk.specs.History.{IsLegalHistory, StandsForEntries}
use Rattle.desk.specs.State.{DeskState, HoldsLegalDesk, call_count, now_of}
use Rattle.desk.proofs.TraceLemmas.{base_after-append, calls-after, legal-first, legal-rest, legal-folded, legal-push}
use Rattle.events.specs.declared.event.Event.{Event}
use Rattle.core_steps.specs.Happening.{Happening, RecordedCall, world_after, desks_by}
use Rattle.core_steps.specs.Laws.{TellsLegalDesk}
use Rattle.core_steps.specs.Opening.{IsNewDesk, IsNewWorld}
use Rattle.core_steps.specs.Rule.{Does, IsRecordedCall, Replies}
use Rattle.core_steps.specs.Run.{Runs, worlds_after}
use Rattle.core_steps.specs.Traces.{AtDesk, of_desk, recorded_in, recorded_at, recorded_entry, calls_of, entry_at, entries_at, AreNumberedFrom, HasRecorded, AnnouncesAfter}
use Rattle.core_steps.specs.World.{WorldState}
use Rattle.core_steps.proofs.CauseLemmas.{AsksDeskOf, AsksThere, recorded_of}
use Rattle.core_steps.proofs.HistoryLemmas.{legal_by, desks_stay_legal}
use Rattle.core_steps.proofs.KindLemmas.{IsKind, kind_of}
use Rattle.core_steps.proofs.QuietDeskLemmas.{has_stay}

-- ---- histories

legal-cons : (gap ms : ℕ) (base : Base) (e : Entry) (rest : List Entry) → IsAnswerTo gap ms base e.call e.answer
    → IsLegalHistory gap ms (base_with ms base e) rest → IsLegalHistory gap ms base (e ∷ rest)
legal-cons gap ms base e rest is legal zero d below = is
legal-cons gap ms base e rest is legal (suc i) d below = legal i d (omega (arith, below))

-- what is legal after the first entries is legal after them
legal-join : (gap ms : ℕ) (base : Base) (first listed rest : List Entry) → IsLegalHistory gap ms base (first ++ listed)
    → IsLegalHistory gap ms (base_after ms base first) rest → IsLegalHistory gap ms base (first ++ rest)
legal-join gap ms base [] listed rest legal more = more
legal-join gap ms base (e ∷ first) listed rest legal more =
    legal-cons gap ms base e (first ++ rest) (legal-first gap ms base e (first ++ listed) legal)
    (legal-join gap ms (base_with ms base e) first listed rest (legal-rest gap ms base e (first ++ listed) legal) more)

-- of two lists joined that end with an entry, the second one, which isn't empty, ends with it
record EndsWith (first rest whole : List Entry) (e : Entry) : Type 0 where
  before : List Entry
  ends : rest ≡ before ++ e ∷ []
  joins : first ++ before ≡ whole

ends_with : (first rest whole : List Entry) (e : Entry) → first ++ rest ≡ whole ++ e ∷ [] → 1 ≤ length rest → EndsWith first rest whole e
ends_with [] rest whole e is some = record { before = whole; ends = is; joins = refl }
ends_with (x ∷ first) rest [] e is some =
    absurd (omega (arith, some, ap (λ (es : List Entry). length es) is, length-append first rest))
ends_with (x ∷ first) rest (y ∷ whole) e is some =
    let head : x ≡ y = cc in
    let tail : first ++ rest ≡ whole ++ e ∷ [] = cc in
    let r = ends_with first rest whole e tail some in
    record { before = r.before; ends = r.ends; joins = ap (λ z. z ∷ (first ++ r.before)) head ∙ ap (λ es. y ∷ es) r.joins }

-- ---- a desk that recorded calls

numbered-append : (n m : ℕ) (xs ys : List RecordedCall) → m ≡ n + length xs → AreNumberedFrom n xs → AreNumberedFrom m ys
    → AreNumberedFrom n (xs ++ ys)
numbered-append n m [] ys is first rest = subst (λ k. AreNumberedFrom k ys) (omega (arith, is)) rest
numbered-append n m (x ∷ xs) ys is first rest = (first.0, numbered-append (n + 1) m xs ys (omega (arith, is)) first.1 rest)

length-entries : (calls : List RecordedCall) → length (map recorded_entry calls) ≡ length calls
length-entries [] = refl
length-entries (a ∷ calls) = omega (arith, length-entries calls)

-- no call
recorded-none : (d : DeskState) → HoldsLegalDesk d → HasRecorded d [] d
recorded-none d legal = record {
  numbered = tt;
  stands = record {
    folded = [];
    in_turn = append-nil d.history;
    listed = omega (arith, legal.listed, ap (λ (es : List Entry). length es) (append-nil d.history));
    stands = refl;
  };
  legal = subst (λ (es : List Entry). IsLegalHistory d.gap d.request_ms d.base es) (sym (append-nil d.history)) legal.legal;
  gap = refl;
  request_ms = refl;
}

-- the answer to the call that a desk recorded is the one that was owed
pub answer-owed : (old : DeskState) (call : DeskCall) (a : RecordedCall) (p : ℕ) → IsRecordedCall p old call a
    → IsAnswerTo old.gap old.request_ms (now_of old) a.call a.answer
answer-owed old call a p r =
    let new : DeskState = a.desk in
    let e : Entry = recorded_entry a in
    let s : StandsForEntries old.request_ms old.base (old.history ++ e ∷ []) new.base new.history =
    subst (λ (c : DeskCall). StandsForEntries old.request_ms old.base (old.history ++ record { call = c; answer = a.answer } ∷ []) new.base new.history)
    (sym r.names) r.records.stands in
    let limit : 1 ≤ HISTORY_LIMIT = lit≤ tt in
    let some : 1 ≤ length new.history = omega (arith, s.listed, length-append old.history (e ∷ []), limit) in
    let last = ends_with s.folded new.history old.history e (sym s.in_turn) some in
    let here : IsLegalHistory new.gap new.request_ms new.base (last.before ++ e ∷ []) =
    subst (λ (es : List Entry). IsLegalHistory new.gap new.request_ms new.base es) last.ends r.legal.legal in
    let owed : IsAnswerTo new.gap new.request_ms (base_after new.request_ms new.base last.before) e.call e.answer =
    legal-first new.gap new.request_ms (base_after new.request_ms new.base last.before) e []
    (legal-folded new.gap new.request_ms new.base last.before (e ∷ []) here) in
    let same : base_after old.request_ms new.base last.before ≡ now_of old =
    ap (λ (b : Base). base_after old.request_ms b last.before) s.stands
    ∙ sym (base_after-append old.request_ms old.base s.folded last.before)
    ∙ ap (base_after old.request_ms old.base) last.joins in
    subst (λ (b : Base). IsAnswerTo old.gap old.request_ms b e.call e.answer) same
    (subst (λ (m : ℕ). IsAnswerTo old.gap m (base_after m new.base last.before) e.call e.answer) r.records.request_ms
    (subst (λ (g : ℕ). IsAnswerTo g new.request_ms (base_after new.request_ms new.base last.before) e.call e.answer) r.records.gap owed))

-- one call
pub recorded-one : (old : DeskState) (call : DeskCall) (a : RecordedCall) (p : ℕ) → HoldsLegalDesk old → IsRecordedCall p old call a
    → HasRecorded old (a ∷ []) a.desk
recorded-one old call a p legal r = record {
  numbered = (r.records.numbered, tt);
  stands = subst (λ (c : DeskCall). StandsForEntries old.request_ms old.base (old.history ++ record { call = c; answer = a.answer } ∷ []) a.desk.base a.desk.history)
      (sym r.names) r.records.stands;
  legal = legal-push old.gap old.request_ms old.base old.history (recorded_entry a) legal.legal (answer-owed old call a p r);
  gap = r.records.gap;
  request_ms = r.records.request_ms;
}

-- what its calls come to
pub now_after : (old : DeskState) (calls : List RecordedCall) (new : DeskState) → HasRecorded old calls new
    → now_of new ≡ base_after old.request_ms old.base (old.history ++ map recorded_entry calls)
now_after old calls new r =
    ap (λ (m : ℕ). base_after m new.base new.history) r.request_ms
    ∙ ap (λ (b : Base). base_after old.request_ms b new.history) r.stands.stands
    ∙ sym (base_after-append old.request_ms old.base r.stands.folded new.history)
    ∙ ap (base_after old.request_ms old.base) (sym r.stands.in_turn)

calls_after : (old : DeskState) (calls : List RecordedCall) (new : DeskState) → HasRecorded old calls new
    → call_count new ≡ call_count old + length calls
calls_after old calls new r =
    omega (
      arith,
      ap (λ (b : Base). b.calls) r.stands.stands,
      calls-after old.request_ms old.base r.stands.folded,
      ap (λ (es : List Entry). length es) r.stands.in_turn,
      length-append old.history (map recorded_entry calls),
      length-append r.stands.folded new.history,
      length-entries calls,
    )

-- calls, then more
pub recorded-append : (old mid new : DeskState) (first rest : List RecordedCall) → HasRecorded old first mid → HasRecorded mid rest new
    → HasRecorded old (first ++ rest) new
recorded-append old mid new first rest r s =
    let xs : List Entry = map recorded_entry first in
    let ys : List Entry = map recorded_entry rest in
    let whole : old.history ++ map recorded_entry (first ++ rest) ≡ r.stands.folded ++ (mid.history ++ ys) =
    ap (λ (es : List Entry). old.history ++ es) (map-append recorded_entry first rest)
    ∙ sym (append_assoc old.history xs ys)
    ∙ ap (λ (es : List Entry). es ++ ys) r.stands.in_turn
    ∙ append_assoc r.stands.folded mid.history ys in
    let behind : mid.base ≡ base_after old.request_ms old.base r.stands.folded = r.stands.stands in
    record {
      numbered = numbered-append (call_count old) (call_count mid) first rest (calls_after old first mid r) r.numbered s.numbered;
      stands = record {
        folded = r.stands.folded ++ s.stands.folded;
        in_turn = whole ∙ ap (λ (es : List Entry). r.stands.folded ++ es) s.stands.in_turn
            ∙ sym (append_assoc r.stands.folded s.stands.folded new.history);
        listed = omega (
          arith,
          r.stands.listed,
          s.stands.listed,
          ap (λ (es : List Entry). length es) whole,
          ap (λ (es : List Entry). length es) r.stands.in_turn,
          length-append r.stands.folded (mid.history ++ ys),
          length-append r.stands.folded mid.history,
          length-append mid.history ys,
          length-append old.history xs,
        );
        stands = s.stands.stands
            ∙ ap (λ (m : ℕ). base_after m mid.base s.stands.folded) r.request_ms
            ∙ ap (λ (b : Base). base_after old.request_ms b s.stands.folded) behind
            ∙ sym (base_after-append old.request_ms old.base r.stands.folded s.stands.folded);
      };
      legal = subst (λ (es : List Entry). IsLegalHistory old.gap old.request_ms old.base es) (sym whole)
          (legal-join old.gap old.request_ms old.base r.stands.folded mid.history (mid.history ++ ys)
          (subst (λ (es : List Entry). IsLegalHistory old.gap old.request_ms old.base es) r.stands.in_turn r.legal)
          (subst (λ (b : Base). IsLegalHistory old.gap old.request_ms b (mid.history ++ ys)) behind
          (subst (λ (m : ℕ). IsLegalHistory old.gap m mid.base (mid.history ++ ys)) r.request_ms
          (subst (λ (g : ℕ). IsLegalHistory g mid.request_ms mid.base (mid.history ++ ys)) r.gap s.legal))));
      gap = s.gap ∙ r.gap;
      request_ms = s.request_ms ∙ r.request_ms;
    }

-- ---- one event

pub at_place : (P : DeskState → Type 0) (desks : List DeskState) (p : ℕ) (d : DeskState) → All P desks → slice_get desks p ≡ Some d → P d
at_place P desks p d all f = subst P (get_or_from_slice_get desks p d d f) (all p d (slice_get_within desks p d f))

-- no desk recorded a call
still : (desks : List DeskState) (asked : List RecordedCall) (p : ℕ) (d : DeskState) → HoldsLegalDesk d → slice_get desks p ≡ Some d
    → asked ≡ [] → AtDesk (HasRecorded d (flat_map (of_desk p) asked)) (fold desks_by desks asked) p
still desks asked p d legal f none =
    subst (λ (xs : List RecordedCall). AtDesk (HasRecorded d (flat_map (of_desk p) xs)) (fold desks_by desks xs) p) (sym none)
    (record { desk = d; there = f; is = recorded-none d legal })

-- one desk recorded a call
recorded_by : (desks : List DeskState) (a : RecordedCall) (p : ℕ) (d asked : DeskState) (call : DeskCall) → HoldsLegalDesk d
    → slice_get desks p ≡ Some d → slice_get desks a.publisher ≡ Some asked → IsRecordedCall a.publisher asked call a → (b : Bool)
    → (a.publisher == p) ≡ b → AtDesk (HasRecorded d ((if b then a ∷ [] else []) ++ [])) (slice_set desks a.publisher a.desk) p
recorded_by desks a p d asked call legal f g r true e =
    let same : a.publisher ≡ p = eqb-true a.publisher p e in
    let one : asked ≡ d = same_Some asked d (sym g ∙ ap (slice_get desks) same ∙ f) in
    record {
      desk = a.desk;
      there = subst (λ (k : ℕ). slice_get (slice_set desks a.publisher a.desk) k ≡ Some a.desk) same
          (slice_get-set_same desks a.publisher a.desk (slice_get_within desks a.publisher asked g));
      is = subst (λ (x : DeskState). HasRecorded x (a ∷ []) a.desk) one
          (recorded-one asked call a a.publisher (subst HoldsLegalDesk (sym one) legal) r);
    }
recorded_by desks a p d asked call legal f g r false e =
    let other : p ≢ a.publisher = λ h. absurd (let t : (a.publisher == p) ≡ true = eq-eqb a.publisher p (sym h) in cc) in
    record { desk = d; there = slice_get-set_other desks a.publisher p a.desk other ∙ f; is = recorded-none d legal }

asked_by : (w : WorldState) (h : Happening) (p q : ℕ) (d : DeskState) (call : DeskCall) (asked : Option DeskState)
    → HoldsLegalDesk d → slice_get w.desks p ≡ Some d → slice_get w.desks q ≡ asked → AsksThere q call asked h
    → AtDesk (HasRecorded d (recorded_in p h)) (world_after w h).desks p
asked_by w h p q d call None legal f g r = still w.desks h.asked p d legal f r.asked
asked_by w h p q d call (Some asked) legal f g r = step r.reply r.replies r.asked
  where
    step : (reply : Option RecordedCall) → Replies q asked call reply → h.asked ≡ recorded_of reply
        → AtDesk (HasRecorded d (recorded_in p h)) (world_after w h).desks p
    step None over is = still w.desks h.asked p d legal f is
    step (Some a) done is =
        subst (λ (xs : List RecordedCall). AtDesk (HasRecorded d (flat_map (of_desk p) xs)) (fold desks_by w.desks xs) p) (sym is)
        (recorded_by w.desks a p d asked call legal f (ap (slice_get w.desks) done.publisher ∙ g)
        (subst (λ (k : ℕ). IsRecordedCall k asked call a) (sym done.publisher) done) (a.publisher == p) refl)

desk_step : (w : WorldState) (h : Happening) (p : ℕ) (d : DeskState) → IsKind w h → HoldsLegalDesk d → slice_get w.desks p ≡ Some d
    → AtDesk (HasRecorded d (recorded_in p h)) (world_after w h).desks p
desk_step w h p d k legal f = step k.asks.who k.asks.asks
  where
    step : (who : Option (ℕ × DeskCall)) → AsksDeskOf w who h → AtDesk (HasRecorded d (recorded_in p h)) (world_after w h).desks p
    step None r = still w.desks h.asked p d legal f r.asked
    step (Some (q, call)) r = asked_by w h p q d call (slice_get w.desks q) legal f refl r

-- ---- runs

pub desks_by_history : (w : WorldState) (events : List Event) (history : List Happening) → Runs w events history
    → All HoldsLegalDesk w.desks → (p : ℕ) (d : DeskState) → slice_get w.desks p ≡ Some d
    → AtDesk (HasRecorded d (recorded_at p history)) (worlds_after w history).desks p
desks_by_history w [] [] r all p d f = record { desk = d; there = f; is = recorded-none d (at_place HoldsLegalDesk w.desks p d all f) }
desks_by_history w [] (h ∷ history) r all p d f = absurd r
desks_by_history w (e ∷ events) [] r all p d f = absurd r
desks_by_history w (e ∷ events) (h ∷ history) r all p d f =
    let k : IsKind w h = kind_of w e h r.0 in
    let one = desk_step w h p d k (at_place HoldsLegalDesk w.desks p d all f) f in
    let rest = desks_by_history (world_after w h) events history r.1 (legal_by w.desks h.asked all k.asked) p one.desk one.there in
    record {
      desk = rest.desk;
      there = rest.there;
      is = recorded-append d one.desk rest.desk (recorded_in p h) (recorded_at p history) one.is rest.is;
    }

-- ---- from a new world

pub new_legal : (c : Configuration) (w : WorldState) → IsNewWorld c w → All HoldsLegalDesk w.desks
new_legal c w new k d low = (new.desks k d low).legal

opened_legal : (c : Configuration) (d : DeskState) (entries : List Entry) → IsNewDesk c d
    → IsLegalHistory d.gap d.request_ms d.base (d.history ++ entries) → IsLegalHistory c.pli_gap_ms c.request_ms empty_base entries
opened_legal c d entries new legal =
    subst (λ (g : ℕ). IsLegalHistory g c.request_ms empty_base entries) new.gap
    (subst (λ (m : ℕ). IsLegalHistory d.gap m empty_base entries) new.request_ms
    (subst (λ (b : Base). IsLegalHistory d.gap d.request_ms b entries) new.base
    (subst (λ (es : List Entry). IsLegalHistory d.gap d.request_ms d.base (es ++ entries)) new.history legal)))

-- what all its calls come to
opened_now : (ms now_ms : ℕ) (base now_base : Base) (listed entries : List Entry) → ms ≡ now_ms → base ≡ now_base → listed ≡ []
    → base_after ms base (listed ++ entries) ≡ base_after now_ms now_base entries
opened_now ms now_ms base now_base listed entries a b c =
    ap (λ (m : ℕ). base_after m base (listed ++ entries)) a
    ∙ ap (λ (x : Base). base_after now_ms x (listed ++ entries)) b
    ∙ ap (λ (es : List Entry). base_after now_ms now_base (es ++ entries)) c

-- the desk announces what these calls leave, and stands for them
pub record StandsAnnounced (c : Configuration) (entries : List Entry) (d : DeskState) : Type 0 where
  pub announces : AnnouncesAfter c entries d
  pub now : now_of d ≡ base_after c.request_ms empty_base entries

announced : (c : Configuration) (d later : DeskState) (calls : List RecordedCall) (entries : List Entry)
    → map recorded_entry calls ≡ entries → All (λ (e : Entry). HasStay e.call) entries → IsNewDesk c d → HasRecorded d calls later
    → HoldsLegalDesk later → StandsAnnounced c entries later
announced c d later calls entries same stays new r legal =
    let now : now_of later ≡ base_after c.request_ms empty_base entries =
    now_after d calls later r
    ∙ opened_now d.request_ms c.request_ms d.base empty_base d.history (map recorded_entry calls) new.request_ms new.base new.history
    ∙ ap (λ (es : List Entry). base_after c.request_ms empty_base es) same in
    record {
      announces = record {
        stays = stays;
        legal = subst (λ (es : List Entry). IsLegalHistory c.pli_gap_ms c.request_ms empty_base es) same
            (opened_legal c d (map recorded_entry calls) new r.legal);
        live = legal.live ∙ ap (λ (b : Base). live_requests b.present.items) now;
        announced = legal.announced;
      };
      now = now;
    }

-- ---- the calls of one desk among all

entries_of_desk : (p : ℕ) (asked : List RecordedCall) → map recorded_entry (flat_map (of_desk p) asked) ≡ entries_at p asked
entries_of_desk p [] = refl
entries_of_desk p (a ∷ asked) =
    map-append recorded_entry (of_desk p a) (flat_map (of_desk p) asked) ∙ step (a.publisher == p) (entries_of_desk p asked)
  where
    step : (b : Bool) → map recorded_entry (flat_map (of_desk p) asked) ≡ entries_at p asked
        → map recorded_entry (if b then a ∷ [] else []) ++ map recorded_entry (flat_map (of_desk p) asked)
        ≡ (if b then recorded_entry a ∷ [] else []) ++ entries_at p asked
    step true rest = ap (λ (es : List Entry). recorded_entry a ∷ es) rest
    step false rest = rest

entries_of_run : (p : ℕ) (history : List Happening) → map recorded_entry (recorded_at p history) ≡ entries_at p (calls_of history)
entries_of_run p [] = refl
entries_of_run p (h ∷ history) =
    map-append recorded_entry (recorded_in p h) (recorded_at p history)
    ∙ ap (λ (es : List Entry). es ++ map recorded_entry (recorded_at p history)) (entries_of_desk p h.asked)
    ∙ ap (λ (es : List Entry). entries_at p h.asked ++ es) (entries_of_run p history)
    ∙ sym (flat_map-append (entry_at p) h.asked (calls_of history))

-- an event records one call at most: at a desk that is there, which is legal then, and whose announced set its effect shows
pub record IsRecordedAt (w : WorldState) (a : RecordedCall) : Type 0 where
  pub within : a.publisher < length w.desks
  pub told : TellsLegalDesk a
  pub stay : HasStay a.call

abbrev pub AsksOne : WorldState → Happening → Type 0
AsksOne w h = (h.asked ≡ []) ⊎ ((a : RecordedCall) × (h.asked ≡ a ∷ []) × IsRecordedAt w a)

pub asks_one : (w : WorldState) (e : Event) (h : Happening) → Does w e h → AsksOne w h
asks_one w e h does = step k.asks.who k.asks.asks
  where
    k : IsKind w h
    k = kind_of w e h does

    there : (p : ℕ) (call : DeskCall) (d : Option DeskState) → slice_get w.desks p ≡ d → AsksThere p call d h → AsksOne w h
    there p call None f r = inl r.asked
    there p call (Some d) f r = reply r.reply r.replies r.asked
      where
        reply : (x : Option RecordedCall) → Replies p d call x → h.asked ≡ recorded_of x → AsksOne w h
        reply None over is = inl is
        reply (Some a) done is = inr (
          a,
          is,
          record {
            within = subst (λ (q : ℕ). q < length w.desks) (sym done.publisher) (slice_get_within w.desks p d f);
            told = record { legal = done.legal; announced = done.effect.announced };
            stay = subst (λ (x : DeskCall). HasStay x) (sym done.names) (has_stay d a.desk call a.number a.answer done.records done.legal);
          },
        )

    step : (who : Option (ℕ × DeskCall)) → AsksDeskOf w who h → AsksOne w h
    step None r = inl r.asked
    step (Some (p, call)) r = there p call (slice_get w.desks p) refl r

all_cons : (e : Entry) (es : List Entry) → HasStay e.call → All (λ (x : Entry). HasStay x.call) es → All (λ (x : Entry). HasStay x.call) (e ∷ es)
all_cons e es is rest zero d below = is
all_cons e es is rest (suc i) d below = rest i d (omega (arith, below))

abbrev HaveStays : List RecordedCall → Type 0
HaveStays calls = AllByRecursion (λ (a : RecordedCall). HasStay a.call) calls

stays_at : (p : ℕ) (calls : List RecordedCall) → HaveStays calls → All (λ (e : Entry). HasStay e.call) (entries_at p calls)
stays_at p [] all = λ i d below. absurd (omega (arith, below))
stays_at p (a ∷ calls) all = step (a.publisher == p) (stays_at p calls all.1)
  where
    step : (b : Bool) → All (λ (e : Entry). HasStay e.call) (entries_at p calls)
        → All (λ (e : Entry). HasStay e.call) ((if b then recorded_entry a ∷ [] else []) ++ entries_at p calls)
    step true rest = all_cons (recorded_entry a) (entries_at p calls) all.0 rest
    step false rest = rest

stays_append : (xs ys : List RecordedCall) → HaveStays xs → HaveStays ys → HaveStays (xs ++ ys)
stays_append [] ys a b = b
stays_append (x ∷ xs) ys a b = (a.0, stays_append xs ys a.1 b)

stays_of_run : (w : WorldState) (events : List Event) (history : List Happening) → Runs w events history → HaveStays (calls_of history)
stays_of_run w [] [] r = tt
stays_of_run w [] (h ∷ history) r = absurd r
stays_of_run w (e ∷ events) [] r = absurd r
stays_of_run w (e ∷ events) (h ∷ history) r =
    stays_append h.asked (calls_of history) here (stays_of_run (world_after w h) events history r.1)
  where
    here : HaveStays h.asked
    here =
        elim (asks_one w e h r.0) [
          | inl none ↦ subst HaveStays (sym none) tt
          | inr one ↦ subst HaveStays (sym one.1) (one.2.stay, tt)
        ]

-- ---- what each desk announces, after every run from a new world

pub announced_over_run : (c : Configuration) (w : WorldState) (events : List Event) (history : List Happening)
    → IsNewWorld c w → Runs w events history → (p : ℕ) → p < length c.endpoints
    → AtDesk (StandsAnnounced c (entries_at p (calls_of history))) (worlds_after w history).desks p
announced_over_run c w events history new r p low =
    let count : p < length w.desks = omega (arith, low, new.desk_count) in
    let first = slice_get-some w.desks p count in
    let all : All HoldsLegalDesk w.desks = new_legal c w new in
    let last = desks_by_history w events history r all p first.0 first.1 in
    record {
      desk = last.desk;
      there = last.there;
      is = announced c first.0 last.desk (recorded_at p history) (entries_at p (calls_of history)) (entries_of_run p history)
          (stays_at p (calls_of history) (stays_of_run w events history r))
          (at_place (IsNewDesk c) w.desks p first.0 new.desks first.1) last.is
          (at_place HoldsLegalDesk (worlds_after w history).desks p last.desk (desks_stay_legal w events history r all) last.there);
    }
