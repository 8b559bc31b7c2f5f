-- A stay whose depart was done: its leg's subscriber isn't present with it any more.
use Rattle.std.proofs.Common.{◌≡◌, ◌<◌, ◌≤◌, ℕ, List, [], ◌∷◌, ◌++◌, length, Bool, true, false, Option, None, Some, refl, ap, sym, ◌∙◌, subst, append_assoc, arith}
use Rattle.std.specs.Prelude.{All, fold, slice_get, slice_set, option_map, ◌==◌, if◌then◌else◌}
use Rattle.std.specs.List.{flat_map}
use Rattle.std.proofs.lemmas.Bool.Decides.{nat_tests}
use Rattle.std.proofs.lemmas.Grind.{flat_map-append}
use Rattle.std.proofs.lemmas.Option.{same_Some, slice_get_within}
use Rattle.std.proofs.lemmas.List.{length-set}
use Rattle.circular_buffer.proofs.Places.{slice_get-some, slice_get-set_same}
use Rattle.tmmbr_tuple.specs.declared.ssrc.Ssrc.{Ssrc}
use Rattle.members.specs.declared.order.Order.{Order}
use Rattle.members.specs.declared.order.Order.TheVariants.{Arrive, Depart, Route}
use Rattle.settings.specs.declared.settings.LegSettings.{LegSettings}
use Rattle.members.specs.Calls.{Call as RoomCall, orders_after, arrival_of, arrivals}
use Rattle.members.specs.Room.{RoomState, new_room}
use Rattle.settings.specs.Settings.{Configuration}
use Rattle.desk.specs.declared.call.Call.{Call as DeskCall}
use Rattle.desk.specs.declared.call.Call.TheVariants.{Stay, Time}
use Rattle.desk.specs.declared.call.Change.{Change}
use Rattle.desk.specs.declared.call.Change.TheVariants as change
use Rattle.desk.specs.declared.call.Signal.TheVariants as signal
use Rattle.desk.specs.State.{DeskState, HoldsLegalDesk}
use Rattle.events.specs.declared.event.Event.{Event}
use Rattle.events.specs.declared.job.Job.{Job}
use Rattle.events.specs.declared.job.Job.TheVariants.{Packet, Request, Resend, Pli, Report, Goodbye}
use Rattle.desk_calls.specs.DeskCalls.{source_of, stay_call, picture_call}
use Rattle.core_steps.specs.Happening.{Happening, RecordedCall, world_after, desks_by}
use Rattle.settings.specs.Links.{LinkTable, table_of}
use Rattle.core_steps.specs.Opening.{IsNewWorld, setup_by}
use Rattle.core_steps.specs.Rule.{Does, Replies}
use Rattle.core_steps.specs.Run.{Runs, worlds_after}
use Rattle.core_steps.specs.Traces.{HasLeft, of_desk, recorded_in, recorded_at}
use Rattle.core_steps.specs.World.{Setup, WorldState, Task, order, push, pulse, expire, report}
use Rattle.core_steps.proofs.CauseLemmas.{AsksDeskOf, AsksThere, AskedByJob, Causes, asked_by_task, finished_in, orders_in, orders_in-append, recorded_of}
use Rattle.core_steps.proofs.HistoryLemmas.{runs_join, tasks_in_order, legal_by, desks_stay_legal}
use Rattle.core_steps.proofs.KindLemmas.{IsKind, kind_of}
use Rattle.core_steps.proofs.OrderLemmas.{IsNotIn, not_in_left, not_in_right, EndsLast, ends_rest, ends_last, orders_after-append}
use Rattle.core_steps.proofs.TraceLemmas.{at_place, recorded-one, desks_by_history, new_legal}
use Rattle.core_steps.proofs.AwayLemmas.{IsNoArrive, HasNoArrive, no_arrive-append, desk_stays_away, away_over, away_recorded}

-- ---- whom no task asks to take the stay in

-- this desk is asked by this call
abbrev asked_to : ℕ → DeskCall → Option (ℕ × DeskCall)
asked_to p call = Some (p, call)

abbrev asked_of : ℕ → Change → LinkTable → LegSettings → ℕ × DeskCall
asked_of stay ch t l = (l.publisher, Stay (source_of t l.subscriber) stay ch)

-- what is asked about a leg's stay is asked in this stay
stay_call_is : (t : LinkTable) (leg stay : ℕ) (ch : Change) (p : ℕ) (call : DeskCall) → asked_to p call ≡ stay_call t leg stay ch
    → (o : Ssrc) × (call ≡ Stay o stay ch)
stay_call_is t leg stay ch p call e = step (stay == 0) (slice_get t.legs leg) e
  where
    step : (b : Bool) (l : Option LegSettings)
        → asked_to p call ≡ (if b then None else option_map (asked_of stay ch t) l)
        → (o : Ssrc) × (call ≡ Stay o stay ch)
    step true l is = absurd (cc)
    step false None is = absurd (cc)
    step false (Some l) is =
        (source_of t l.subscriber, ap (λ (x : ℕ × DeskCall). x.1) (same_Some (p, call) (asked_of stay ch t l) is))

picture_call_is : (t : LinkTable) (leg moment : ℕ) (p : ℕ) (call : DeskCall) → asked_to p call ≡ picture_call t leg moment
    → call ≡ Time moment signal.Pli
picture_call_is t leg moment p call e = step (slice_get t.legs leg) e
  where
    step : (l : Option LegSettings) → asked_to p call ≡ option_map (λ (x : LegSettings). (x.publisher, Time moment signal.Pli)) l
        → call ≡ Time moment signal.Pli
    step None is = absurd (cc)
    step (Some l) is = ap (λ (x : ℕ × DeskCall). x.1) (same_Some (p, call) (l.publisher, Time moment signal.Pli) is)

no_arrive_of : (n : ℕ) (call other : DeskCall) → call ≡ other → IsNoArrive n other → IsNoArrive n call
no_arrive_of n call other e h = subst (IsNoArrive n) (sym e) h

task_no_arrive : (w : WorldState) (n : ℕ) (t : Task) (p : ℕ) (call : DeskCall) → asked_to p call ≡ asked_by_task w t
    → IsNotIn n (arrivals (orders_in (t ∷ []))) → IsNoArrive n call
task_no_arrive w n (order (Arrive leg stay)) p call e none =
    let is = stay_call_is w.setup.table leg stay change.Arrive p call e in no_arrive_of n call _ is.1 none.0
task_no_arrive w n (order (Depart leg stay)) p call e none =
    let is = stay_call_is w.setup.table leg stay change.Depart p call e in no_arrive_of n call _ is.1 tt
task_no_arrive w n (order (Route leg stay turn on)) p call e none = absurd (cc)
task_no_arrive w n (push k job) p call e none = absurd (cc)
task_no_arrive w n (pulse q) p call e none = no_arrive_of n call _ (ap (λ (x : ℕ × DeskCall). x.1) (same_Some _ _ e)) tt
task_no_arrive w n (expire q) p call e none = no_arrive_of n call _ (ap (λ (x : ℕ × DeskCall). x.1) (same_Some _ _ e)) tt
task_no_arrive w n (report q) p call e none = absurd (cc)

job_no_arrive : (w : WorldState) (n : ℕ) (j : Job) (p : ℕ) (call : DeskCall) → AskedByJob w j (Some (p, call)) → IsNoArrive n call
job_no_arrive w n (Packet publisher bytes) p call e = absurd (cc)
job_no_arrive w n (Resend leg stay nack) p call e = absurd (cc)
job_no_arrive w n (Report leg stay sr) p call e = absurd (cc)
job_no_arrive w n (Goodbye leg) p call e = absurd (cc)
job_no_arrive w n (Request leg stay word) p call e =
    let is = stay_call_is w.setup.table leg stay (change.Request e.0) p call e.2 in no_arrive_of n call _ is.1 tt
job_no_arrive w n (Pli leg moment) p call e = no_arrive_of n call _ (picture_call_is w.setup.table leg moment p call e) tt

cause_no_arrive : (w : WorldState) (n : ℕ) (ts : List Task) (js : List Job) (p : ℕ) (call : DeskCall) → Causes w ts js (Some (p, call))
    → IsNotIn n (arrivals (orders_in ts)) → IsNoArrive n call
cause_no_arrive w n [] [] p call e none = absurd (cc)
cause_no_arrive w n [] (j ∷ []) p call e none = job_no_arrive w n j p call e
cause_no_arrive w n [] (j ∷ (i ∷ js)) p call e none = absurd e
cause_no_arrive w n (t ∷ []) [] p call e none = task_no_arrive w n t p call e none
cause_no_arrive w n (t ∷ []) (j ∷ js) p call e none = absurd e
cause_no_arrive w n (t ∷ (u ∷ ts)) js p call e none = absurd e

-- of calls that aren't arrives with the stay, those of one desk aren't either
of_desk-no_arrive : (n p : ℕ) (asked : List RecordedCall) → HasNoArrive n asked → HasNoArrive n (flat_map (of_desk p) asked)
of_desk-no_arrive n p [] none = tt
of_desk-no_arrive n p (a ∷ asked) none =
    no_arrive-append n (of_desk p a) (flat_map (of_desk p) asked) (step (a.publisher == p)) (of_desk-no_arrive n p asked none.1)
  where
    step : (b : Bool) → HasNoArrive n (if b then a ∷ [] else [])
    step true = (none.0, tt)
    step false = tt

asked_no_arrive : (w : WorldState) (n : ℕ) (h : Happening) → IsKind w h → IsNotIn n (arrivals (orders_in h.did)) → HasNoArrive n h.asked
asked_no_arrive w n h k none = step k.asks.who k.asks.cause k.asks.asks
  where
    nobody : h.asked ≡ [] → HasNoArrive n h.asked
    nobody is = subst (HasNoArrive n) (sym is) tt

    there : (p : ℕ) (call : DeskCall) (d : Option DeskState) → IsNoArrive n call → AsksThere p call d h → HasNoArrive n h.asked
    there p call None other r = nobody r.asked
    there p call (Some d) other r = by_reply r.reply r.replies r.asked
      where
        by_reply : (reply : Option RecordedCall) → Replies p d call reply → h.asked ≡ recorded_of reply → HasNoArrive n h.asked
        by_reply None over is = nobody is
        by_reply (Some a) done is = subst (HasNoArrive n) (sym is) (no_arrive_of n a.call call done.names other, tt)

    step : (who : Option (ℕ × DeskCall)) → Causes w h.did (finished_in h) who → AsksDeskOf w who h → HasNoArrive n h.asked
    step None c r = nobody r.asked
    step (Some (p, call)) c r =
        there p call (slice_get w.desks p) (cause_no_arrive w n h.did (finished_in h) p call c none) r

arrivals-orders : (xs ys : List Task) → arrivals (orders_in (xs ++ ys)) ≡ arrivals (orders_in xs) ++ arrivals (orders_in ys)
arrivals-orders xs ys = ap arrivals (orders_in-append xs ys) ∙ flat_map-append arrival_of (orders_in xs) (orders_in ys)

run_no_arrive : (n p : ℕ) (w : WorldState) (events : List Event) (history : List Happening) → Runs w events history
    → IsNotIn n (arrivals (orders_in (flat_map (λ (h : Happening). h.did) history))) → HasNoArrive n (recorded_at p history)
run_no_arrive n p w [] [] r none = tt
run_no_arrive n p w [] (h ∷ history) r none = absurd r
run_no_arrive n p w (e ∷ events) [] r none = absurd r
run_no_arrive n p w (e ∷ events) (h ∷ history) r none =
    let rest : List Task = flat_map (λ (x : Happening). x.did) history in
    let all : IsNotIn n (arrivals (orders_in h.did) ++ arrivals (orders_in rest)) = subst (IsNotIn n) (arrivals-orders h.did rest) none in
    no_arrive-append n (recorded_in p h) (recorded_at p history)
    (of_desk-no_arrive n p h.asked (asked_no_arrive w n h (kind_of w e h r.0) (not_in_left n (arrivals (orders_in h.did)) (arrivals (orders_in rest)) all)))
    (run_no_arrive n p (world_after w h) events history r.1 (not_in_right n (arrivals (orders_in h.did)) (arrivals (orders_in rest)) all))

-- ---- the orders of a run

orders_by_history : (w : WorldState) (events : List Event) (history : List Happening) → Runs w events history
    → orders_in (flat_map (λ (h : Happening). h.made) history) ≡ orders_after w.room (flat_map (λ (h : Happening). h.calls) history)
orders_by_history w [] [] r = refl
orders_by_history w [] (h ∷ history) r = absurd r
orders_by_history w (e ∷ events) [] r = absurd r
orders_by_history w (e ∷ events) (h ∷ history) r =
    let made : List Task = flat_map (λ (x : Happening). x.made) history in
    let calls : List RoomCall = flat_map (λ (x : Happening). x.calls) history in
    orders_in-append h.made made
    ∙ ap (λ (os : List Order). os ++ orders_in made) (kind_of w e h r.0).orders
    ∙ ap (λ (os : List Order). orders_after w.room h.calls ++ os) (orders_by_history (world_after w h) events history r.1)
    ∙ sym (orders_after-append w.room h.calls calls)

-- from a new world, no stay begins by a task that is done after the one that ends it
new_ends_last : (c : Configuration) (w : WorldState) (events : List Event) (history : List Happening) → IsNewWorld c w
    → Runs w events history
    → EndsLast (orders_in (flat_map (λ (h : Happening). h.did) history) ++ orders_in (worlds_after w history).tasks)
new_ends_last c w events history new r =
    let did : List Task = flat_map (λ (h : Happening). h.did) history in
    let made : List Task = flat_map (λ (h : Happening). h.made) history in
    let calls : List RoomCall = flat_map (λ (h : Happening). h.calls) history in
    let is : orders_in did ++ orders_in (worlds_after w history).tasks ≡ orders_after (new_room c) calls =
    sym (orders_in-append did (worlds_after w history).tasks)
    ∙ ap orders_in (tasks_in_order w events history r ∙ ap (λ (ts : List Task). ts ++ made) new.tasks)
    ∙ orders_by_history w events history r
    ∙ ap (λ (x : RoomState). orders_after x calls) new.room in
    subst EndsLast (sym is) (ends_last c calls)

-- no task of these stays arrives after the event that does the depart
no_return : (c : Configuration) (w : WorldState) (events later : List Event) (past next : List Happening) (e : Event) (h : Happening)
    (leg stay : ℕ) → IsNewWorld c w → Runs w events past → Does (worlds_after w past) e h → h.did ≡ order (Depart leg stay) ∷ []
    → Runs (world_after (worlds_after w past) h) later next
    → IsNotIn stay (arrivals (orders_in (flat_map (λ (x : Happening). x.did) next)))
no_return c w events later past next e h leg stay new r does did s =
    let all : List Happening = past ++ h ∷ next in
    let whole : Runs w (events ++ e ∷ later) all = runs_join w events (e ∷ later) past (h ∷ next) r (does, s) in
    let before : List Task = flat_map (λ (x : Happening). x.did) past in
    let behind : List Task = flat_map (λ (x : Happening). x.did) next in
    let waits : List Order = orders_in (worlds_after w all).tasks in
    let is : orders_in (flat_map (λ (x : Happening). x.did) all) ++ waits ≡ orders_in before ++ (Depart leg stay ∷ (orders_in behind ++ waits)) =
    ap (λ (ts : List Task). orders_in ts ++ waits)
    (flat_map-append (λ (x : Happening). x.did) past (h ∷ next) ∙ ap (λ (ts : List Task). before ++ (ts ++ behind)) did)
    ∙ ap (λ (os : List Order). os ++ waits) (orders_in-append before (order (Depart leg stay) ∷ behind))
    ∙ append_assoc (orders_in before) (Depart leg stay ∷ orders_in behind) waits in
    let last : EndsLast (Depart leg stay ∷ (orders_in behind ++ waits)) =
    ends_rest (orders_in before) (Depart leg stay ∷ (orders_in behind ++ waits))
    (subst EndsLast is (new_ends_last c w (events ++ e ∷ later) all new whole)) in
    not_in_left stay (arrivals (orders_in behind)) (arrivals waits)
    (subst (IsNotIn stay) (flat_map-append arrival_of (orders_in behind) waits) last.0)

-- ---- the event that does the depart

setup_stays : (w : WorldState) (history : List Happening) → (worlds_after w history).setup ≡ w.setup
setup_stays w [] = refl
setup_stays w (h ∷ history) = setup_stays (world_after w h) history

only_task : (w : WorldState) (t : Task) (js : List Job) (who : Option (ℕ × DeskCall)) → Causes w (t ∷ []) js who → who ≡ asked_by_task w t
only_task w t [] who c = c
only_task w t (j ∷ js) who c = absurd c

depart_asks : (t : LinkTable) (leg stay : ℕ) (l : LegSettings) → 1 ≤ stay → slice_get t.legs leg ≡ Some l
    → stay_call t leg stay change.Depart ≡ asked_to l.publisher (Stay (source_of t l.subscriber) stay change.Depart)
depart_asks t leg stay l some f = step (stay == 0) refl
  where
    step : (b : Bool) → (stay == 0) ≡ b
        → (if b then None else option_map (asked_of stay change.Depart t) (slice_get t.legs leg))
        ≡ asked_to l.publisher (Stay (source_of t l.subscriber) stay change.Depart)
    step true e = absurd (let none : stay ≡ 0 = grind (arith, nat_tests, e) in omega (arith, none, some))
    step false e = ap (option_map (asked_of stay change.Depart t)) f

-- the desk of the publisher after the event
left_by : (w : WorldState) (h : Happening) (p : ℕ) (o : Ssrc) (stay : ℕ) (d : DeskState) → 1 ≤ stay → All HoldsLegalDesk w.desks
    → AsksThere p (Stay o stay change.Depart) (slice_get w.desks p) h → slice_get (world_after w h).desks p ≡ Some d → HasLeft o.0 stay d
left_by w h p o stay d some all r f = step (slice_get w.desks p) refl r
  where
    same : h.asked ≡ [] → slice_get w.desks p ≡ Some d
    same is = subst (λ (xs : List RecordedCall). slice_get (fold desks_by w.desks xs) p ≡ Some d) is f

    replied : (x : DeskState) (reply : Option RecordedCall) → slice_get w.desks p ≡ Some x → Replies p x (Stay o stay change.Depart) reply
        → h.asked ≡ recorded_of reply → HasLeft o.0 stay d
    replied x None g over is =
        let one : x ≡ d = same_Some x d (sym g ∙ same is) in
        subst (HasLeft o.0 stay) one (away_over x o stay some (at_place HoldsLegalDesk w.desks p x all g) over)
    replied x (Some a) g done is =
        let legal : HoldsLegalDesk x = at_place HoldsLegalDesk w.desks p x all g in
        let now : slice_get (slice_set w.desks a.publisher a.desk) p ≡ Some d =
        subst (λ (xs : List RecordedCall). slice_get (fold desks_by w.desks xs) p ≡ Some d) is f in
        let set : slice_get (slice_set w.desks p a.desk) p ≡ Some d =
        subst (λ (k : ℕ). slice_get (slice_set w.desks k a.desk) p ≡ Some d) done.publisher now in
        let one : a.desk ≡ d =
        same_Some a.desk d (sym (slice_get-set_same w.desks p a.desk (slice_get_within w.desks p x g)) ∙ set) in
        subst (HasLeft o.0 stay) one
        (away_recorded p x o stay a a.desk some done (recorded-one x (Stay o stay change.Depart) a p legal done))

    step : (x : Option DeskState) → slice_get w.desks p ≡ x → AsksThere p (Stay o stay change.Depart) x h → HasLeft o.0 stay d
    step None g r = absurd (let gone : slice_get w.desks p ≡ Some d = same r.asked in cc)
    step (Some x) g r = replied x r.reply g r.replies r.asked

departed : (w : WorldState) (e : Event) (h : Happening) (leg stay : ℕ) (l : LegSettings) (d : DeskState) → All HoldsLegalDesk w.desks
    → Does w e h → h.did ≡ order (Depart leg stay) ∷ [] → 1 ≤ stay → slice_get w.setup.table.legs leg ≡ Some l
    → slice_get (world_after w h).desks l.publisher ≡ Some d → HasLeft (source_of w.setup.table l.subscriber).0 stay d
departed w e h leg stay l d all does did some f g =
    let k : IsKind w h = kind_of w e h does in
    let o : Ssrc = source_of w.setup.table l.subscriber in
    let who : k.asks.who ≡ asked_to l.publisher (Stay o stay change.Depart) =
    only_task w (order (Depart leg stay)) (finished_in h) k.asks.who
    (subst (λ (ts : List Task). Causes w ts (finished_in h) k.asks.who) did k.asks.cause)
    ∙ depart_asks w.setup.table leg stay l some f in
    left_by w h l.publisher o stay d some all (subst (λ (x : Option (ℕ × DeskCall)). AsksDeskOf w x h) who k.asks.asks) g

-- ---- then and later

length-fold : (desks : List DeskState) (asked : List RecordedCall) → length (fold desks_by desks asked) ≡ length desks
length-fold desks [] = refl
length-fold desks (a ∷ asked) = length-fold (desks_by desks a) asked ∙ length-set desks a.publisher a.desk

pub length-desks : (w : WorldState) (history : List Happening) → length (worlds_after w history).desks ≡ length w.desks
length-desks w [] = refl
length-desks w (h ∷ history) = length-desks (world_after w h) history ∙ length-fold w.desks h.asked

pub ended_stays_stay_ended : (c : Configuration) (w : WorldState) (events later : List Event) (past next : List Happening)
    (e : Event) (h : Happening) (leg stay : ℕ) (l : LegSettings) (d : DeskState)
    → IsNewWorld c w → Runs w events past → Does (worlds_after w past) e h → h.did ≡ order (Depart leg stay) ∷ []
    → Runs (world_after (worlds_after w past) h) later next
    → 1 ≤ stay → slice_get c.legs leg ≡ Some l
    → slice_get (worlds_after (world_after (worlds_after w past) h) next).desks l.publisher ≡ Some d
    → HasLeft (source_of (table_of c) l.subscriber).0 stay d
ended_stays_stay_ended c w events later past next e h leg stay l d new r does did s some f g =
    let then_world : WorldState = worlds_after w past in
    let after : WorldState = world_after then_world h in
    let setup : then_world.setup ≡ setup_by c = setup_stays w past ∙ new.setup in
    let all : All HoldsLegalDesk then_world.desks = desks_stay_legal w events past r (new_legal c w new) in
    let all_after : All HoldsLegalDesk after.desks = legal_by then_world.desks h.asked all (kind_of then_world e h does).asked in
    let owner : Ssrc = source_of (table_of c) l.subscriber in
    let count : l.publisher < length after.desks =
    omega (arith, slice_get_within (worlds_after after next).desks l.publisher d g, length-desks after next) in
    let here = slice_get-some after.desks l.publisher count in
    let left : HasLeft owner.0 stay here.0 =
    subst (λ (x : Setup). HasLeft (source_of x.table l.subscriber).0 stay here.0) setup
    (departed then_world e h leg stay l here.0 all does did some
    (subst (λ (x : Setup). slice_get x.table.legs leg ≡ Some l) (sym setup) f) here.1) in
    let last = desks_by_history after later next s all_after l.publisher here.0 here.1 in
    let one : last.desk ≡ d = same_Some last.desk d (sym last.there ∙ g) in
    subst (HasLeft owner.0 stay) one
    (desk_stays_away here.0 last.desk (recorded_at l.publisher next) owner.0 stay some last.is
    (run_no_arrive stay l.publisher after later next s (no_return c w events later past next e h leg stay new r does did s)) left)
