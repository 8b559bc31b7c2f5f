-- What the ingress takes in, as a happening: a moment, an RTP packet, RTCP packets.
use Rattle.std.proofs.Common.{◌≡◌, ◌∙◌, ◌==◌, ℕ, ◌^◌, ◌<◌, List, [], ◌∷◌, ◌++◌, length, map, Bool, false, Result, Ok, Err, refl, sym, ap, ap₂, subst}
use Rattle.std.proofs.lemmas.List.{append-nil, append_assoc}
use Rattle.std.specs.Prelude.{Option, None, Some, OnOk, filter, if◌then◌else◌}
use Rattle.std.specs.List.{last_or, filter_map, flat_map}
use Rattle.std.specs.Option.{option_map_or}
use Rattle.settings.specs.declared.fault.RoomFault.{RoomFault}
use Rattle.members.specs.declared.order.Order.{Order}
use Rattle.members.specs.Room.{RoomState, Step, Answers, bye_step, hear_step, select_step, tick_step, after_packet}
use Rattle.members.specs.Calls.{Call as RoomCall, Bye, Hear, Receive, Select, Report as SenderReport, room_after, room_of}
use Rattle.tmmbr_tuple.specs.declared.ssrc.Ssrc.{Ssrc}
use Rattle.core_steps.specs.declared.ticking.Due.TheVariants as due
use Rattle.datagram.specs.declared.reading.Ask.{Ask}
use Rattle.datagram.specs.declared.reading.Control.{Control as ControlParts}
use Rattle.datagram.specs.declared.reading.Media.{Media as MediaParts}
use Rattle.datagram.specs.declared.reading.What.{What}
use Rattle.datagram.specs.declared.reading.What.TheVariants.{Media, Goodbye, Control, Refused as RefusedBy}
use Rattle.events.specs.declared.job.Job.TheVariants.{Packet}
use Rattle.events.specs.declared.output.Out.{Out}
use Rattle.events.specs.declared.output.Out.TheVariants.{Refused}
use Rattle.events.specs.declared.output.Refusal.{Refusal}
use Rattle.core_steps.specs.declared.rounds.Round.{Round}
use Rattle.core_steps.specs.declared.reporting.Slots.{Slots}
use Rattle.core_steps.specs.declared.tasks.FollowUp.{FollowUp}
use Rattle.desk_calls.specs.DeskCalls.{source_of}
use Rattle.core_steps.specs.FollowUps.{AddsTasks, room_with_report, tasks_due}
use Rattle.core_steps.specs.Happening.{giving, capped_count}
use Rattle.datagram.specs.Reads.{Admission, HasBytes, IsSaidIn, WasRead, what_of, asks_of}
use Rattle.datagram.proofs.PacketLemmas.{media_said}
use Rattle.core_steps.specs.Hearing.{IsHearing, SaysTaken, hearing, hearing_by, selecting, selecting_by, ticking, numbers_below, is_served_by, refusal_for, task_after, task_for, tasks_after, reports, expires, present_endpoints, reports_due, round_after, slots_by, refusals_of, jobs_of, receptions}
use Rattle.datagram.specs.Saying.{Said, media, leaves, control, Says}
use Rattle.core_steps.specs.Machine.{task_of}
use Rattle.core_steps.specs.Rounds.{comes_between, round_with}
use Rattle.core_steps.specs.Rule.{is_busy}
use Rattle.core_steps.specs.Run.{Leaves}
use Rattle.core_steps.specs.World.{WorldState, Task, order, push, pulse}
use Rattle.core_steps.proofs.HearingLemmas.{accepted, idle, took, taken_in, ticks, uncounted}

-- ---- a moment

abbrev pub ticked_by : WorldState → RoomState → List Order → List Task
ticked_by w r orders =
    map order orders ++ filter_map (task_after w.setup r) orders ++ map pulse (present_endpoints w.setup.table r) ++ expires w.setup r
    ++ reports w r

-- what follows from a moment, as the ingress puts it into its list
pub record FollowsTick (w : WorldState) (r : RoomState) (orders : List Order) (n : ℕ) (slots : Slots) (f0 f1 f2 f3 : List FollowUp) : Type 0 where
  pub first : (bits : List ℕ) → map (task_of bits) f0 ≡ filter_map (task_after w.setup r) orders
  pub count : n ≡ length w.setup.table.endpoints
  pub done : slots.done ≡ w.round.done
  pub come : slots.come ≡ slots_by w r
  pub pulses : AddsTasks f0 f1 (λ bits. tasks_due due.Pulse r n)
  pub expiring : AddsTasks f1 f2 (λ bits. if w.setup.request_ms == 0 then [] else tasks_due due.Expire r n)
  pub reporting : AddsTasks f2 f3 (λ bits. reports_due w.setup.table r (comes_between w.setup slots.done slots.come) n)

follows_tick : (w : WorldState) (r : RoomState) (n : ℕ) (slots : Slots) (f0 f1 f2 f3 : List FollowUp) (bits : List ℕ) (orders : List Order)
    → FollowsTick w r orders n slots f0 f1 f2 f3 → map order orders ++ map (task_of bits) f3 ≡ ticked_by w r orders
follows_tick w r n slots f0 f1 f2 f3 bits orders f =
    let t = w.setup.table in
    let T : List Task = filter_map (task_after w.setup r) orders in
    let E : ℕ → List Task = λ k. if w.setup.request_ms == 0 then [] else tasks_due due.Expire r k in
    let R : ℕ → ℕ → ℕ → List Task = λ k done come. reports_due t r (comes_between w.setup done come) k in
    let pulses : List Task = map pulse (present_endpoints t r) in
    let all : map (task_of bits) f3 ≡ (T ++ pulses ++ expires w.setup r) ++ reports w r =
    f.reporting bits
    ∙ ap (λ (l : List Task). l ++ R n slots.done slots.come)
    (f.expiring bits
    ∙ ap (λ (l : List Task). l ++ E n) (f.pulses bits ∙ ap (λ (l : List Task). l ++ tasks_due due.Pulse r n) (f.first bits)))
    ∙ ap (λ (k : ℕ). (T ++ tasks_due due.Pulse r k ++ E k) ++ R k slots.done slots.come) f.count
    ∙ ap₂ (λ (done come : ℕ). (T ++ pulses ++ expires w.setup r) ++ R (length t.endpoints) done come) f.done f.come in
    ap (λ (l : List Task). map order orders ++ l) all
    ∙ sym (append_assoc (map order orders) (T ++ pulses ++ expires w.setup r) (reports w r))
    ∙ ap (λ (l : List Task). l ++ reports w r)
    (sym (append_assoc (map order orders) (T ++ pulses) (expires w.setup r))
    ∙ ap (λ (l : List Task). l ++ expires w.setup r) (sym (append_assoc (map order orders) T pulses)))

pub ticks_so : (w : WorldState) (moment : ℕ) (outs : List Out) (room : RoomState) (before after : List Order) (n : ℕ) (slots : Slots)
    (f0 f1 f2 f3 : List FollowUp) (bits : List ℕ) (tasks : List Task) (round : Round) → is_busy w ≡ false → w.lost < 2 ^ 64
    → w.tmmbns < 2 ^ 64 → before ≡ [] → room ≡ (tick_step w.room moment).room → after ≡ before ++ (tick_step w.room moment).orders
    → FollowsTick w room after n slots f0 f1 f2 f3 → tasks ≡ map order after ++ map (task_of bits) f3
    → round ≡ round_with w.setup room.moment w.round slots.come
    → Leaves (λ h. h ≡ ticking w moment) w outs (taken_in w room tasks round w.tmmbns) outs
ticks_so w moment outs room before after n slots f0 f1 f2 f3 bits tasks round h lost tmmbns eb er eo f et eq =
    let s = tick_step w.room moment in
    let orders : after ≡ s.orders = eo ∙ ap (λ (l : List Order). l ++ s.orders) eb in
    let here : tasks ≡ ticked_by w s.room s.orders =
    et ∙ follows_tick w room n slots f0 f1 f2 f3 bits after f ∙ ap₂ (λ (r : RoomState) (o : List Order). ticked_by w r o) er orders in
    let then_at : round ≡ round_after w s.room =
    eq ∙ ap (λ (k : ℕ). round_with w.setup room.moment w.round k) f.come ∙ ap (λ (r : RoomState). round_after w r) er in
    ticks w moment outs room tasks round h lost tmmbns er here then_at

-- ---- what follows from the orders

first_follows : (w : WorldState) (s : Step) (bits : List ℕ) (room : RoomState) (after : List Order) (f0 f1 : List FollowUp)
    → room ≡ s.room → after ≡ s.orders → f0 ≡ [] → AddsTasks f0 f1 (λ bytes. filter_map (task_after w.setup room) after)
    → map (task_of bits) f1 ≡ tasks_after w.setup s
first_follows w s bits room after f0 f1 er orders e0 e1 =
    e1 bits ∙ ap (λ (l : List FollowUp). map (task_of bits) l ++ filter_map (task_after w.setup room) after) e0
    ∙ ap₂ (λ (r : RoomState) (o : List Order). filter_map (task_after w.setup r) o) er orders

-- ---- an RTP packet

pub medias : (w : WorldState) (moment endpoint : ℕ) (bytes bits : List ℕ) (ssrc seq timestamp octets n : ℕ) (outs all : List Out) (before after : List Order)
    (room room' : RoomState) (f0 f1 f2 : List FollowUp) (tasks : List Task) → all ≡ outs → is_busy w ≡ false → w.lost < 2 ^ 64 → w.tmmbns < 2 ^ 64
    → Answers w.room before (hear_step w.room moment endpoint ssrc) (Ok tt) room after → before ≡ [] → bits ≡ bytes
    → n ≡ w.setup.table.workers → f0 ≡ [] → AddsTasks f0 f1 (λ bytes. filter_map (task_after w.setup room) after)
    → AddsTasks f1 f2 (λ bytes. map (λ k. push k (Packet endpoint bytes)) (filter (is_served_by w.setup.table room endpoint) (numbers_below n)))
    → room' ≡ after_packet room endpoint seq timestamp → tasks ≡ map order after ++ map (task_of bits) f2
    → Leaves (λ h. h ≡ hearing w moment endpoint bytes (Ok (media ssrc seq timestamp octets))) w outs
    (taken_in w room' tasks w.round w.tmmbns) all
medias w moment endpoint bytes bits ssrc seq timestamp octets n outs all before after room room' f0 f1 f2 tasks ea h lost tmmbns a eb ed en e0 e1 e2 er' et =
    let (s, is, er, eo) = accepted w.room before (hear_step w.room moment endpoint ssrc) room after a in
    let said : Said = media ssrc seq timestamp octets in
    let t = w.setup.table in
    let orders : after ≡ s.orders = eo ∙ ap (λ (l : List Order). l ++ s.orders) eb in
    let calls = Hear moment endpoint ssrc ∷ (Receive endpoint seq timestamp ∷ []) in
    let here : room' ≡ room_after w.room calls =
    er' ∙ ap (λ (r : RoomState). after_packet r endpoint seq timestamp) er
    ∙ ap (λ (x : Result Step RoomFault). room_after (room_of w.room x) (Receive endpoint seq timestamp ∷ [])) (sym is) in
    let packets : List ℕ → ℕ → List Task = λ d k. map (λ worker. push worker (Packet endpoint d)) (filter (is_served_by t room endpoint) (numbers_below k)) in
    let jobs : packets bits n ≡ jobs_of t s.room endpoint bytes said =
    ap₂ packets ed en ∙ ap (λ (r : RoomState). jobs_of t r endpoint bytes said) er in
    let all_made : map (task_of bits) f2 ≡ tasks_after w.setup s ++ jobs_of t s.room endpoint bytes said =
    e2 bits ∙ ap₂ (λ (x y : List Task). x ++ y) (first_follows w s bits room after f0 f1 er orders e0 e1) jobs in
    let made : tasks ≡ map order s.orders ++ (tasks_after w.setup s ++ jobs_of t s.room endpoint bytes said) =
    et ∙ ap₂ (λ (o : List Order) (l : List Task). map order o ++ l) orders all_made in
    record {
      happening = hearing_by w moment endpoint bytes said (Ok s);
      allowed = ap (hearing_by w moment endpoint bytes said) (sym is);
      leads = took w [] calls (map order s.orders ++ (tasks_after w.setup s ++ jobs_of t s.room endpoint bytes said)) w.round 0 room' tasks w.tmmbns h lost here made
          (uncounted w.tmmbns tmmbns);
      given = ea ∙ sym (append-nil outs);
    }

-- ---- RTCP packets

noted_is : (r : RoomState) (endpoint : ℕ) (o : Option (ℕ × ℕ))
    → room_with_report r endpoint o ≡ room_after r (option_map_or (λ (p : ℕ × ℕ). SenderReport endpoint p.0 p.1 ∷ []) o [])
noted_is r endpoint None = refl
noted_is r endpoint (Some p) = refl

pub controls : (w : WorldState) (moment endpoint : ℕ) (bytes bits : List ℕ) (speaker : ℕ) (reports : List (ℕ × ℕ)) (tmmbns : ℕ) (asks asks' : List Ask)
    (outs all : List Out) (before after : List Order) (room room' : RoomState) (f0 f1 f2 : List FollowUp) (tasks : List Task) (count : ℕ)
    (noting : Option (ℕ × ℕ)) → is_busy w ≡ false → w.lost < 2 ^ 64
    → Answers w.room before (hear_step w.room moment endpoint speaker) (Ok tt) room after → before ≡ [] → noting ≡ last_or None reports
    → asks' ≡ asks → f0 ≡ [] → AddsTasks f0 f1 (λ bytes. filter_map (task_after w.setup room) after)
    → AddsTasks f1 f2 (λ bytes. filter_map (task_for w.setup.table room endpoint) asks')
    → all ≡ outs ++ flat_map (λ a. refusal_for (task_for w.setup.table room endpoint a)) asks'
    → room' ≡ room_with_report room endpoint noting → tasks ≡ map order after ++ map (task_of bits) f2 → count ≡ capped_count w.tmmbns tmmbns
    → Leaves (λ h. h ≡ hearing w moment endpoint bytes (Ok (control speaker reports tmmbns asks))) w outs
    (taken_in w room' tasks w.round count) all
controls w moment endpoint bytes bits speaker reports tmmbns asks asks' outs all before after room room' f0 f1 f2 tasks count noting h lost a eb en ea e0 e1 e2 eout er' et ec =
    let (s, is, er, eo) = accepted w.room before (hear_step w.room moment endpoint speaker) room after a in
    let said : Said = control speaker reports tmmbns asks in
    let t = w.setup.table in
    let orders : after ≡ s.orders = eo ∙ ap (λ (l : List Order). l ++ s.orders) eb in
    let notes : List RoomCall = receptions endpoint said in
    let calls = Hear moment endpoint speaker ∷ notes in
    let here : room' ≡ room_after w.room calls =
    er' ∙ ap₂ (λ (r : RoomState) (o : Option (ℕ × ℕ)). room_with_report r endpoint o) er en ∙ noted_is s.room endpoint (last_or None reports)
    ∙ ap (λ (x : Result Step RoomFault). room_after (room_of w.room x) notes) (sym is) in
    let jobs : filter_map (task_for t room endpoint) asks' ≡ jobs_of t s.room endpoint bytes said =
    ap₂ (λ (r : RoomState) (k : List Ask). filter_map (task_for t r endpoint) k) er ea in
    let all_made : map (task_of bits) f2 ≡ tasks_after w.setup s ++ jobs_of t s.room endpoint bytes said =
    e2 bits ∙ ap₂ (λ (x y : List Task). x ++ y) (first_follows w s bits room after f0 f1 er orders e0 e1) jobs in
    let made : tasks ≡ map order s.orders ++ (tasks_after w.setup s ++ jobs_of t s.room endpoint bytes said) =
    et ∙ ap₂ (λ (o : List Order) (l : List Task). map order o ++ l) orders all_made in
    let told : all ≡ outs ++ refusals_of t s.room endpoint said =
    eout ∙ ap₂ (λ (r : RoomState) (k : List Ask). outs ++ flat_map (λ (x : Ask). refusal_for (task_for t r endpoint x)) k) er ea in
    record {
      happening = hearing_by w moment endpoint bytes said (Ok s);
      allowed = ap (hearing_by w moment endpoint bytes said) (sym is);
      leads = took w (refusals_of t s.room endpoint said) calls (map order s.orders ++ (tasks_after w.setup s ++ jobs_of t s.room endpoint bytes said)) w.round tmmbns
          room' tasks count h lost here made ec;
      given = told;
    }

-- ---- a goodbye

pub goodbyes : (w : WorldState) (moment endpoint : ℕ) (bytes bits : List ℕ) (outs all : List Out) (before after : List Order) (room : RoomState)
    (f0 f1 : List FollowUp) (tasks : List Task) → all ≡ outs → is_busy w ≡ false → w.lost < 2 ^ 64 → w.tmmbns < 2 ^ 64
    → Answers w.room before (bye_step w.room moment endpoint) (Ok tt) room after → before ≡ [] → f0 ≡ []
    → AddsTasks f0 f1 (λ bytes. filter_map (task_after w.setup room) after) → tasks ≡ map order after ++ map (task_of bits) f1
    → Leaves (λ h. h ≡ hearing w moment endpoint bytes (Ok leaves)) w outs (taken_in w room tasks w.round w.tmmbns) all
goodbyes w moment endpoint bytes bits outs all before after room f0 f1 tasks ea h lost tmmbns a eb e0 e1 et =
    let (s, is, er, eo) = accepted w.room before (bye_step w.room moment endpoint) room after a in
    let orders : after ≡ s.orders = eo ∙ ap (λ (l : List Order). l ++ s.orders) eb in
    let calls = Bye moment endpoint ∷ [] in
    let here : room ≡ room_after w.room calls = er ∙ ap (λ (x : Result Step RoomFault). room_of w.room x) (sym is) in
    let all_made : map (task_of bits) f1 ≡ tasks_after w.setup s ++ [] =
    first_follows w s bits room after f0 f1 er orders e0 e1 ∙ sym (append-nil (tasks_after w.setup s)) in
    let made : tasks ≡ map order s.orders ++ (tasks_after w.setup s ++ []) =
    et ∙ ap₂ (λ (o : List Order) (l : List Task). map order o ++ l) orders all_made in
    record {
      happening = hearing_by w moment endpoint bytes leaves (Ok s);
      allowed = ap (hearing_by w moment endpoint bytes leaves) (sym is);
      leads = took w [] calls (map order s.orders ++ (tasks_after w.setup s ++ [])) w.round 0 room tasks w.tmmbns h lost here made
          (uncounted w.tmmbns tmmbns);
      given = ea ∙ sym (append-nil outs);
    }

-- ---- a selection

pub selects : (w : WorldState) (moment leg : ℕ) (on : Bool) (bits : List ℕ) (outs all : List Out) (before after : List Order) (room : RoomState)
    (f0 f1 : List FollowUp) (tasks : List Task) → all ≡ outs → is_busy w ≡ false → w.lost < 2 ^ 64 → w.tmmbns < 2 ^ 64
    → Answers w.room before (select_step w.room moment leg on) (Ok tt) room after → before ≡ [] → f0 ≡ []
    → AddsTasks f0 f1 (λ bytes. filter_map (task_after w.setup room) after) → tasks ≡ map order after ++ map (task_of bits) f1
    → Leaves (λ h. h ≡ selecting w moment leg on) w outs (taken_in w room tasks w.round w.tmmbns) all
selects w moment leg on bits outs all before after room f0 f1 tasks ea h lost tmmbns a eb e0 e1 et =
    let (s, is, er, eo) = accepted w.room before (select_step w.room moment leg on) room after a in
    let orders : after ≡ s.orders = eo ∙ ap (λ (l : List Order). l ++ s.orders) eb in
    let calls = Select moment leg on ∷ [] in
    let here : room ≡ room_after w.room calls = er ∙ ap (λ (x : Result Step RoomFault). room_of w.room x) (sym is) in
    let made : tasks ≡ map order s.orders ++ tasks_after w.setup s =
    et ∙ ap₂ (λ (o : List Order) (l : List Task). map order o ++ l) orders (first_follows w s bits room after f0 f1 er orders e0 e1) in
    record {
      happening = selecting_by w moment leg on (Ok s);
      allowed = ap (selecting_by w moment leg on) (sym is);
      leads = took w [] calls (map order s.orders ++ tasks_after w.setup s) w.round 0 room tasks w.tmmbns h lost here made
          (uncounted w.tmmbns tmmbns);
      given = ea ∙ sym (append-nil outs);
    }

-- ---- a datagram

pub is_hearing : (w : WorldState) (moment endpoint : ℕ) (bytes : List ℕ) (said : Result Said Refusal) (outs all : List Out) (new : WorldState)
    → Says (source_of w.setup.table endpoint).0 bytes said → Leaves (λ h. h ≡ hearing w moment endpoint bytes said) w outs new all
    → Leaves (IsHearing w moment endpoint bytes) w outs new all
is_hearing w moment endpoint bytes said outs all new says l =
    record {
      happening = l.happening;
      allowed = record { said = said; says = says; does = l.allowed };
      leads = l.leads;
      given = l.given;
    }

leaves_said : (said : Said) → Goodbye ≡ what_of said → said ≡ leaves
leaves_said (media s q p n) e = absurd (cc)
leaves_said leaves e = refl
leaves_said (control speaker reports tmmbns asks) e = absurd (cc)

control_said : (c : ControlParts) (said : Said) → Control c ≡ what_of said
    → (reports : List (ℕ × ℕ)) × (c.report ≡ last_or None reports) × (said ≡ control c.speaker.0 reports c.tmmbns (asks_of said))
control_said c (media s q p n) e = absurd (cc)
control_said c leaves e = absurd (cc)
control_said c (control speaker reports tmmbns asks) e =
    let parts : c ≡ record { speaker = record { 0 = speaker }; report = last_or None reports; tmmbns = tmmbns } = cc in
    let es : speaker ≡ c.speaker.0 = sym (ap (λ (x : ControlParts). x.speaker.0) parts) in
    let et : tmmbns ≡ c.tmmbns = sym (ap (λ (x : ControlParts). x.tmmbns) parts) in
    (reports, ap (λ (x : ControlParts). x.report) parts, ap₂ (λ (x y : ℕ). control x reports y asks) es et)

says_same : (own : ℕ) (bytes : List ℕ) (a b : Said) → a ≡ b → Says own bytes (Ok a) → Says own bytes (Ok b)
says_same own bytes a b e h = subst (λ (x : Said). Says own bytes (Ok x)) e h

-- what is taken in, of which it is known what it is
taken_as : (w : WorldState) (t : Admission) (what : What) (bytes : List ℕ) → t.what ≡ what → SaysTaken w t bytes
    → IsSaidIn (source_of w.setup.table t.endpoint).0 bytes (record { what = what; asks = t.asks }) × HasBytes what t.bytes bytes
taken_as w t what bytes e h =
    let own = (source_of w.setup.table t.endpoint).0 in
    subst (λ (x : What). IsSaidIn own bytes (record { what = x; asks = t.asks }) × HasBytes x t.bytes bytes) e h

pub takes_media : {E : Type 0} (r : Result (Unit {0}) E) (w : WorldState) (moment : ℕ) (t : Admission) (m : MediaParts) (bytes : List ℕ)
    (outs all : List Out) (new : WorldState) → t.what ≡ Media m → SaysTaken w t bytes
    → OnOk r (Leaves (λ h. h ≡ hearing w moment t.endpoint t.bytes
    (Ok (media m.ssrc.0 m.parts.sequence_number m.timestamp m.parts.octets))) w outs new all)
    → OnOk r (Leaves (IsHearing w moment t.endpoint bytes) w outs new all)
takes_media (Err e) w moment t m bytes outs all new is h l = l
takes_media (Ok u) w moment t m bytes outs all new is h l =
    let own = (source_of w.setup.table t.endpoint).0 in
    let said : Said = media m.ssrc.0 m.parts.sequence_number m.timestamp m.parts.octets in
    let (reads, same) = taken_as w t (Media m) bytes is h in
    let (it, says, what, more) = reads in
    is_hearing w moment t.endpoint bytes (Ok said) outs all new (says_same own bytes it said (media_said m it what) says)
    (subst (λ (b : List ℕ). Leaves (λ h. h ≡ hearing w moment t.endpoint b (Ok said)) w outs new all) (sym same) l)

pub takes_goodbye : {E : Type 0} (r : Result (Unit {0}) E) (w : WorldState) (moment : ℕ) (t : Admission) (bytes : List ℕ) (outs all : List Out)
    (new : WorldState) → t.what ≡ Goodbye → SaysTaken w t bytes
    → OnOk r (Leaves (λ h. h ≡ hearing w moment t.endpoint bytes (Ok leaves)) w outs new all)
    → OnOk r (Leaves (IsHearing w moment t.endpoint bytes) w outs new all)
takes_goodbye (Err e) w moment t bytes outs all new is h l = l
takes_goodbye (Ok u) w moment t bytes outs all new is h l =
    let own = (source_of w.setup.table t.endpoint).0 in
    let (it, says, what, more) = (taken_as w t Goodbye bytes is h).0 in
    is_hearing w moment t.endpoint bytes (Ok leaves) outs all new (says_same own bytes it leaves (leaves_said it what) says) l

pub takes_control : {E : Type 0} (r : Result (Unit {0}) E) (w : WorldState) (moment : ℕ) (t : Admission) (c : ControlParts) (bytes : List ℕ)
    (outs all : List Out) (new : WorldState) → t.what ≡ Control c → SaysTaken w t bytes
    → ((reports : List (ℕ × ℕ)) → c.report ≡ last_or None reports
    → OnOk r (Leaves (λ h. h ≡ hearing w moment t.endpoint bytes (Ok (control c.speaker.0 reports c.tmmbns t.asks))) w outs new all))
    → OnOk r (Leaves (IsHearing w moment t.endpoint bytes) w outs new all)
takes_control (Err e) w moment t c bytes outs all new is h l = tt
takes_control (Ok u) w moment t c bytes outs all new is h l =
    let own = (source_of w.setup.table t.endpoint).0 in
    let (it, says, what, more) = (taken_as w t (Control c) bytes is h).0 in
    let (told, et, e) = control_said c it what in
    let said : Said = control c.speaker.0 told c.tmmbns t.asks in
    let e' : it ≡ said = e ∙ ap (λ (x : List Ask). control c.speaker.0 told c.tmmbns x) (sym more) in
    is_hearing w moment t.endpoint bytes (Ok said) outs all new (says_same own bytes it said e' says) (l told et)

pub takes_refusal : (w : WorldState) (moment : ℕ) (t : Admission) (refusal : Refusal) (bytes : List ℕ) (outs all : List Out) → is_busy w ≡ false
    → w.lost < 2 ^ 64 → w.tmmbns < 2 ^ 64 → t.what ≡ RefusedBy refusal → SaysTaken w t bytes → all ≡ outs ++ Refused refusal ∷ []
    → Leaves (IsHearing w moment t.endpoint bytes) w outs w all
takes_refusal w moment t refusal bytes outs all idles lost tmmbns is h given =
    is_hearing w moment t.endpoint bytes (Err refusal) outs all w ((taken_as w t (RefusedBy refusal) bytes is h).0.0)
    record {
      happening = giving w (Refused refusal ∷ []);
      allowed = refl;
      leads = took w (Refused refusal ∷ []) [] [] w.round 0 w.room w.tasks w.tmmbns idles lost refl (idle w idles) (uncounted w.tmmbns tmmbns);
      given = given;
    }

-- ---- what was read

has_own_bytes : (what : What) (bytes : List ℕ) → HasBytes what bytes bytes
has_own_bytes (Media m) bytes = refl
has_own_bytes Goodbye bytes = tt
has_own_bytes (Control c) bytes = tt
has_own_bytes (RefusedBy refusal) bytes = tt

-- the datagram that was read says what is taken in of it
pub read_says : (w : WorldState) (own : Ssrc) (endpoint : ℕ) (bytes : List ℕ) (r : WasRead) (t : Admission) → own ≡ source_of w.setup.table endpoint
    → IsSaidIn own.0 bytes r → t ≡ record { endpoint = endpoint; what = r.what; asks = r.asks; bytes = bytes } → SaysTaken w t bytes
read_says w own endpoint bytes r t eo reads et =
    subst (λ (x : Admission). SaysTaken w x bytes) (sym et)
    (subst (λ (o : Ssrc). IsSaidIn o.0 bytes r) eo reads, has_own_bytes r.what bytes)
