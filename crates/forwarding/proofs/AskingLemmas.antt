-- What comes of asking a desk.
use Rattle.std.proofs.Common.{◌≡◌, ℕ, ◌≤◌, inl, inr, option_map, List, [], ◌++◌, length, refl, ap, subst, ◌∙◌}
use Rattle.std.proofs.lemmas.Bool.{cases_Bool, cond-false, cond-true}
use Rattle.std.proofs.lemmas.Option.{same_Some}
use Rattle.std.proofs.lemmas.Result.{MatchResult-weaker}
use Rattle.std.specs.Prelude.{Bool, false, ◌||◌, nat_lt, flat_map, IfSome, Option, None, Some, Result, Ok, MatchResult, if◌then◌else◌}
use Rattle.members.specs.declared.order.Row.{Row}
use Rattle.tmmbr_tuple.specs.declared.ssrc.Ssrc.{Ssrc}
use Rattle.desk.specs.declared.effect.Effect.{Effect}
use Rattle.rate_desk.specs.declared.receipt.Receipt.{Receipt}
use Rattle.rate_desk.specs.declared.receipt.HouseFault.{HouseFault}
use Rattle.desk.specs.State.{DeskState}
use Rattle.rate_desk.specs.Shares.{HoldState, IsLastCall, SeatState, Counts, IsReceiptOf, IsFaultOf, IsTold}
use Rattle.events.specs.declared.job.Job.{Job}
use Rattle.desk_calls.specs.declared.notification.Notification.{Notification}
use Rattle.events.specs.declared.output.Out.{Out}
use Rattle.desk_calls.specs.declared.calls.Question.{Question}
use Rattle.desk_calls.specs.Notification.{told_of, pending_of, pending_with, tells, is_changed, notification_datagrams, requests_upstream, requests_bytes, to_publisher, notices_to_others, notice_to, others_of, picture_upstream, Pending}
use Rattle.announcement.specs.Entries.{entries_of}
use Rattle.desk_calls.specs.Head.{Identity}
use Rattle.settings.specs.Links.{LinkTable}
use Rattle.forwarding.specs.declared.done.Forwarded.{Forwarded}
use Rattle.forwarding.specs.declared.done.ForwardFault.{ForwardFault}
use Rattle.forwarding.specs.Asking.{IsAsked, nowhere, unrecorded, IsOfLastCall, IsTelling, GivesUp, Notifies, QuestionOf, Feeds, Asking, Telling, Terms, picture_of}
use Rattle.forwarding.specs.Forwarding.{NotifierState, ForwarderState}
use Rattle.forwarding.specs.Sending.{Sends, nothing_done}

pub asked_nowhere : (gap request_ms publishers : ℕ) (q : Question) (seat : SeatState) → publishers ≤ q.publisher
    → IsAsked gap request_ms publishers q seat seat None
asked_nowhere gap request_ms publishers q seat beyond =
    record { reply = None; is = nowhere beyond; counted = refl; waits = refl }

pub asked_unrecorded : (gap request_ms publishers : ℕ) (q : Question) (seat later : SeatState) (fault : HouseFault)
    → IsFaultOf gap request_ms q.publisher q.call seat fault → later ≡ seat
    → IsAsked gap request_ms publishers q seat later None
asked_unrecorded gap request_ms publishers q seat later fault is same =
    record { reply = None; is = unrecorded fault is; counted = same; waits = refl }

pub asked_recorded : (gap request_ms publishers : ℕ) (q : Question) (seat later : SeatState) (receipt : Receipt) (effect : Effect)
    (pending : Option Pending) → IsReceiptOf q.publisher q.call seat receipt → IsTold gap request_ms receipt effect
    → Counts q.publisher q.call seat later
    → pending ≡ pending_of q.publisher q.asked_by receipt.answer effect
    → IsAsked gap request_ms publishers q seat later pending
asked_recorded gap request_ms publishers q seat later receipt effect pending is told counts waits =
    record { reply = Some (record { receipt = receipt; effect = effect }); is = record { receipt = is; told = told }; counted = counts; waits = waits }

-- what waits is what was to be told
is_waiting : (e : Effect) (n m : Notification)
    → option_map (pending_with e) (Some n) ≡ (if tells m e then Some (pending_with e m) else None)
    → pending_with e n ≡ pending_with e m
is_waiting e n m same =
    let P : Option Pending = Some (pending_with e m) in
    elim (cases_Bool (tells m e)) [
      | inl told ↦ same_Some (pending_with e n) (pending_with e m) (same ∙ cond-true (tells m e) P None told)
      | inr quiet ↦ absurd (nothing (same ∙ cond-false (tells m e) P None quiet))
    ]
  where
    nothing : Some (pending_with e n) ≡ None → ⊥
    nothing s = cc

waits_of_last : (hold : HoldState) (receipt : Receipt) (former : DeskState) (asked_by : Option ℕ) (e : Effect) (n m : Notification)
    → IsLastCall receipt e former hold.desk → m ≡ told_of hold.publisher asked_by receipt.answer
    → option_map (pending_with e) (Some n) ≡ (if tells m e then Some (pending_with e m) else None)
    → IsOfLastCall hold (pending_with e n)
waits_of_last hold receipt former asked_by e n m last told same =
    record {
      receipt = receipt;
      former = former;
      asked_by = asked_by;
      last = last;
      notification = ap (λ (p : Pending). p.notification) (is_waiting e n m same) ∙ told;
    }

pub told_of_last : (hold : HoldState) (receipt : Receipt) (former : DeskState) (asked_by : Option ℕ) (e : Effect) (waits : Option Notification)
    (m : Notification) → IsLastCall receipt e former hold.desk → m ≡ told_of hold.publisher asked_by receipt.answer
    → option_map (pending_with e) waits ≡ (if tells m e then Some (pending_with e m) else None)
    → IfSome waits (λ n. IsOfLastCall hold (pending_with e n))
told_of_last hold receipt former asked_by e None m last told same = tt
told_of_last hold receipt former asked_by e (Some n) m last told same = waits_of_last hold receipt former asked_by e n m last told same

-- ---- what is told

pub notified_all : (t : Terms) (n : NotifierState) (q : Question) (a : Asking) (result : Result Forwarded ForwardFault) (p : Pending)
    → IsAsked t.gap t.request_ms t.publishers q a.seat a.later (Some p) → IsTelling t.legs n p a.telling result
    → Notifies t n (Some q) a result
notified_all t n q a result p asked told = record { pending = Some p; asked = asked; told = told }

pub notified_nobody : (t : Terms) (n : NotifierState) (q : Question) (a : Asking) (result : Result Forwarded ForwardFault)
    → IsAsked t.gap t.request_ms t.publishers q a.seat a.later None → result ≡ Ok nothing_done
    → a.telling.next.rows ≡ a.telling.former → a.telling.after ≡ a.telling.before → Notifies t n (Some q) a result
notified_nobody t n q a result asked nothing rows same =
    record { pending = None; asked = asked; told = (nothing, rows, same) }

pub nothing_asked : (t : Terms) (f : ForwarderState) (job : Job) (a : Asking) (result : Result Forwarded ForwardFault)
    → QuestionOf f job None → a.later ≡ a.seat → result ≡ Ok nothing_done → a.telling.next.rows ≡ a.telling.former
    → a.telling.after ≡ a.telling.before → Feeds t f job a result
nothing_asked t f job a result names unasked nothing rows same =
    record {
      question = None;
      names = names;
      notifies = record { pending = None; asked = (unasked, refl); told = (nothing, rows, same) };
    }

pub something_asked : (t : Terms) (f : ForwarderState) (job : Job) (a : Asking) (result : Result Forwarded ForwardFault) (q : Question)
    → QuestionOf f job (Some q) → Notifies t f.notifier (Some q) a result → Feeds t f job a result
something_asked t f job a result q names notifies = record { question = Some q; names = names; notifies = notifies }

-- if nothing changed, a picture that is wanted is all that is told
pub picture_only : (t : LinkTable) (u : Identity) (rows : List Row) (publisher : ℕ) (e : Effect) → e.lifted.items ≡ [] → e.fresh.items ≡ []
    → notification_datagrams t u rows (picture_of publisher) e ≡ picture_upstream t u (picture_of publisher)
picture_only t u rows publisher e lifted fresh =
    let n : Notification = picture_of publisher in
    let quiet : is_changed e ≡ false =
    ap (λ (a : List Ssrc). nat_lt 0 (length a) || nat_lt 0 (length e.fresh.items)) lifted
    ∙ ap (λ b. nat_lt 0 (length b)) fresh in
    let none : requests_upstream t u n e ≡ [] =
    ap (λ (b : Bool). if b then to_publisher t u n.publisher (λ source. requests_bytes source e) else []) quiet in
    let others : notices_to_others t u rows n e ≡ [] =
    ap (λ (b : Bool). if b then flat_map (notice_to t u (entries_of e.set.items)) (others_of t rows n) else []) quiet in
    ap (λ (outs : List Out). outs ++ (notices_to_others t u rows n e ++ picture_upstream t u n)) none
    ∙ ap (λ (outs : List Out). outs ++ picture_upstream t u n) others

-- the same is what was told, or given up
pub picture_told : (legs : ℕ) (n : NotifierState) (publisher : ℕ) (e : Effect) (learnt : List Row) (t : Telling)
    (result : Result Forwarded ForwardFault) → e.lifted.items ≡ [] → e.fresh.items ≡ [] → learnt ≡ t.former
    → IsTelling legs n (pending_with e (picture_of publisher)) (record t { former = learnt }) result
    → MatchResult result (Sends (picture_upstream n.table n.unit (picture_of publisher)) t.before t.after) (GivesUp legs t)
picture_told legs n publisher e learnt t result lifted fresh rows told =
    MatchResult-weaker result told
    (λ done both.
    subst (λ (outs : List Out). Sends outs t.before t.after done) (picture_only n.table n.unit t.next.rows publisher e lifted fresh) both.1)
    (λ fault gives. subst (λ (l : List Row). GivesUp legs (record t { former = l }) fault) rows gives)
