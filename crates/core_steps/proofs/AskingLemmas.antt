-- The reply of a desk, from what the code did.
use Rattle.std.proofs.Common.{◌≡◌, ℕ, ◌<◌, ◌≤◌, List, ◌++◌, length, get_or, refl, sym, subst}
use Rattle.std.specs.Prelude.{Option, None, Some, slice_get, slice_set, if◌then◌else◌}
use Rattle.std.proofs.lemmas.List.{set-get_or}
use Rattle.std.proofs.lemmas.Option.{get_or_from_slice_get, slice_get-get_or, slice_get_past}
use Rattle.bounding_set.specs.State.{announced_of}
use Rattle.desk.specs.declared.call.Call.{Call as DeskCall}
use Rattle.desk.specs.declared.call.Answer.{Answer}
use Rattle.desk.specs.declared.effect.Effect.{Effect}
use Rattle.desk.specs.Effect.{IsEffect}
use Rattle.desk.specs.State.{DeskState, HoldsLegalDesk, Records, IsOverLimit}
use Rattle.desk_calls.specs.declared.notification.Notification.{Notification}
use Rattle.events.specs.declared.output.Out.{Out}
use Rattle.core_steps.specs.Asking.{desk_after, desks_after, Replied, HasReply, IsNobody, Asked}
use Rattle.desk_calls.specs.declared.calls.Question.{Question}
use Rattle.desk_calls.specs.Notification.{told_of, pending_with, tells, Pending}
use Rattle.core_steps.specs.Happening.{RecordedCall}
use Rattle.core_steps.specs.Rule.{Replies, refusals, unrecorded_out}

-- what the ingress asks a publisher's desk: for no leg
abbrev pub asking_of : ℕ → DeskCall → Question
asking_of p call = record { publisher = p; asked_by = None; call = call }

-- the recorded call with these parts
abbrev pub recorded_call : ℕ → DeskCall → ℕ → Answer → Effect → DeskState → RecordedCall
recorded_call p call number answer effect desk = record { publisher = p; call = call; number = number; answer = answer; effect = effect; desk = desk }

pub replied : (q : Question) (d new : DeskState) (number : ℕ) (answer : Answer) (effect : Effect)
    (n : Notification) (pending : Option Pending) (outs all : List Out)
    → Records d q.call number answer new → IsEffect (announced_of d.bounds) (announced_of new.bounds) effect → HoldsLegalDesk new
    → n ≡ told_of q.publisher q.asked_by answer
    → pending ≡ (if tells n effect then Some (pending_with effect n) else None)
    → all ≡ outs ++ refusals answer
    → Replied q d new pending outs all
replied q d new number answer effect n pending outs all records is_effect legal same waits given =
    let P : Notification → Type 0 = λ m. pending ≡ (if tells m effect then Some (pending_with effect m) else None) in
    let told = subst P same waits in
    record {
      reply = Some (recorded_call q.publisher q.call number answer effect new);
      replies = record { publisher = refl; names = refl; records = records; effect = is_effect; legal = legal };
      desk = refl;
      waits = told;
      given = given;
    }

pub unrecorded : (q : Question) (d new : DeskState) (pending : Option Pending) (outs all : List Out)
    → IsOverLimit d q.call → new ≡ d → pending ≡ None → all ≡ outs ++ unrecorded_out
    → Replied q d new pending outs all
unrecorded q d new pending outs all over same waits given =
    record { reply = None; replies = over; desk = same; waits = waits; given = given }

-- the desks, once the one of the publisher replied
replaced : (p : ℕ) (call : DeskCall) (d new : DeskState) (desks : List DeskState) (reply : Option RecordedCall)
    → slice_get desks p ≡ Some d → Replies p d call reply → new ≡ desk_after d reply → slice_set desks p new ≡ desks_after desks reply
replaced p call d new desks None at replies is =
    let here : get_or desks p d ≡ d = get_or_from_slice_get desks p d d at in
    let P : DeskState → Type 0 = λ x. slice_set desks p x ≡ desks in
    subst P (sym is) (subst P here (set-get_or desks p d))
replaced p call d new desks (Some a) at replies is =
    let P : DeskState → Type 0 = λ x. slice_set desks p x ≡ slice_set desks a.publisher a.desk in
    let Q : ℕ → Type 0 = λ k. slice_set desks k a.desk ≡ slice_set desks a.publisher a.desk in
    subst P (sym is) (subst Q replies.publisher refl)

pub replied_among : (q : Question) (d new : DeskState) (desks : List DeskState) (pending : Option Pending) (outs all : List Out)
    → slice_get desks q.publisher ≡ Some d → Replied q d new pending outs all
    → Asked q (slice_get desks q.publisher) desks (slice_set desks q.publisher new) pending outs all
replied_among q d new desks pending outs all at r =
    let P : Option DeskState → Type 0 = λ o. Asked q o desks (slice_set desks q.publisher new) pending outs all in
    let reply : HasReply q d desks (slice_set desks q.publisher new) pending outs all =
    record { reply = r.reply; replies = r.replies; becomes = replaced q.publisher q.call d new desks r.reply at r.replies r.desk; waits = r.waits; given = r.given } in
    subst P (sym at) reply

pub nobody_asked : (q : Question) (desks : List DeskState) (pending : Option Pending) (outs : List Out)
    → slice_get desks q.publisher ≡ None → pending ≡ None → Asked q (slice_get desks q.publisher) desks desks pending outs outs
nobody_asked q desks pending outs at waits =
    let P : Option DeskState → Type 0 = λ o. Asked q o desks desks pending outs outs in
    let nobody : IsNobody desks desks pending outs outs = record { becomes = refl; waits = waits; given = refl } in
    subst P (sym at) nobody

pub asked_there : (q : Question) (k : ℕ) (d new : DeskState) (desks : List DeskState) (pending : Option Pending) (outs all : List Out)
    → k ≡ q.publisher → k < length desks → Replied q (get_or desks k d) new pending outs all
    → Asked q (slice_get desks q.publisher) desks (slice_set desks k new) pending outs all
asked_there q k d new desks pending outs all same within r =
    let here = get_or desks k d in
    let P : ℕ → Type 0 = λ i. Asked q (slice_get desks q.publisher) desks (slice_set desks i new) pending outs all in
    let Q : ℕ → Type 0 = λ i. slice_get desks i ≡ Some here in
    subst P (sym same) (replied_among q here new desks pending outs all (subst Q same (slice_get-get_or desks k d within)) r)

pub asked_nowhere : (q : Question) (k : ℕ) (desks : List DeskState) (pending : Option Pending) (outs : List Out)
    → k ≡ q.publisher → length desks ≤ k → pending ≡ None → Asked q (slice_get desks q.publisher) desks desks pending outs outs
asked_nowhere q k desks pending outs same past waits =
    let Q : ℕ → Type 0 = λ i. slice_get desks i ≡ None in
    nobody_asked q desks pending outs (subst Q same (slice_get_past desks k past)) waits
