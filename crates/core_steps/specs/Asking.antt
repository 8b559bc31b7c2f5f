-- What is left of the reply of a desk.
use Rattle.std.specs.Prelude.{◌≡◌, ℕ, List, ◌++◌, Option, None, Some}
use Rattle.desk.specs.State.{DeskState}
use Rattle.events.specs.declared.output.Out.{Out}
use Rattle.desk_calls.specs.declared.calls.Question.{Question}
use Rattle.desk_calls.specs.Notification.{Pending, pending_of}
use Rattle.core_steps.specs.Happening.{RecordedCall, desks_by}
use Rattle.core_steps.specs.Rule.{Replies, refusals, unrecorded_out}

abbrev pub desk_after : DeskState → Option RecordedCall → DeskState
desk_after d None = d
desk_after d (Some a) = a.desk

abbrev pub desks_after : List DeskState → Option RecordedCall → List DeskState
desks_after desks None = desks
desks_after desks (Some a) = desks_by desks a

abbrev pub pending_after : Option ℕ → Option RecordedCall → Option Pending
pending_after leg None = None
pending_after leg (Some a) = pending_of a.publisher leg a.answer a.effect

abbrev pub refusals_after : Option RecordedCall → List Out
refusals_after None = unrecorded_out
refusals_after (Some a) = refusals a.answer

-- the desk that was asked this replied: what it is from then on, what waits, and what was given out behind what was there
pub record Replied (q : Question) (d new : DeskState) (pending : Option Pending)
    (outs all : List Out) : Type 0 where
  pub reply : Option RecordedCall
  pub replies : Replies q.publisher d q.call reply
  pub desk : new ≡ desk_after d reply
  pub waits : pending ≡ pending_after q.asked_by reply
  pub given : all ≡ outs ++ refusals_after reply

-- the desk of a publisher was asked among these, where it is there
pub record HasReply (q : Question) (d : DeskState) (desks new : List DeskState)
    (pending : Option Pending) (outs all : List Out) : Type 0 where
  pub reply : Option RecordedCall
  pub replies : Replies q.publisher d q.call reply
  pub becomes : new ≡ desks_after desks reply
  pub waits : pending ≡ pending_after q.asked_by reply
  pub given : all ≡ outs ++ refusals_after reply

-- nobody was asked
pub record IsNobody (desks new : List DeskState) (pending : Option Pending)
    (outs all : List Out) : Type 0 where
  pub becomes : new ≡ desks
  pub waits : pending ≡ None
  pub given : all ≡ outs

abbrev pub Asked : Question → Option DeskState → List DeskState → List DeskState → Option Pending
    → List Out → List Out → Type 0
Asked q None desks new pending outs all = IsNobody desks new pending outs all
Asked q (Some d) desks new pending outs all = HasReply q d desks new pending outs all
