-- What a desk owes to a call, by what the calls before it come to.
use Rattle.std.specs.Prelude.{◌≡◌, ℕ, List, Option, None, Some}
use Rattle.desk.specs.declared.call.Call.{Call}
use Rattle.desk.specs.declared.call.Answer.{Answer}
use Rattle.desk.specs.declared.call.Answer.TheVariants.{Done}
use Rattle.desk.specs.declared.base.Base.{Base}
use Rattle.desk.specs.Presence.{live_requests, refusal_of}
use Rattle.desk.specs.Trace.{goes_up, present_behind}
use Rattle.desk.specs.Kept.{KeepsRows}

-- done: whether a PLI is sent upstream, and which of the live requests after the call are announced
pub record IsDone (gap request_ms : ℕ) (before : Base) (call : Call)
    (answer : Answer) : Type 0 where
  pub kept : List ℕ
  pub is : answer ≡ Done (goes_up gap before call) kept
  pub keeps : KeepsRows (live_requests (present_behind request_ms before call)) kept

abbrev pub IsAnswerOr : ℕ → ℕ → Base → Call → Option Answer → Answer → Type 0
IsAnswerOr gap request_ms before call None answer = IsDone gap request_ms before call answer
IsAnswerOr gap request_ms before call (Some refusal) answer = answer ≡ refusal

-- the answer that the calls before it owe to a call: the refusal of
-- least number that applies, or done
abbrev pub IsAnswerTo : ℕ → ℕ → Base → Call → Answer → Type 0
IsAnswerTo gap request_ms before call answer =
    IsAnswerOr gap request_ms before call (refusal_of before.present.items call) answer
