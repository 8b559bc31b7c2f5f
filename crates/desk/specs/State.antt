-- What a contract sees of a `Desk`.
use Rattle.std.specs.Prelude.{◌≡◌, ◌≢◌, ℕ, ◌+◌, ◌<◌, ◌≤◌, ◌↔◌, ◌⊎◌, true, false, is_some, List, ◌∷◌, ◌++◌, [], length, All, AllPairs, Result, IsErr, IfOk, OnErr}
use Rattle.bounding_set.specs.State.{State, AnnouncesSmallest, announced_of}
use Rattle.bounding_set.specs.Rows.{HasRisingOwners}
use Rattle.desk.specs.declared.call.Call.{Call}
use Rattle.desk.specs.declared.call.Answer.{Answer}
use Rattle.desk.specs.declared.call.Entry.{Entry}
use Rattle.desk.specs.declared.base.Base.{Base}
use Rattle.desk.specs.declared.base.TheConstants.{CALL_LIMIT}
use Rattle.desk.specs.declared.desk.TheConstants.{HISTORY_LIMIT}
use Rattle.desk.specs.declared.desk.HistoryFull.{HistoryFull}
use Rattle.desk.specs.declared.desk.Reply.{Reply}
use Rattle.desk.specs.Call.{HasStay, may_change}
use Rattle.desk.specs.Effect.{IsEffect}
use Rattle.desk.specs.Presence.{live_requests, refusal_of}
use Rattle.desk.specs.Trace.{IsBase, base_after, present_with}
use Rattle.desk.specs.History.{IsLegalHistory, StandsForEntries}

-- the gap between PLIs, and the age at which a request is too old, 0 for never; what the calls that aren't listed come to, and the
-- listed ones; and the live requests with what is announced for them
pub record DeskState : Type 0 where
  pub gap : ℕ
  pub request_ms : ℕ
  pub base : Base
  pub history : List Entry
  pub bounds : State

-- what all calls come to
abbrev pub now_of : DeskState → Base
now_of d = base_after d.request_ms d.base d.history

-- the calls of its life
abbrev pub call_count : DeskState → ℕ
call_count d = d.base.calls + length d.history

-- A call isn't recorded where the calls, with it, and the owners that are then present would be more than the limit: so each
-- that is present can still depart.
abbrev pub IsOverLimit : DeskState → Call → Type 0
IsOverLimit d call =
    CALL_LIMIT < call_count d + 1 + length (present_with d.request_ms (now_of d) call)

-- The history is a legal one behind the base; its rows are what the trace leaves live, and what is announced is their canonical
-- choice: the smallest that permits what they together permit, with its certificate.
pub record HoldsLegalDesk (d : DeskState) : Type 0 where
  pub base : IsBase d.base
  pub legal : IsLegalHistory d.gap d.request_ms d.base d.history
  pub stays : All (λ e. HasStay e.call) d.history
  pub listed : length d.history ≤ HISTORY_LIMIT
  pub within : call_count d + length (now_of d).present.items ≤ CALL_LIMIT
  pub live : d.bounds.rows ≡ live_requests (now_of d).present.items
  pub rising : HasRisingOwners d.bounds.rows
  pub announced : AnnouncesSmallest d.bounds
  pub once : AllPairs (λ x y. x.owner.0 ≢ y.owner.0) (announced_of d.bounds)

-- The call is numbered by how many came before it. Base and history stand for the former ones and the call with its answer.
pub record Records (old : DeskState) (call : Call) (number : ℕ) (answer : Answer)
    (new : DeskState) : Type 0 where
  pub numbered : number ≡ call_count old
  pub stands : StandsForEntries old.request_ms old.base
      (old.history ++ record { call = call; answer = answer } ∷ []) new.base new.history
  pub gap : new.gap ≡ old.gap
  pub request_ms : new.request_ms ≡ old.request_ms

-- A desk is called. `HistoryFull` comes exactly if the call is over the limit, and leaves the desk as it was. Else the call is recorded
-- with its answer, and the effect is what it changed in the announced set (RFC 5104, sections 3.5.4.2 and 4.2.2). The desk is a legal
-- one after either.
pub record CallsDesk (old : DeskState) (call : Call) (new : DeskState)
    (result : Result Reply HistoryFull) : Type 0 where
  pub full : IsErr result ↔ IsOverLimit old call
  pub unchanged : OnErr result (new ≡ old)
  pub recorded : IfOk result (λ r. Records old call r.number r.answer new)
  pub effect : IfOk result (λ r. IsEffect (announced_of old.bounds) (announced_of new.bounds)
      r.effect)
  pub legal : HoldsLegalDesk new

-- the call changes no request: by its kind, or since it is refused
abbrev pub IsQuietCall : DeskState → Call → Type 0
IsQuietCall d call =
    (may_change call ≡ false) ⊎ (is_some (refusal_of (now_of d).present.items call) ≡ true)
