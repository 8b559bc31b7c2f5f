-- What a call does with live requests that stand from call to call.
use Rattle.std.specs.Prelude.{◌≡◌, ◌≢◌, ◌↔◌, ◌⊎◌, ℕ, List, length, map, take, All, Option, None, Some, IsNone}
use Rattle.rate_cert.specs.declared.request.Request.{Request}
use Rattle.bounding_set.specs.declared.rows.TheConstants.{LIVE_LIMIT}
use Rattle.bounding_set.specs.Rows.{Puts, tuple_of}
use Rattle.bounding_set.specs.State.{State, announced_of}
use Rattle.tmmbr_c.specs.declared.faults.TheConstants.{DONE, REQUEST_RANGE, FULL, NOT_LIVE}
use Rattle.tmmbr_c.specs.declared.numbers.TmmbrRequest.{TmmbrRequest}
use Rattle.tmmbr_c.specs.declared.numbers.TmmbrChange.{TmmbrChange}
use Rattle.tmmbr_c.specs.declared.numbers.TmmbrLive.{TmmbrLive}
use Rattle.tmmbr_c.specs.Numbers.{IsRequestInRange, asked_request}
use Rattle.tmmbr_c.specs.Answer.{KeepsRest}

-- the state was open, and it is; what it held and what it holds are in this relation
pub record OnHeld (P : State → State → Type 0) (old new : Option State) : Type 0 where
  pub before : State
  pub after : State
  pub was : old ≡ Some before
  pub is : new ≡ Some after
  pub fact : P before after

-- as many requests are live as may be, and none of them is the owner's
abbrev pub IsFullFor : State → ℕ → Type 0
IsFullFor s owner = IsNone (tuple_of s.rows owner) × (length s.rows ≡ LIVE_LIMIT)

-- The owner asks for this now, and the others for what they did; the answer says whether the announced set changed. Or the request is
-- refused, since a number of it is out of range or there is no place for it, and nothing changed.
pub record AnswersSet (asked : TmmbrRequest) (answer : TmmbrChange) (old new : State) : Type 0 where
  pub numbered : (answer.fault ≡ DONE) ⊎ (answer.fault ≡ REQUEST_RANGE) ⊎ (answer.fault ≡ FULL)
  pub range : (answer.fault ≡ REQUEST_RANGE) ↔ (¬ IsRequestInRange asked)
  pub full : (answer.fault ≡ FULL) ↔ (IsRequestInRange asked × IsFullFor old asked.ssrc)
  pub put : answer.fault ≡ DONE → Puts old.rows new.rows asked.ssrc (Some (asked_request asked).tuple)
  pub changed : answer.fault ≡ DONE → ((answer.changed ≡ 1) ↔ (announced_of new ≢ announced_of old))
  pub undone : answer.fault ≢ DONE → (new ≡ old) × (answer.changed ≡ 0)

-- The owner asks for nothing now, and the others for what they did. Or it had no live request, and nothing changed.
pub record AnswersRemove (owner fault : ℕ) (old new : State) : Type 0 where
  pub numbered : (fault ≡ DONE) ⊎ (fault ≡ NOT_LIVE)
  pub not_live : (fault ≡ NOT_LIVE) ↔ (tuple_of old.rows owner ≡ None)
  pub removed : Puts old.rows new.rows owner None
  pub undone : fault ≡ NOT_LIVE → new ≡ old

-- The front of the array, as far as the answer says, has these requests, each in range, and the rest is as it was.
pub record ShowsRequests (rows : List Request) (old new : List TmmbrRequest) (answer : TmmbrLive) : Type 0 where
  pub requests : map asked_request (take answer.count new) ≡ rows
  pub in_range : All IsRequestInRange (take answer.count new)
  pub rest : KeepsRest answer.count old new
