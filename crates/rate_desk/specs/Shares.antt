-- What a contract sees of a `DeskSeat`, and what a house's calls give.
use Rattle.std.specs.Prelude.{◌≡◌, ℕ, ◌+◌, ◌*◌, ◌^◌, ◌<◌, ◌≤◌, ◌↔◌, ◌⊎◌, List, length, get_or, set, replicate, Result, MatchResult, IsErr, IfOk, IfErr, OnOk, OnErr}
use Rattle.bounding_set.specs.State.{announced_of}
use Rattle.desk.specs.declared.call.Call.{Call}
use Rattle.desk.specs.declared.effect.Effect.{Effect}
use Rattle.rate_desk.specs.declared.receipt.Receipt.{Receipt}
use Rattle.rate_desk.specs.declared.receipt.HouseFault.{HouseFault}
use Rattle.rate_desk.specs.declared.receipt.HouseFault.TheVariants.{HistoryFull, Behind}
use Rattle.desk.specs.Call.{requested_word}
use Rattle.desk.specs.Effect.{IsEffect}
use Rattle.desk.specs.State.{DeskState, HoldsLegalDesk, IsOverLimit, Records, call_count}

-- the recorded calls to each publisher, the sums of the words that they requested, and the calls that the share stands for
pub record SeatState : Type 0 where
  pub calls : List ℕ
  pub words : List ℕ
  pub share : ℕ

-- the seat's recorded calls to this publisher
abbrev pub calls_to : ℕ → SeatState → ℕ
calls_to p seat = get_or seat.calls p 0

-- the sum of the words that they requested
abbrev pub words_to : ℕ → SeatState → ℕ
words_to p seat = get_or seat.words p 0

-- a seat that made no calls yet, beside so many publishers
abbrev pub new_seat : ℕ → SeatState
new_seat publishers =
    record { calls = replicate publishers 0; words = replicate publishers 0; share = 0 }

-- no word is more than 32 bits
abbrev pub HasSmallWords : List ℕ → List ℕ → Type 0
HasSmallWords calls words = (p : ℕ) → p < length calls
    → get_or words p 0 ≤ get_or calls p 0 * 2 ^ 32

-- one call to this publisher more, and no other
pub record Counts (p : ℕ) (call : Call) (old new : SeatState) : Type 0 where
  pub calls : new.calls ≡ set old.calls p (calls_to p old + 1)
  pub words : new.words ≡ set old.words p (words_to p old + requested_word call)
  pub share : new.share ≡ old.share + 1

-- the receipt names the publisher and the call; its number is at least the calls that the seat made to the publisher before
pub record IsReceiptOf (p : ℕ) (asked : Call) (seat : SeatState) (receipt : Receipt) : Type 0 where
  pub publisher : receipt.publisher ≡ p
  pub call : receipt.call ≡ asked
  pub number : calls_to p seat ≤ receipt.number

-- ---- desks of a house

-- a legal desk with the house's gap, whose requests may grow as old as the house's
pub record IsDeskOf (gap request_ms : ℕ) (desk : DeskState) : Type 0 where
  pub legal : HoldsLegalDesk desk
  pub apart : desk.gap ≡ gap
  pub age : desk.request_ms ≡ request_ms

-- a desk of the house recorded the receipt's call, and became another
pub record Recorded (gap request_ms : ℕ) (receipt : Receipt)
    (former desk : DeskState) : Type 0 where
  pub was : IsDeskOf gap request_ms former
  pub is : IsDeskOf gap request_ms desk
  pub records : Records former receipt.call receipt.number receipt.answer desk

-- some desk of the house recorded the receipt's call, and the effect is what that changed
pub record IsTold (gap request_ms : ℕ) (receipt : Receipt) (effect : Effect) : Type 0 where
  pub former : DeskState
  pub desk : DeskState
  pub recorded : Recorded gap request_ms receipt former desk
  pub changed : IsEffect (announced_of former.bounds) (announced_of desk.bounds) effect

-- a desk that is held: the number of its publisher, and what it is
pub record HoldState : Type 0 where
  pub publisher : ℕ
  pub desk : DeskState

-- the receipt's call is the desk's last one: it made this desk of the former one, and changed this in the announced set
pub record IsLastCall (receipt : Receipt) (effect : Effect) (former desk : DeskState) : Type 0 where
  pub records : Records former receipt.call receipt.number receipt.answer desk
  pub changed : IsEffect (announced_of former.bounds) (announced_of desk.bounds) effect

-- some desk of the house recorded the receipt's call, and announces what it did before
pub record IsPulsed (gap request_ms : ℕ) (receipt : Receipt) : Type 0 where
  pub former : DeskState
  pub desk : DeskState
  pub recorded : Recorded gap request_ms receipt former desk
  pub announced : desk.bounds ≡ former.bounds

-- The desk has no room for the call; else it has fewer calls than the seat made to it, and this many are shown.
abbrev pub IsFaultAt : ℕ → Call → SeatState → DeskState → HouseFault → Type 0
IsFaultAt p call seat desk HistoryFull = IsOverLimit desk call
IsFaultAt p call seat desk (Behind calls) =
    (¬ IsOverLimit desk call) × (calls ≡ call_count desk) × (calls < calls_to p seat)

-- some desk of the house has this fault
pub record IsFaultOf (gap request_ms p : ℕ) (call : Call) (seat : SeatState)
    (fault : HouseFault) : Type 0 where
  pub desk : DeskState
  pub is : IsDeskOf gap request_ms desk
  pub here : IsFaultAt p call seat desk fault

-- A seat called a publisher's desk. It gets a receipt of the call, and counts it; or some desk of the house has this fault, and the
-- seat is as before.
pub record GetsReceipt (gap request_ms p : ℕ) (call : Call) (seat later : SeatState)
    (result : Result Receipt HouseFault) : Type 0 where
  pub receipt : IfOk result (IsReceiptOf p call seat)
  pub counted : OnOk result (Counts p call seat later)
  pub fault : IfErr result (IsFaultOf gap request_ms p call seat)
  pub unchanged : OnErr result (later ≡ seat)

-- A seat calls a desk that is held. It is refused exactly if the desk has fewer calls than the seat made to it, or has no room: that is
-- the fault, and the desk is as before. Else the desk records the call.
pub record CallsHeldDesk (p : ℕ) (call : Call) (seat : SeatState) (former desk : DeskState)
    (result : Result Receipt HouseFault) : Type 0 where
  pub refused : IsErr result ↔ (call_count former < calls_to p seat) ⊎ IsOverLimit former call
  pub fault : IfErr result (IsFaultAt p call seat former)
  pub recorded : IfOk result (λ r. Records former call r.number r.answer desk)
  pub unchanged : OnErr result (desk ≡ former)

-- A seat called a publisher's desk. Either a desk of the house recorded that, receipt and effect are handed out, and the seat
-- counts it; or there is a fault, and the seat is as before.
abbrev pub MakesCall : ℕ → ℕ → ℕ → Call → SeatState → SeatState
    → Result (Receipt × Effect) HouseFault → Type 0
MakesCall gap request_ms p call seat later result =
    MatchResult result
    (λ r. IsReceiptOf p call seat r.0 × IsTold gap request_ms r.0 r.1 × Counts p call seat later)
    (λ fault. IsFaultOf gap request_ms p call seat fault × (later ≡ seat))
