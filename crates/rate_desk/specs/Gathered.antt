-- What is compared when a house is gathered, and which fault is found first.
use Rattle.std.specs.Prelude.{◌≡◌, ◌≢◌, ℕ, ◌+◌, ◌-◌, ◌<◌, ◌≤◌, ◌⊎◌, List, length, sum_by, slice_get, slice_index_or, Some, All, AllPairs}
use Rattle.desk.specs.declared.call.Entry.{Entry}
use Rattle.rate_desk.specs.declared.receipt.Receipt.{Receipt}
use Rattle.rate_desk.specs.declared.receipt.GatherFault.{GatherFault}
use Rattle.rate_desk.specs.declared.receipt.GatherFault.TheVariants.{Differs, Twice, Folded, Seats, Totals, NoMemory}
use Rattle.desk.specs.Trace.{words_of}
use Rattle.desk.specs.State.{DeskState, call_count}
use Rattle.rate_desk.specs.Shares.{SeatState, IsDeskOf, calls_to, words_to}

-- the call and the answer of a receipt
abbrev pub receipt_entry : Receipt → Entry
receipt_entry receipt = record { call = receipt.call; answer = receipt.answer }

-- the receipt's number is below the calls of this desk's base, so that its history doesn't list it
abbrev pub IsFoldedBy : DeskState → Receipt → Type 0
IsFoldedBy desk receipt = receipt.number < desk.base.calls

-- this desk's history has what the receipt says under its number, which is not one of the base's calls
pub record IsListedBy (desk : DeskState) (receipt : Receipt) : Type 0 where
  pub kept : desk.base.calls ≤ receipt.number
  pub stands : slice_get desk.history (receipt.number - desk.base.calls)
      ≡ Some (receipt_entry receipt)

-- this holds of the desk of the receipt's publisher
pub record AtItsDesk (P : DeskState → Receipt → Type 0) (desks : List DeskState)
    (receipt : Receipt) : Type 0 where
  pub desk : DeskState
  pub there : slice_get desks receipt.publisher ≡ Some desk
  pub is : P desk receipt

-- the receipt stands in the history of its publisher's desk
abbrev pub StandsIn : List DeskState → Receipt → Type 0
StandsIn = AtItsDesk IsListedBy

abbrev pub IsFoldedIn : List DeskState → Receipt → Type 0
IsFoldedIn = AtItsDesk IsFoldedBy

-- the receipt stands in its publisher's history, or may have stood there
abbrev pub Fits : List DeskState → Receipt → Type 0
Fits desks receipt = IsFoldedIn desks receipt ⊎ StandsIn desks receipt

-- two receipts of one publisher have two numbers
abbrev pub IsApart : Receipt → Receipt → Type 0
IsApart r s = r.publisher ≡ s.publisher → r.number ≢ s.number

-- what all seats counted of this publisher are the calls of its desk, and the words of its base and history
pub record AddsUp (seats : List SeatState) (desk : DeskState) (p : ℕ) : Type 0 where
  pub calls : sum_by (calls_to p) seats ≡ call_count desk
  pub words : sum_by (words_to p) seats ≡ desk.base.words + words_of desk.history

-- what all seats counted is, for each publisher below this one, the calls and words of its desk
abbrev pub AddUpBelow : ℕ → List SeatState → List DeskState → Type 0
AddUpBelow n seats desks = (p : ℕ) (d : DeskState) → p < n
    → AddsUp seats (slice_index_or desks p d) p

-- Each receipt stands in its history, no number of one publisher comes twice, all seats are there, and their counts add up to each
-- desk's calls and words.
pub record Agrees (made : ℕ) (seats : List SeatState) (receipts : List Receipt)
    (desks : List DeskState) : Type 0 where
  pub stand : All (StandsIn desks) receipts
  pub once : AllPairs IsApart receipts
  pub all_back : length seats ≡ made
  pub totals : AddUpBelow (length desks) seats desks

-- a desk of the house for each publisher
pub record AreDesksOf (gap request_ms publishers : ℕ) (desks : List DeskState) : Type 0 where
  pub count : length desks ≡ publishers
  pub each : All (IsDeskOf gap request_ms) desks

-- ---- the first fault

-- at this place stands the first receipt that isn't as those before it
pub record IsFirst (Before Here : Receipt → Type 0) (receipts : List Receipt)
    (receipt : Receipt) : Type 0 where
  pub place : ℕ
  pub there : slice_get receipts place ≡ Some receipt
  pub here : Here receipt
  pub before : (k : ℕ) (d : Receipt) → k < place → Before (slice_index_or receipts k d)

-- the receipt at the later place is the first that has publisher and number of one before it, and this is the number
pub record IsFirstTwice (receipts : List Receipt) (number : ℕ) : Type 0 where
  pub earlier : ℕ
  pub later : ℕ
  pub in_turn : earlier < later
  pub there : later < length receipts
  pub publisher : (d : Receipt)
      → (slice_index_or receipts earlier d).publisher ≡ (slice_index_or receipts later d).publisher
  pub first : (d : Receipt) → (slice_index_or receipts earlier d).number ≡ number
  pub second : (d : Receipt) → (slice_index_or receipts later d).number ≡ number
  pub before : (i j : ℕ) (d : Receipt) → i < j → j < later
      → IsApart (slice_index_or receipts i d) (slice_index_or receipts j d)

-- the desk folded the receipt's number, and lists from this one on
pub record IsFoldedAt (number : ℕ) (desk : DeskState) (receipt : Receipt) : Type 0 where
  pub folded : IsFoldedBy desk receipt
  pub kept : desk.base.calls ≡ number

-- the first publisher whose desk the counts don't add up to
pub record IsFirstOff (seats : List SeatState) (desks : List DeskState) (p : ℕ) : Type 0 where
  pub there : p < length desks
  pub off : (d : DeskState) → ¬ AddsUp seats (slice_index_or desks p d) p
  pub before : AddUpBelow p seats desks

-- The first fault in this order: a receipt that doesn't fit, a number that comes twice, one that is folded, seats that are
-- missing, counts that don't add up. Memory never wants.
abbrev pub IsFirstGatherFault : ℕ → List SeatState → List Receipt → List DeskState → GatherFault
    → Type 0
IsFirstGatherFault made seats receipts desks (Differs receipt) =
    IsFirst (Fits desks) (λ r. ¬ Fits desks r) receipts receipt
IsFirstGatherFault made seats receipts desks (Twice number) =
    All (Fits desks) receipts × IsFirstTwice receipts number
IsFirstGatherFault made seats receipts desks (Folded number) =
    All (Fits desks) receipts × AllPairs IsApart receipts
    × ((receipt : Receipt)
    × IsFirst (StandsIn desks) (AtItsDesk (IsFoldedAt number) desks) receipts receipt)
IsFirstGatherFault made seats receipts desks (Seats count) =
    All (StandsIn desks) receipts × AllPairs IsApart receipts × (count ≡ length seats)
    × (count ≢ made)
IsFirstGatherFault made seats receipts desks (Totals publisher) =
    All (StandsIn desks) receipts × AllPairs IsApart receipts × (length seats ≡ made)
    × IsFirstOff seats desks publisher
IsFirstGatherFault made seats receipts desks NoMemory = ⊥

-- these desks of the house, one for each publisher, agree with seats and receipts
pub record GathersAll (gap request_ms publishers made : ℕ) (seats : List SeatState)
    (receipts : List Receipt) (desks : List DeskState) : Type 0 where
  pub of_house : AreDesksOf gap request_ms publishers desks
  pub agree : Agrees made seats receipts desks

-- some desks of the house have this fault first
pub record FailsToGather (gap request_ms publishers made : ℕ) (seats : List SeatState)
    (receipts : List Receipt) (fault : GatherFault) : Type 0 where
  pub desks : List DeskState
  pub of_house : AreDesksOf gap request_ms publishers desks
  pub first : IsFirstGatherFault made seats receipts desks fault
