-- What a desk lists of its calls.
use Rattle.std.specs.Prelude.{◌≡◌, ℕ, ◌<◌, ◌++◌, true, min, List, All, length, take, slice_get, slice_index_or, Some, None}
use Rattle.desk.specs.declared.call.Entry.{Entry}
use Rattle.desk.specs.declared.base.Base.{Base}
use Rattle.desk.specs.declared.desk.TheConstants.{HISTORY_LIMIT}
use Rattle.desk.specs.Call.{HasStay, is_done}
use Rattle.desk.specs.Presence.{refusal_of}
use Rattle.desk.specs.Trace.{IsBase, base_after}
use Rattle.desk.specs.Answer.{IsAnswerTo}

-- each listed answer is the one that is owed to its call by the base and the entries before it
abbrev pub IsLegalHistory : ℕ → ℕ → Base → List Entry → Type 0
IsLegalHistory gap request_ms base entries =
    (i : ℕ) (d : Entry) → i < length entries
    → IsAnswerTo gap request_ms (base_after request_ms base (take i entries))
    (slice_index_or entries i d).call (slice_index_or entries i d).answer

-- a base as it should be, and a legal history from it, whose stays are numbered from 1
pub record IsLegalTrace (gap request_ms : ℕ) (base : Base) (entries : List Entry) : Type 0 where
  pub begins : IsBase base
  pub stays : All (λ e. HasStay e.call) entries
  pub legal : IsLegalHistory gap request_ms base entries

-- A base and a history stand for these entries after a former base: the last of them are listed, as many as may be, and those
-- that left are folded into the base.
pub record StandsForEntries (request_ms : ℕ) (former : Base) (entries : List Entry) (base : Base)
    (history : List Entry) : Type 0 where
  pub folded : List Entry
  pub in_turn : entries ≡ folded ++ history
  pub listed : length history ≡ min HISTORY_LIMIT (length entries)
  pub stands : base ≡ base_after request_ms former folded

-- the entry may follow what the calls before it come to: if it was done it wasn't refused
pub record Follows (before : Base) (e : Entry) : Type 0 where
  pub stay : HasStay e.call
  pub accepted : is_done e.answer ≡ true → refusal_of before.present.items e.call ≡ None

-- the first of these entries may follow the base
abbrev pub FirstFollows : Base → List Entry → Type 0
FirstFollows base entries = (first : Entry) → slice_get entries 0 ≡ Some first → Follows base first
