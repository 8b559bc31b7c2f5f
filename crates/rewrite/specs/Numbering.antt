-- Outgoing numbers, over whole lists of packets (RFC 3550, appendix A.1, of extended sequence numbers).
use Rattle.std.specs.Prelude.{◌≡◌, ◌⊎◌, ◌==◌, ℕ, ◌+◌, ◌-◌, ◌^◌, ◌<◌, ◌≤◌, nat_lt, List, [], ◌∷◌, ◌++◌, All, Any, find, Some, Result, Ok, Err, if◌then◌else◌}
use Rattle.rewrite.specs.declared.skip.Skip.{Skip}
use Rattle.rewrite.specs.declared.skip.Skip.TheVariants.{Old, Spent}
use Rattle.rewrite.specs.Sequence.{IsExtendedNumber}
use Rattle.rewrite.specs.declared.sequence.TheConstants.{SEQ_CYCLE}

-- a packet that comes in
pub record IncomingPacket : Type 0 where
  pub turn : ℕ
  pub seq : ℕ

-- a packet that came in, and what the leg answered
pub record Entry : Type 0 where
  pub turn : ℕ
  pub seq : ℕ
  pub answer : Result ℕ Skip

-- a packet that got a number
pub record Numbered : Type 0 where
  pub turn : ℕ
  pub seq : ℕ
  pub number : ℕ

abbrev pub numbered_as : ℕ → ℕ → Result ℕ Skip → List Numbered
numbered_as turn seq (Ok number) = record { turn = turn; seq = seq; number = number } ∷ []
numbered_as turn seq (Err skip) = []

abbrev pub entry_numbers : Entry → List Numbered
entry_numbers e = numbered_as e.turn e.seq e.answer

-- the number, or Spent from 2^62 on
abbrev pub within_limit : ℕ → Result ℕ Skip
within_limit number = if nat_lt number (2 ^ 62) then Ok number else Err Spent

-- The number is one above all that were given, or the leg's first if none was.
abbrev pub IsNextNumber : ℕ → List Numbered → ℕ → Type 0
IsNextNumber first [] number = number ≡ first
IsNextNumber first (p ∷ past) number =
    All (λ q. q.number < number) (p ∷ past) × Any (λ q. q.number + 1 ≡ number) (p ∷ past)

-- a segment's base: its turn's first packet that got a number
abbrev pub IsBase : List Numbered → ℕ → Numbered → Type 0
IsBase past turn base = find (λ p. p.turn == turn) past ≡ Some base

-- Extended numbers begin one cycle up, so that those below a base are whole numbers too. A packet of the segment stands
-- as far above the base as its number is above the base's.
abbrev pub base_place : Numbered → ℕ
base_place base = SEQ_CYCLE + base.seq

abbrev pub extended_of : Numbered → Numbered → ℕ
extended_of base p = base_place base + (p.number - base.number)

-- the greatest extended number so far of the segment with this base
pub record IsHighest (past : List Numbered) (base : Numbered) (highest : ℕ) : Type 0 where
  pub reached : Any (λ p. (p.turn ≡ base.turn) × (extended_of base p ≡ highest)) past
  pub greatest : All (λ p. p.turn ≡ base.turn → extended_of base p ≤ highest) past

-- the packet's turn is greater than all before, or nothing came before: it begins a segment
pub record Begins (first : ℕ) (past : List Numbered) (turn : ℕ)
    (answer : Result ℕ Skip) : Type 0 where
  pub fresh : All (λ p. p.turn < turn) past
  pub number : ℕ
  pub next : IsNextNumber first past number
  pub answered : answer ≡ within_limit number

-- the packet's turn is the latest, and was before: its number is as far above the base's as its place is above the
-- base's
pub record Continues (past : List Numbered) (turn seq : ℕ) (answer : Result ℕ Skip) : Type 0 where
  pub latest : All (λ p. p.turn ≤ turn) past
  pub base : Numbered
  pub is_base : IsBase past turn base
  pub highest : ℕ
  pub is_highest : IsHighest past base highest
  pub extended : ℕ
  pub is_extension : IsExtendedNumber highest seq extended
  pub answered : answer ≡
      (if nat_lt extended (base_place base) then Err Old
      else within_limit (base.number + (extended - base_place base)))

-- a greater turn was before
pub record IsLate (past : List Numbered) (turn : ℕ) (answer : Result ℕ Skip) : Type 0 where
  pub later : Any (λ p. turn < p.turn) past
  pub answered : answer ≡ Err Old

-- the answer to a packet, by those before it that got a number: it begins a segment, continues one, or
-- is late (RFC 3550, appendix A.1)
abbrev pub IsNumberAnswer : ℕ → List Numbered → Entry → Type 0
IsNumberAnswer first past e =
    Begins first past e.turn e.answer
    ⊎ (Continues past e.turn e.seq e.answer ⊎ IsLate past e.turn e.answer)

abbrev pub RenumbersAfter : ℕ → List Numbered → List Entry → Type 0
RenumbersAfter first past [] = Unit {0}
RenumbersAfter first past (e ∷ entries) =
    IsNumberAnswer first past e × RenumbersAfter first (past ++ entry_numbers e) entries

-- the answers are those of a leg with this first number, from its first packet on (RFC 3550, appendix A.1)
abbrev pub Renumbers : ℕ → List Entry → Type 0
Renumbers first entries = RenumbersAfter first [] entries

-- of two segments the later one has the greater numbers, so that they never meet
abbrev pub AreApart : List Numbered → Type 0
AreApart given = All (λ p. All (λ q. p.turn < q.turn → p.number < q.number) given) given
