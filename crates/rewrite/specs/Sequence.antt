-- Extended sequence numbers (RFC 3550, appendix A.1).
use Rattle.std.specs.Prelude.{◌≡◌, ℕ, ◌+◌, ◌-◌, ◌%◌, ◌<◌, ◌≤◌}
use Rattle.rewrite.specs.declared.sequence.TheConstants.{SEQ_CYCLE, SEQ_REACH}

-- the number congruent to seq that is nearest to the highest: from 32768 below it to 32767
-- above it (RFC 3550, appendix A.1)
pub record IsExtendedNumber (highest seq extended : ℕ) : Type 0 where
  pub congruent : extended % SEQ_CYCLE ≡ seq
  pub at_least : highest ≤ extended + SEQ_REACH
  pub below : extended < highest + SEQ_REACH

-- the number with this sequence number that stands from SEQ_REACH below the highest to less than SEQ_REACH above it
abbrev pub extended_number : ℕ → ℕ → ℕ
extended_number highest seq =
    let lowest = highest - SEQ_REACH in lowest + (seq + SEQ_CYCLE - lowest % SEQ_CYCLE) % SEQ_CYCLE
