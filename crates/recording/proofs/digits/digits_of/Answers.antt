use Rattle.std.proofs.Common.{◌∙◌, ◌≡◌, ◌+◌, ◌*◌, ◌/◌, ◌%◌, ℕ, slice_index, bit_and, subst, sym}
use Rattle.std.proofs.lemmas.Nat.{and_mask}
use Rattle.hex.specs.Hex.{lower_digits}
use Rattle.recording.proofs.DigitLemmas.{two_digits}
use Rattle.recording.proofs.digits.digits_of.Goals as goal

pub returns : goal.returns
returns c =
    let b : ℕ = c.args.byte in
    let P : ℕ → ℕ → Type 0 =
    λ h l. h + 256 * l + 12336 + 39 * bit_and ((h + 256 * l + 1542) / 16) 257
    ≡ slice_index lower_digits (b / 16) + 256 * slice_index lower_digits (b % 16) in
    subst (λ (h : ℕ). P h c.from-2.result) (sym c.from.ensures)
    (subst (λ (l : ℕ). P (b / 16) l) (sym (c.from-2.ensures ∙ and_mask b 4)) (two_digits b c.ranges.byte.fits))
