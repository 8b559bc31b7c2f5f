use Rattle.std.proofs.Common.{ℕ, ◌<◌, arith, slice_index}
use Rattle.hex.specs.Hex.{lower_digits}
use Rattle.hex.proofs.Pairs.{encode_step, encode_done}
use Rattle.recording.proofs.DigitLemmas.{high_digit, low_digit}
use Rattle.recording.proofs.digits.write_digits.Goals as goal

pub loop-i-preserved : goal.loop-i-preserved
loop-i-preserved c =
    let byte : ℕ = slice_index c.args.bytes.now c.loop-i.i in
    let is_byte : byte < 256 = omega (arith, c.type_inv.bytes c.loop-i.i) in
    encode_step lower_digits c.args.bytes.now c.loop-i.digits c.loop-i.i _ _ (omega arith) (omega arith)
    (high_digit byte _ is_byte c.digits_of-pair.ensures) (low_digit byte _ is_byte c.digits_of-pair.ensures) c.loop-i.invariant

pub returns : goal.returns
returns c =
    encode_done lower_digits c.args.bytes.now c.loop-i.digits c.loop-i.i (omega arith) (omega arith) c.loop-i.invariant
