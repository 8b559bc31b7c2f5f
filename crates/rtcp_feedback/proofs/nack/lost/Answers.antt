use Rattle.std.proofs.Common.{◌≡◌, ◌∙◌, ◌-◌, ap, arith, length}
use Rattle.rtcp_feedback.proofs.NackLemmas.{numbers_few, numbers_all, numbers_set, numbers_unset, bit_set, bit_unset, numbers_among}
use Rattle.rtcp_feedback.proofs.nack.lost.Goals as goal
use Rattle.rtcp_feedback.proofs.nack.lost.Goals.{then-nack-i-eq1, else-nack-i-eq1}

pub push-requires-then-nack-i-eq1 : goal.push-requires-then-nack-i-eq1
push-requires-then-nack-i-eq1 c = (omega arith, omega (arith, ap length c.loop-i.invariant, numbers_few c.args.nack (c.loop-i.i - 1)))

pub loop-i-preserved : goal.loop-i-preserved
loop-i-preserved c =
    elim c.if-nack-i-eq1.branch [
      | then-nack-i-eq1 w ↦
          let more = numbers_set c.args.nack c.loop-i.i (omega arith) (bit_set c.args.nack.blp c.loop-i.i w.if-nack-i-eq1.true) in
          cc
      | else-nack-i-eq1 w ↦
          let same = numbers_unset c.args.nack c.loop-i.i (omega arith) (bit_unset c.args.nack.blp c.loop-i.i w.if-nack-i-eq1.false) in
          cc
    ]

pub returns : goal.returns
returns c =
    let ends : c.loop-i.i - 1 ≡ 16 = omega arith in
    c.loop-i.invariant ∙ ap (numbers_among c.args.nack) ends ∙ numbers_all c.args.nack
