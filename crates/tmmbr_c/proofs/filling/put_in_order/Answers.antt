use Rattle.std.proofs.Common.{length, lit<, ap, take, ◌∙◌, arith}
use Rattle.std.proofs.lemmas.List.{length-take-le}
use Rattle.tmmbr_c.proofs.FillLemmas.{length-ordered}
use Rattle.tmmbr_c.proofs.filling.put_in_order.Goals as goal

pub push-requires : goal.push-requires
push-requires c =
    let x = c.index-requests-from.result in
    let order = c.args.order.now in
    let index = c.loop-owner.owner-index in
    let many = ap length (c.loop-owner.invariant x) ∙ length-ordered c.args.requests.now (take index order) x in
    (lit< tt, omega (arith, many, length-take-le index order (omega (arith, c.loop-owner-test.true)), c.loop-owner-test.true, c.requires.few))
