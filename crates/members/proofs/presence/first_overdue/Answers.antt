use Rattle.std.proofs.Common.{◌<◌, arith}
use Rattle.members.proofs.StayLemmas.{quiet_more, quiet_all, overdue_more, overdue_all}
use Rattle.members.proofs.presence.first_overdue.Goals as goal

pub loop-endpoint-preserved : goal.loop-endpoint-preserved
loop-endpoint-preserved c = record {
  before = λ moment below.
      let first : moment < c.loop-endpoint.first = omega (arith, c.min-first.ensures) in
      let here : moment < c.overdue_from.result = omega (arith, c.min-first.ensures) in
      quiet_more c.args.timeout moment c.args.endpoints.now c.loop-endpoint.endpoint-index _ c.loop-endpoint-test.true
      (c.loop-endpoint.invariant.before moment first) (c.overdue_from.ensures.before moment here);
  first = overdue_more c.args.timeout c.args.endpoints.now c.loop-endpoint.endpoint-index _ c.loop-endpoint.first c.overdue_from.result
      c.min-first.result c.loop-endpoint-test.true c.min-first.ensures c.loop-endpoint.invariant.first c.overdue_from.ensures.first;
}

pub returns : goal.returns
returns c = record {
  before = λ moment below.
      quiet_all c.args.timeout moment c.args.endpoints.now c.loop-endpoint.endpoint-index c.loop-endpoint-test.false
      (c.loop-endpoint.invariant.before moment below);
  first = overdue_all c.args.timeout c.args.endpoints.now c.loop-endpoint.endpoint-index c.loop-endpoint.first c.loop-endpoint-test.false
      c.loop-endpoint.invariant.first;
}
