use Rattle.std.proofs.Common.{length, ap, arith}
use Rattle.desk_calls.proofs.head.Head.fill.Goals as goal

pub put-requires : goal.put-requires
put-requires c = omega (arith, c.put_report.ensures.short, ap length c.as_slice.ensures.value)

pub put-requires-2 : goal.put-requires-2
put-requires-2 c = omega (arith, c.put_report.ensures.short, ap length c.as_slice.ensures.value, c.put.ensures.len, c.as_slice-2.ensures.len)
