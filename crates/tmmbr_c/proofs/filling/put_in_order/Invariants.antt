use Rattle.std.proofs.Common.{◌≡◌, take}
use Rattle.rate_cert.specs.declared.request.Request.{Request}
use Rattle.tmmbr_c.specs.Order.{ordered}
use Rattle.tmmbr_c.proofs.filling.put_in_order.Given as goal

abbrev pub invariant-loop-owner : goal.invariant-loop-owner
invariant-loop-owner l = (d : Request) → l.rows.items ≡ ordered l.requests d (take l.owner-index l.order)
