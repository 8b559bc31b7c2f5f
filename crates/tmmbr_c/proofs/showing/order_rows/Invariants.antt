use Rattle.std.proofs.Common.{◌≡◌, ℕ, ◌<◌, length, get_or}
use Rattle.rate_cert.specs.declared.request.Request.{Request}
use Rattle.tmmbr_c.specs.declared.order.OwnerPlace.{OwnerPlace}
use Rattle.tmmbr_c.proofs.showing.order_rows.Given as goal

abbrev pub invariant-loop-k : goal.invariant-loop-k
invariant-loop-k l = record {
  as_many : length l.order.items ≡ l.k;
  each : (k : ℕ) (d : OwnerPlace) (e : Request) → k < l.k
      → get_or l.order.items k d ≡ record { ssrc = (get_or l.rows k e).owner.0; place = k };
}
