use Rattle.std.proofs.Common.{sym, subst, map, take, length}
use Rattle.bounding_set.specs.State.{AnnouncesFor}
use Rattle.tmmbr_c.specs.Numbers.{kept_entry, implied_entry}
use Rattle.tmmbr_c.specs.Order.{place_in}
use Rattle.tmmbr_c.specs.Renumbering.{moved_kept, moved_implied}
use Rattle.tmmbr_c.specs.Answer.{HasSizes}
use Rattle.tmmbr_c.proofs.AnnounceLemmas.{kept_movable, implied_movable, announced_here, sizes_here, equal_entries}
use Rattle.tmmbr_c.proofs.announcing.announce.Goals as goal

-- the certificate of the live requests is that of the rows
announces : (c : goal.After-write_cert-arg-2-1) → AnnouncesFor c.put_requests.new.bounds.rows c.cert.result.now
announces c = subst (AnnouncesFor c.put_requests.new.bounds.rows) (sym c.cert.ensures.value) c.cert.ensures.announced

pub write_cert-requires-clause-kept_in_range : goal.write_cert-requires-clause-kept_in_range
write_cert-requires-clause-kept_in_range c =
    kept_movable c.args.requests.now c.args.order.now c.requires c.put_requests.new.bounds.rows c.put_requests.ensures c.cert.result.now (announces c)

pub write_cert-requires-clause-implied_in_range : goal.write_cert-requires-clause-implied_in_range
write_cert-requires-clause-implied_in_range c =
    implied_movable c.args.requests.now c.args.order.now c.requires c.put_requests.new.bounds.rows c.put_requests.ensures c.cert.result.now (announces c)

pub returns-clause-announced : goal.returns-clause-announced
returns-clause-announced c =
    let cert = c.cert.result.now in
    let rows = c.put_requests.new.bounds.rows in
    let is : AnnouncesFor rows cert = subst (AnnouncesFor rows) (sym c.cert.ensures.value) c.cert.ensures.announced in
    let entries = announced_here c.args.requests.now c.args.order.now c.requires rows c.put_requests.ensures cert is in
    λ done. equal_entries c.args.requests.now (map (moved_kept (place_in c.args.order.now)) cert.kept.items)
    (map kept_entry (take c.write_cert.result.kept c.write_cert.new.kept)) (map (moved_implied (place_in c.args.order.now)) cert.implied.items)
    (map implied_entry (take c.write_cert.result.implied c.write_cert.new.implied))
    (c.write_cert.ensures.kept_entries done) (c.write_cert.ensures.implied_entries done) entries

pub returns-clause-sizes : goal.returns-clause-sizes
returns-clause-sizes c =
    let cert = c.cert.result.now in
    let rows = c.put_requests.new.bounds.rows in
    let is : AnnouncesFor rows cert = subst (AnnouncesFor rows) (sym c.cert.ensures.value) c.cert.ensures.announced in
    subst (λ n. HasSizes c.args.requests.now n c.write_cert.result.implied) (sym c.write_cert.ensures.kept_count)
    (subst (HasSizes c.args.requests.now (length cert.kept.items)) (sym c.write_cert.ensures.implied_count)
    (sizes_here c.args.requests.now c.args.order.now c.requires rows c.put_requests.ensures cert is))
