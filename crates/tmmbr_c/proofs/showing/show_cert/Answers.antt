use Rattle.std.proofs.Common.{sym, subst, map, take, length}
use Rattle.bounding_set.specs.State.{AnnouncesFor}
use Rattle.tmmbr_c.specs.Numbers.{kept_entry, implied_entry}
use Rattle.tmmbr_c.specs.Order.{place_in}
use Rattle.tmmbr_c.specs.Renumbering.{moved_kept, moved_implied}
use Rattle.tmmbr_c.specs.Answer.{HasSizes}
use Rattle.tmmbr_c.proofs.AnnounceLemmas.{kept_movable, implied_movable, announced_here, sizes_here, equal_entries}
use Rattle.tmmbr_c.proofs.StandingLemmas.{OrdersRows, orders_shown, rows_ordered, rows_are}
use Rattle.tmmbr_c.proofs.showing.show_cert.Goals as goal

-- the certificate of the live requests is that of the rows
announces : (c : goal.After-write_cert-arg-2-1) → AnnouncesFor c.args.bounds.now.rows c.cert.result.now
announces c = subst (AnnouncesFor c.args.bounds.now.rows) (sym c.cert.ensures.value) c.cert.ensures.announced

-- the owners are those of the rows
orders : (c : goal.After-write_cert-arg-2-1) → OrdersRows c.args.bounds.now.rows c.as_slice.result.now
orders c =
    orders_shown c.args.bounds.now.rows c.rows.result.now c.as_slice.result.now c.order_rows-order.result.items c.rows.ensures.value
    c.as_slice.ensures.value c.rows.ensures.within c.rows.ensures.rising c.order_rows-order.ensures.as_many c.order_rows-order.ensures.each

-- the same once it is written
written_for : (c : goal.After-implied-1) → AnnouncesFor c.args.bounds.now.rows c.cert.result.now
written_for c = subst (AnnouncesFor c.args.bounds.now.rows) (sym c.cert.ensures.value) c.cert.ensures.announced

written_in : (c : goal.After-implied-1) → OrdersRows c.args.bounds.now.rows c.as_slice.result.now
written_in c =
    orders_shown c.args.bounds.now.rows c.rows.result.now c.as_slice.result.now c.order_rows-order.result.items c.rows.ensures.value
    c.as_slice.ensures.value c.rows.ensures.within c.rows.ensures.rising c.order_rows-order.ensures.as_many c.order_rows-order.ensures.each

pub write_cert-requires-clause-kept_in_range : goal.write_cert-requires-clause-kept_in_range
write_cert-requires-clause-kept_in_range c =
    let rows = c.args.bounds.now.rows in
    kept_movable rows c.as_slice.result.now (rows_ordered rows c.as_slice.result.now (orders c)) rows (rows_are rows c.as_slice.result.now (orders c))
    c.cert.result.now (announces c)

pub write_cert-requires-clause-implied_in_range : goal.write_cert-requires-clause-implied_in_range
write_cert-requires-clause-implied_in_range c =
    let rows = c.args.bounds.now.rows in
    implied_movable rows c.as_slice.result.now (rows_ordered rows c.as_slice.result.now (orders c)) rows (rows_are rows c.as_slice.result.now (orders c))
    c.cert.result.now (announces c)

pub returns-clause-announced : goal.returns-clause-announced
returns-clause-announced c =
    let rows = c.args.bounds.now.rows in
    let cert = c.cert.result.now in
    let order = c.as_slice.result.now in
    let entries = announced_here rows order (rows_ordered rows order (written_in c)) rows (rows_are rows order (written_in c)) cert (written_for c) in
    λ done. equal_entries rows (map (moved_kept (place_in order)) cert.kept.items)
    (map kept_entry (take c.write_cert.result.kept c.write_cert.new.kept)) (map (moved_implied (place_in order)) cert.implied.items)
    (map implied_entry (take c.write_cert.result.implied c.write_cert.new.implied))
    (c.write_cert.ensures.kept_entries done) (c.write_cert.ensures.implied_entries done) entries

pub returns-clause-sizes : goal.returns-clause-sizes
returns-clause-sizes c =
    let rows = c.args.bounds.now.rows in
    let cert = c.cert.result.now in
    let order = c.as_slice.result.now in
    subst (λ n. HasSizes rows n c.write_cert.result.implied) (sym c.write_cert.ensures.kept_count)
    (subst (HasSizes rows (length cert.kept.items)) (sym c.write_cert.ensures.implied_count)
    (sizes_here rows order (rows_ordered rows order (written_in c)) rows (rows_are rows order (written_in c)) cert (written_for c)))
