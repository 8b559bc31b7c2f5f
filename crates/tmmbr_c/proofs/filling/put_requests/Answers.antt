use Rattle.std.proofs.Common.{◌≡◌, length, sym, ap, ◌∙◌, subst, arith}
use Rattle.bounding_set.specs.Rows.{HasRisingOwners}
use Rattle.tmmbr_c.specs.Order.{ordered}
use Rattle.tmmbr_c.proofs.FillLemmas.{length-ordered, ordered-rises, put_all-is}
use Rattle.tmmbr_c.proofs.filling.put_requests.Goals as goal

pub returns : goal.returns
returns c = λ d.
    let requests = c.args.requests.now in
    let order = c.args.order.now in
    let said = c.set_all-put.ensures in
    let rows = c.as_slice.result.now in
    let are : rows ≡ ordered requests d order = c.as_slice.ensures.value ∙ c.put_in_order.ensures d in
    let rising : HasRisingOwners rows = subst HasRisingOwners (sym are) (ordered-rises requests order d c.requires.rising c.requires.owns) in
    put_all-is rows c.set_all-put.new.self.rows c.set_all-put.result rising
    (omega (arith, ap length are, length-ordered requests order d, c.requires.few)) said.too_many.0 said.not_rising.0 said.rows
    ∙ are
