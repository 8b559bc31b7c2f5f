use Rattle.routes.proofs.ViewLemmas.{entered}
use Rattle.routes.proofs.reader.RouteReader.take.Goals as goal

pub returns : goal.returns
returns g c = record {
  view = entered g.J.Naming.legs c.again-known.result.seen.log c.replace.result.rows.items c.replace_with-held.result.is_new c.replace_with-held.result.known.seen.log c.replace_with-held.result.taken.rows.items c.args.self.now (rw (c.again-known.ensures, c.replace.ensures.value) c.self.view_is) c.replace_with-held.ensures.2;
}
