use Rattle.routes.proofs.ViewLemmas.{knows_by}
use Rattle.routes.proofs.reader.RouteReader.knows.Goals as goal

pub returns : goal.returns
returns g c = knows_by c.begins.result c.note.inside.mark.seen.log c.self.inside.known.seen.log c.self.inside.taken.rows.items c.args.note.now c.args.self.now c.note.view_is c.self.view_is c.begins.ensures.beginning
