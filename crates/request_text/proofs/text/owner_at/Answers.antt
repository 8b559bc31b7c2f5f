use Rattle.request_text.proofs.RowTextLemmas.{owner_at-row}
use Rattle.request_text.proofs.text.owner_at.Goals as goal

pub returns : goal.returns
returns c = owner_at-row c.args.rows.now c.args.place c.index-rows-place.result c.requires
