use Rattle.std.proofs.Common.{rules}
use Rattle.drawing.proofs.PictureLemmas.{name_at-row}
use Rattle.drawing.proofs.shapes.push_name_at.Goals as goal

pub returns : goal.returns
returns c = rw (← name_at-row c.args.number c.args.rows.now c.args.place c.index-rows-place.result c.requires.in_range) (search rules)
