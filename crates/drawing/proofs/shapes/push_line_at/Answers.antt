use Rattle.std.proofs.Common.{rules}
use Rattle.drawing.proofs.PictureLemmas.{line_at-row}
use Rattle.drawing.proofs.shapes.push_line_at.Goals as goal

pub returns : goal.returns
returns c = rw (← line_at-row c.args.scale c.args.rows.now c.args.place c.index-rows-place.result c.requires.in_range) (search rules)
