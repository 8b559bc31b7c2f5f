use Rattle.std.proofs.Common.{rules}
use Rattle.request_text.specs.BoundText.{row_text}
use Rattle.request_text.proofs.RowTextLemmas.{word_at-row}
use Rattle.request_text.proofs.text.row_text.Goals as goal

pub returns : goal.returns
unfolding row_text
returns c =
    let word = word_at-row c.args.rows.now c.args.place c.index-rows-place.result c.requires in
    rw (← word) (search rules)
