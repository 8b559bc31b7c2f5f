use Rattle.std.proofs.Common.{[], sym, ◌∙◌, ap, length}
use Rattle.routes.proofs.MarkLemmas.{opens_moves}
use Rattle.routes.proofs.mark.Mark.next_right.Goals as goal

pub compare_exchange-found-requires : goal.compare_exchange-found-requires
compare_exchange-found-requires c =
    let h = c.requires in
    let again = c.again-seen.ensures in
    let offer = c.plain-offer.ensures in
    let pen = c.no_pen-right.ensures in
    let book = ap (λ s. s.book) again ∙ sym (ap (λ w. w.book) h) in (
      ap (λ w. w.tracked) h,
      book,
      pen.0 ∙ book,
      offer.0,
      rw (ap (λ w. w.key) h, pen.1, offer.3) (opens_moves c.again-seen.result.log [] c.args.self.now.count
          (ap (λ s. length s.log) again ∙ sym c.args.self.now.counted)),
    )
