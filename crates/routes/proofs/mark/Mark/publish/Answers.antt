use Rattle.std.proofs.Common.{◌≡◌, ◌+◌, ℕ, sym, ◌∙◌, ap, length}
use Rattle.logbook.specs.Pages.{nib, may_write}
use Rattle.routes.proofs.MarkLemmas.{publishes_moves}
use Rattle.routes.proofs.mark.Mark.publish.Goals as goal

pub compare_exchange-found-requires : goal.compare_exchange-found-requires
compare_exchange-found-requires c =
    let h = c.requires.head in
    let again = c.again-seen.ensures in
    let offer = c.plain-offer.ensures in
    let count = c.args.self.now.count in
    let book = ap (λ s. s.book) again ∙ sym (ap (λ w. w.book) h) in
    let right : c.args.right.now.nib ≡ nib may_write (count + 2) 0 =
    c.requires.right.1 ∙ ap (λ (k : ℕ). nib may_write (k + 2) 0) (sym c.args.self.now.counted)
    in (
      ap (λ w. w.tracked) h,
      book,
      c.requires.right.0 ∙ sym (ap (λ w. w.book) h),
      offer.0,
      rw (ap (λ w. w.key) h, right, offer.1, offer.3) (publishes_moves c.again-seen.result.log c.args.changes.now.items count
          (ap (λ s. length s.log) again ∙ sym c.args.self.now.counted)),
    )
