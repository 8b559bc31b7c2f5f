use Rattle.std.proofs.Common.{drop, refl, ◌++◌, ◌∷◌, []}
use Rattle.routes.specs.declared.mark.Mark.{Mark}
use Rattle.routes.specs.Views.{IsAhead}
use Rattle.routes.proofs.ViewLemmas.{ahead_more, ahead_shown, ahead_table}
use Rattle.routes.proofs.writer.show.Goals as goal

pub publish_as-writer-requires : goal.publish_as-writer-requires
publish_as-writer-requires g c next is views kept at =
    let book = g.J.Naming.book in
    let legs = g.J.Naming.legs in
    let log = c.args.batch.mark.seen.log in
    let old = c.args.writer in
    let now = c.queue.new.writer in
    let more : IsAhead book legs log (drop old.behind old.log.items ++ c.args.batch ∷ []) old.desk.shown.value = ahead_more book legs c.args.before.now.seen.log (drop old.behind old.log.items) old.desk.shown.value c.args.batch c.requires.ahead c.requires.next in
    let ahead : IsAhead book legs log (drop now.behind now.log.items) now.desk.shown.value = rw (c.queue.ensures.pending, c.queue.ensures.desk) more in
    let table = ahead_table book legs log next (ahead_shown (λ (m : Mark). m.seen) (λ s. s.book) (λ s. s.log) (λ m. refl) (λ m. refl) book legs log (drop now.behind now.log.items) now.desk.shown.value next ahead is) in
    (tt, table, table)
