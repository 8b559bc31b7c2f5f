use Rattle.std.proofs.Common.{List, ap, subst}
use mathlib.Core.List.{IsPrefix}
use Rattle.members.specs.declared.order.Change.{Change}
use Rattle.routes.specs.Publications.{changes_of}
use Rattle.routes.specs.Views.{ReaderView}
use Rattle.routes.proofs.RowLemmas.{changes_begin}
use Rattle.routes.proofs.reader.RouteReader.learn.Goals as goal

pub returns-clause-old : goal.returns-clause-old
returns-clause-old g c =
    let now = c.learn_mark.new.known.seen.log in
    subst (λ (k : List Change). IsPrefix k (changes_of now)) (ap (λ (v : ReaderView). v.known) c.self.view_is) (changes_begin c.self.inside.known.seen.log now c.learn_mark.ensures.known)

pub returns-clause-note : goal.returns-clause-note
returns-clause-note g c =
    let now = c.learn_mark.new.known.seen.log in
    subst (λ (k : List Change). IsPrefix k (changes_of now)) c.note.view_is (changes_begin c.note.inside.mark.seen.log now c.learn_mark.ensures.told)
