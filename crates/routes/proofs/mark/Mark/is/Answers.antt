use Rattle.std.proofs.Common.{List, ap, subst}
use mathlib.Core.List.{IsPrefix}
use Rattle.routes.specs.Publications.{Publication}
use Rattle.routes.proofs.MarkLemmas.{same_by}
use Rattle.routes.proofs.mark.Mark.is.Goals as goal

pub returns : goal.returns
returns c =
    let both = c.learn.new.self.log in
    let this : IsPrefix c.args.self.now.seen.log both = subst (λ (l : List Publication). IsPrefix l both) (ap (λ s. s.log) c.again-both.ensures) c.learn.ensures.2 in
    same_by c.args.self.now.seen.log c.args.other.now.seen.log both c.args.self.now.count c.args.other.now.count c.args.self.now.counted c.args.other.now.counted this c.learn.ensures.3
