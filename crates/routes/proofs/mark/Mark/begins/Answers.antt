use Rattle.std.proofs.Common.{List, ap, subst, refl}
use mathlib.Core.List.{IsPrefix}
use Rattle.routes.specs.Publications.{Publication}
use Rattle.routes.proofs.MarkLemmas.{begins_by, no_longer}
use Rattle.routes.proofs.mark.Mark.begins.Goals as goal

pub returns-clause-beginning : goal.returns-clause-beginning
returns-clause-beginning c =
    let both = c.learn.new.self.log in
    let this : IsPrefix c.args.self.now.seen.log both = subst (λ (l : List Publication). IsPrefix l both) (ap (λ s. s.log) c.again-both.ensures) c.learn.ensures.2 in
    begins_by c.args.self.now.seen.log c.args.other.now.seen.log both c.args.self.now.count c.args.other.now.count c.args.self.now.counted c.args.other.now.counted this c.learn.ensures.3 _ refl

pub returns-clause-begins : goal.returns-clause-begins
returns-clause-begins c =
    no_longer c.args.self.now.seen.log c.args.other.now.seen.log c.args.self.now.count c.args.other.now.count c.args.self.now.counted c.args.other.now.counted
