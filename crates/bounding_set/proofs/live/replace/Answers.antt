use Rattle.std.proofs.Common.{◌≡◌, inl, inr, ◌∙◌, subst}
use Rattle.std.proofs.lemmas.Bool.{cases_Bool}
use Rattle.bounding_set.specs.Live.{HasLineOf}
use Rattle.bounding_set.proofs.MemberLemmas.{lines_differ}
use Rattle.bounding_set.proofs.live.replace.Goals as goal

pub returns-then-was_line-clause-changed : goal.returns-then-was_line-clause-changed
returns-then-was_line-clause-changed c =
    let p = c.put_in-is_line in (
      λ is. lines_differ c.args.rows.now.items p.new.rows.items c.args.lines.now.items p.new.lines.items c.args.x.now
          c.requires.holds.rising p.ensures.holds.rising c.requires.holds.envelope p.ensures.holds.envelope c.requires.differs p.ensures.put.changed
          (c.take_out-was_line.ensures.was_line is),
      λ differ. c.if-was_line.true,
    )

pub returns-else-was_line-clause-changed : goal.returns-else-was_line-clause-changed
returns-else-was_line-clause-changed c =
    let x = c.args.x.now in
    let p = c.put_in-is_line in
    let lines = c.args.lines.now.items in
    let left : c.take_out-was_line.new.lines.items ≡ lines = c.take_out-was_line.ensures.unchanged c.if-was_line.false in (
      λ is same. lines_differ c.args.rows.now.items p.new.rows.items lines p.new.lines.items x
          c.requires.holds.rising p.ensures.holds.rising c.requires.holds.envelope p.ensures.holds.envelope c.requires.differs p.ensures.put.changed
          (subst (HasLineOf x.owner.0) same (p.ensures.is_line is)) same,
      λ differ. elim (cases_Bool p.result) [
        | inl is ↦ is
        | inr isn't ↦ absurd (differ (p.ensures.unchanged isn't ∙ left))
      ],
    )
