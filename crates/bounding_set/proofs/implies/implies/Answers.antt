use Rattle.std.proofs.Common.{inl, inr, sym, ◌∙◌}
use Rattle.bounding_set.proofs.ImpliesLemmas.{together_iff}
use Rattle.bounding_set.proofs.implies.implies.Goals as goal
use Rattle.bounding_set.proofs.implies.implies.Goals.{then-implies_alone, else-implies_alone, then-implies_alone-2, else-implies_alone-2}

pub returns-then-is_above_chord-clause-exact : goal.returns-then-is_above_chord-clause-exact
returns-then-is_above_chord-clause-exact c =
    together_iff c.args.a.now c.args.b.now c.args.x.now _ (
      λ is. elim c.if-implies_alone-2.branch [
        | then-implies_alone-2 w ↦ elim c.if-implies_alone.branch [
          | then-implies_alone v ↦ inl (inl (c.implies_alone.ensures.0 v.if-implies_alone.true))
          | else-implies_alone v ↦ inl (inr (v.implies_alone-else-implies_alone.ensures.0 (sym v.value-is ∙ w.if-implies_alone-2.true)))
        ]
        | else-implies_alone-2 w ↦ inr (inl (w.is_above_chord.ensures.0 (sym w.value-is ∙ c.if-is_above_chord.true)))
      ],
      λ _. c.if-is_above_chord.true,
    )

pub returns-else-is_above_chord-clause-exact : goal.returns-else-is_above_chord-clause-exact
returns-else-is_above_chord-clause-exact c =
    together_iff c.args.a.now c.args.b.now c.args.x.now _ (
      λ is. inr (inr (c.is_above_chord-else-is_above_chord.ensures.0 is)),
      λ parts. elim c.if-implies_alone-2.branch [
        | then-implies_alone-2 w ↦ cc
        | else-implies_alone-2 w ↦ elim c.if-implies_alone.branch [
          | then-implies_alone v ↦ cc
          | else-implies_alone v ↦ elim parts [
            | inl (inl alone) ↦ cc (c.implies_alone.ensures.1 alone)
            | inl (inr alone) ↦ cc (v.implies_alone-else-implies_alone.ensures.1 alone)
            | inr (inl stands) ↦ cc (w.is_above_chord.ensures.1 stands)
            | inr (inr stands) ↦ c.is_above_chord-else-is_above_chord.ensures.1 stands
          ]
        ]
      ],
    )
