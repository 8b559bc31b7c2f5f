use Rattle.std.proofs.Common.{rules, ◌≡◌, [], ◌∷◌, ◌++◌, ap, ◌∙◌, sym, subst, length, take, lit<, arith}
use Rattle.std.specs.Prelude.{IsPermutation}
use Rattle.std.proofs.lemmas.List.{length-map, take_all}
use Rattle.std.proofs.lemmas.List.Sorted.{IsNonDecreasingBy-from_sort_by_key, length_permutation}
use Rattle.tmmbr_tuple.specs.declared.ssrc.Ssrc.{Ssrc}
use Rattle.rate_cert.specs.declared.request.Request.{Request}
use Rattle.desk.specs.Effect.{IsLifted, ssrcs_of}
use Rattle.desk.proofs.EffectLemmas.{refill-whole, length-passed, sources_of, gone, has_none, gone_more, gone_same, IsLifted-sorted}
use Rattle.desk.proofs.effect.list_lifted.Goals as goal
use Rattle.desk.proofs.effect.list_lifted.Goals.{then-not-has_owner, else-not-has_owner}

pub push-requires : goal.push-requires
push-requires c = (
  lit< tt,
  let few = length-passed (λ (r : Request). has_none c.args.set.now r.owner.0) c.args.former.now c.loop-request.request-index in
      omega (
        arith,
        few,
        ap length c.loop-request.invariant,
        length-map (gone (take c.loop-request.request-index c.args.former.now) c.args.set.now) (λ (r : Request). r.owner),
      ),
)

pub loop-request-preserved : goal.loop-request-preserved
loop-request-preserved c =
    let former = c.args.former.now in
    let set = c.args.set.now in
    let i = c.loop-request.request-index in
    let r = c.request-item.result in
    elim c.if-not-has_owner.branch [
      | then-not-has_owner w ↦
          rw w.lifted-is
          (w.push.ensures.items
          ∙ ap (λ owners. owners ++ r.owner ∷ []) c.loop-request.invariant
          ∙ sym (gone_more former set i r c.loop-request-test.true c.request-item.is (sym c.has_owner.ensures ∙ w.if-not-has_owner.true)))
      | else-not-has_owner w ↦
          rw w.lifted-is
          (c.loop-request.invariant
          ∙ sym (gone_same former set i r c.loop-request-test.true c.request-item.is (sym c.has_owner.ensures ∙ w.if-not-has_owner.false)))
    ]

pub returns : goal.returns
returns c =
    let former = c.args.former.now in
    let set = c.args.set.now in
    let items = c.loop-request.lifted.items in
    let sorted = c.sort_unstable_by_key.new.self in
    let moved : IsPermutation items sorted =
    subst (λ xs. IsPermutation xs sorted) c.as_mut_slice.ensures.value c.sort_unstable_by_key.ensures.permutation in
    let is : items ≡ sources_of (gone former set) =
    c.loop-request.invariant ∙ ap (λ rs. sources_of (gone rs set)) (take_all c.loop-request.request-index former c.loop-request-test.false) in
    subst (λ owners. IsLifted former set (ssrcs_of owners)) (sym (refill-whole items sorted (length_permutation items sorted moved)))
    (IsLifted-sorted former set items sorted c.requires.once is moved
    (IsNonDecreasingBy-from_sort_by_key (λ (s : Ssrc). s.0) sorted c.sort_unstable_by_key.ensures.sorted (λ a r f k. search rules)))
