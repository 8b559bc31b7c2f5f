use Rattle.std.proofs.Common.{◌≡◌, ◌<◌, ◌∙◌, sym, ap, subst, length, get_or, take, [], ◌∷◌, ◌++◌, lit<, arith}
use Rattle.std.proofs.lemmas.List.{length-map, length-take}
use Rattle.rate_cert.specs.declared.certificate.Kept.{Kept}
use Rattle.rate_cert.specs.Certificate.{places_of}
use Rattle.rate_cert.specs.Choice.{IsChoice, chosen_requests}
use Rattle.rate_cert.proofs.ChoiceLemmas.{length-chosen, kept_below, chosen_more}
use Rattle.desk.proofs.effect.list_kept.Goals as goal

pub bounds-rows-from : goal.bounds-rows-from
bounds-rows-from c =
    let kept = c.as_slice-kept.result.now in
    let choice : IsChoice c.args.rows.now (places_of kept) =
    subst (λ ks. IsChoice c.args.rows.now (places_of ks)) (sym c.as_slice-kept.ensures.value) c.requires in
    let below = kept_below c.args.rows.now kept choice c.loop-entry.entry-index c.entry-item.result c.loop-entry-test.true in
    rw c.from.ensures (subst (λ (k : Kept). k.place < length c.args.rows.now) (sym c.entry-item.is) below)

pub push-requires : goal.push-requires
push-requires c = (
  lit< tt,
  let kept = take c.loop-entry.entry-index c.as_slice-kept.result.now in
      let few = length-chosen c.args.rows.now (places_of kept) in
      omega (arith, few, ap length c.loop-entry.invariant, length-map kept (λ k. k.place), length-take c.loop-entry.entry-index c.as_slice-kept.result.now),
)

pub loop-entry-preserved : goal.loop-entry-preserved
loop-entry-preserved c =
    let rows = c.args.rows.now in
    let kept = c.as_slice-kept.result.now in
    let i = c.loop-entry.entry-index in
    let k = get_or kept i c.entry-item.result in
    let choice : IsChoice rows (places_of kept) =
    subst (λ ks. IsChoice rows (places_of ks)) (sym c.as_slice-kept.ensures.value) c.requires in
    let below = kept_below rows kept choice i c.entry-item.result c.loop-entry-test.true in
    let at : get_or rows k.place c.index-rows-from.result ≡ c.index-rows-from.result =
    ap (λ place. get_or rows place c.index-rows-from.result) (sym (c.from.ensures ∙ ap (λ (e : Kept). e.place) c.entry-item.is))
    ∙ sym c.index-rows-from.is in
    c.push.ensures.items
    ∙ ap (λ xs. xs ++ c.index-rows-from.result ∷ []) c.loop-entry.invariant
    ∙ ap (λ x. chosen_requests rows (places_of (take i kept)) ++ x ∷ []) (sym at)
    ∙ sym (chosen_more rows kept i c.entry-item.result c.index-rows-from.result c.loop-entry-test.true below)
