use Rattle.std.proofs.Common.{◌∙◌, sym, subst, ap, length, List, ◌<◌}
use Rattle.std.specs.Prelude.{All}
use Rattle.rate_cert.specs.declared.request.Request.{Request}
use Rattle.rate_cert.specs.declared.certificate.Kept.{Kept}
use Rattle.rate_cert.specs.declared.certificate.Implied.{Implied}
use Rattle.rate_cert.specs.declared.certificate.Cert.{Cert}
use Rattle.rate_cert.proofs.CheckerLemmas.{kept_in_range, implied_in_range}
use Rattle.drawing.proofs.PictureLemmas.{implied_places}
use Rattle.drawing.proofs.picture.set_picture.Goals as goal

pub draw-requires-clause-kept : goal.draw-requires-clause-kept
draw-requires-clause-kept c =
    let cert = c.args.bounds.now.cert in
    let in_range = kept_in_range c.args.bounds.now.rows cert.kept.items cert.implied.items c.cert-cert.ensures.announced.certified.places in
    let kept = c.as_slice-kept.ensures.value ∙ ap (λ (k : Cert). k.kept.items) c.cert-cert.ensures.value in
    subst (λ (ks : List Kept). All (λ k. k.place < length c.rows-rows.result.now) ks) (sym kept)
    (subst (λ (rows : List Request). All (λ (k : Kept). k.place < length rows) cert.kept.items) (sym c.rows-rows.ensures.value) in_range)

pub draw-requires-clause-implied : goal.draw-requires-clause-implied
draw-requires-clause-implied c =
    let cert = c.args.bounds.now.cert in
    let in_range = implied_places c.args.bounds.now.rows cert.implied.items (implied_in_range c.args.bounds.now.rows cert.kept.items cert.implied.items c.cert-cert.ensures.announced.certified.places) in
    let implied = c.as_slice-implied.ensures.value ∙ ap (λ (k : Cert). k.implied.items) c.cert-cert.ensures.value in
    subst (λ (is : List Implied). All (λ (i : Implied). i.place < length c.rows-rows.result.now) is) (sym implied)
    (subst (λ (rows : List Request). All (λ (i : Implied). i.place < length rows) cert.implied.items) (sym c.rows-rows.ensures.value) in_range)
