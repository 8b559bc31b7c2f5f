use Rattle.std.proofs.Common.{◌∙◌, sym, subst, ap, length, List, ◌<◌}
use Rattle.std.specs.Prelude.{All}
use Rattle.rate_cert.specs.declared.request.Request.{Request}
use Rattle.rate_cert.specs.declared.certificate.Kept.{Kept}
use Rattle.rate_cert.specs.declared.certificate.Implied.{Implied}
use Rattle.rate_cert.specs.declared.certificate.Cert.{Cert}
use Rattle.rate_cert.specs.Certificate.{IsInRange}
use Rattle.rate_cert.proofs.CheckerLemmas.{kept_in_range, implied_in_range}
use Rattle.request_text.proofs.text.desk_text.Goals as goal

pub push_kept-requires : goal.push_kept-requires
push_kept-requires c =
    let bounds = c.args.desk.now.bounds in
    let in_range = kept_in_range bounds.rows bounds.cert.kept.items bounds.cert.implied.items c.cert-cert.ensures.legal.announced.certified.places in
    let kept = c.as_slice-3.ensures.value ∙ ap (λ (k : Cert). k.kept.items) c.cert-cert.ensures.value in
    let live = c.live-rows.ensures.value ∙ sym c.live-rows.ensures.legal.live in
    subst (λ (ks : List Kept). All (λ k. k.place < length c.live-rows.result.now) ks) (sym kept)
    (subst (λ (rows : List Request). All (λ k. k.place < length rows) bounds.cert.kept.items) (sym live) in_range)

pub push_implied-requires : goal.push_implied-requires
push_implied-requires c =
    let bounds = c.args.desk.now.bounds in
    let in_range = implied_in_range bounds.rows bounds.cert.kept.items bounds.cert.implied.items c.cert-cert.ensures.legal.announced.certified.places in
    let implied = c.as_slice-4.ensures.value ∙ ap (λ (k : Cert). k.implied.items) c.cert-cert.ensures.value in
    let live = c.live-rows.ensures.value ∙ sym c.live-rows.ensures.legal.live in
    subst (λ (is : List Implied). All (IsInRange c.live-rows.result.now) is) (sym implied)
    (subst (λ (rows : List Request). All (IsInRange rows) bounds.cert.implied.items) (sym live) in_range)
