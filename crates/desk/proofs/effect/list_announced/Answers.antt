use Rattle.std.proofs.Common.{List, sym, subst, ap, ◌∙◌}
use Rattle.rate_cert.specs.declared.request.Request.{Request}
use Rattle.rate_cert.specs.declared.certificate.Cert.{Cert}
use Rattle.rate_cert.specs.Choice.{IsChoice, chosen_requests}
use Rattle.rate_cert.specs.Certificate.{kept_places}
use Rattle.desk.proofs.effect.list_announced.Goals as goal

pub list_kept-requires : goal.list_kept-requires
list_kept-requires c =
    subst (λ (rows : List Request). IsChoice rows (kept_places c.cert.result.now)) (sym c.rows.ensures.value)
    (subst (λ (cert : Cert). IsChoice c.args.bounds.now.rows (kept_places cert)) (sym c.cert.ensures.value) c.cert.ensures.announced.canonical.choice)

pub returns : goal.returns
returns c =
    c.list_kept.ensures
    ∙ ap (λ (rows : List Request). chosen_requests rows (kept_places c.cert.result.now)) c.rows.ensures.value
    ∙ ap (λ (cert : Cert). chosen_requests c.args.bounds.now.rows (kept_places cert)) c.cert.ensures.value
