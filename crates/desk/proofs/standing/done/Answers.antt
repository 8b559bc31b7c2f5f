use Rattle.std.proofs.Common.{ap, arith, length, sym, subst}
use Rattle.rate_cert.specs.declared.certificate.Cert.{Cert}
use Rattle.rate_cert.specs.Certificate.{kept_places}
use Rattle.bounding_set.specs.Canonical.{IsCanonical}
use Rattle.desk.specs.Call.{moment_after}
use Rattle.desk.specs.Trace.{present_behind}
use Rattle.desk.proofs.KeptLemmas.{kept_below_limit}
use Rattle.desk.proofs.LiveLemmas.{few_live}
use Rattle.desk.proofs.PresenceLemmas.{few-by}
use Rattle.desk.proofs.standing.done.Goals as goal

pub kept_bits-kept-requires : goal.kept_bits-kept-requires
kept_bits-kept-requires c =
    let before = c.args.before.now in
    let call = c.args.call.now in
    let present = before.present.items in
    let rows = c.follow.new.bounds.rows in
    let is = c.requires.stand.base in
    let few = few-by c.args.request_ms (moment_after before.greatest call) present call is.rising is.stays c.requires.stays c.requires.accepted is.few in
    let canonical : IsCanonical rows (kept_places c.cert.result.now) =
    subst (λ (cert : Cert). IsCanonical rows (kept_places cert)) (sym c.cert.ensures.value) c.cert.ensures.announced.canonical in
    kept_below_limit rows c.cert.result.now
    (omega (arith, ap length c.follow.ensures.live, few_live (present_behind c.args.request_ms before call), few)) canonical
