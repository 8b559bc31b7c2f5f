use Rattle.std.proofs.Common.{◌≡◌, List, length, get_or, map, subst, arith}
use Rattle.rate_cert.specs.declared.request.Request.{Request}
use Rattle.rate_cert.specs.declared.certificate.Kept.{Kept}
use Rattle.rate_cert.specs.Certificate.{places_of}
use Rattle.bounding_set.specs.Certificate.{implied_by, dropped_places}
use Rattle.bounding_set.specs.Kept.{listed_of}
use Rattle.bounding_set.proofs.CertificateLemmas.{no_more_than_rows, AnnouncesFor-certificate}
use Rattle.bounding_set.proofs.certificate.certify.Goals as goal

pub keep-requires-clause-few : goal.keep-requires-clause-few
keep-requires-clause-few c =
    let list = c.requires.announced in
    let few = no_more_than_rows c.args.rows.now c.args.announced.now list.are_rows list.in_order in
    omega (arith, few, c.requires.within)

pub returns-clause-announced : goal.returns-clause-announced
returns-clause-announced c =
    let rows = c.args.rows.now in
    let implied = c.imply_others.new.implied.items in
    let Follow : List Kept → Type 0 = λ kept. (d : Request) → implied
    ≡ map (λ place. implied_by (listed_of rows d kept) place (get_or rows place d).tuple.overhead) (dropped_places (length rows) (places_of kept)) in
    AnnouncesFor-certificate rows c.args.announced.now c.keep.new.kept.items implied c.requires.rising c.requires.announced
    c.keep.ensures.requests c.keep.ensures.pairs (subst Follow c.as_slice-entries.ensures.value c.imply_others.ensures)
