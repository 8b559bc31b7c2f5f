use Rattle.std.proofs.Common.{subst}
use Rattle.std.specs.Prelude.{IfOk}
use Rattle.bounding_set.specs.Rows.{IsRowOf}
use Rattle.bounding_set.proofs.KeptLemmas.{StandsAt-row}
use Rattle.bounding_set.proofs.places.place_in.Goals as goal

pub returns : goal.returns
returns c =
    let rows = c.args.rows.now in
    let owner = c.args.request.now.owner.0 in
    let is : IsRowOf rows owner c.unwrap.result =
    subst (λ r. IfOk r (IsRowOf rows owner)) c.unwrap.ensures c.place_of.ensures.found in
    StandsAt-row rows c.args.request.now c.unwrap.result c.requires.rising c.requires.live is
