use Rattle.std.proofs.Common.{◌≡◌, length, arith}
use Rattle.std.proofs.lemmas.Bool.Decides.{nat_tests}
use Rattle.bounding_set.proofs.BoundsLemmas.{AnnouncesList-lines}
use Rattle.bounding_set.proofs.announced.announce.Goals as goal

pub certify-requires-clause-announced : goal.certify-requires-clause-announced
certify-requires-clause-announced c =
    let none : length c.args.stops.now ≡ 0 = grind (arith, nat_tests, c.is_empty.ensures, c.if-is_empty.true) in
    AnnouncesList-lines c.args.rows.now c.args.lines.now c.requires.rising c.requires.envelope (c.requires.holds.none none)
