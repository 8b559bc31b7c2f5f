use Rattle.std.proofs.Common.{sym}
use Rattle.addresses.proofs.SeatingLemmas.{hears_at}
use Rattle.addresses.specs.Seating.{seats_of}
use Rattle.addresses.proofs.seating.Seating.hear_at.Goals as goal

pub returns : goal.returns
returns c =
    hears_at (seats_of c.args.self.now) (seats_of c.sit.new.self) c.args.endpoint _ c.in-Some.seat _ _ c.args.moment
    c.saturating_add-until_ms.result c.arrive-arrival.result c.kept-kept.result (sym c.in-Some.ensures) c.saturating_add-until_ms.ensures c.arrive-arrival.ensures
    c.kept-kept.ensures.either c.kept-kept.ensures.same c.sit.ensures c.hear_if.ensures.heard c.hear_if.ensures.nobodys
