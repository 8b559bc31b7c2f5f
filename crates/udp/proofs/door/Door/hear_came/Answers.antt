use Rattle.std.proofs.Common.{refl}
use Rattle.udp.proofs.DoorLemmas.{exchanged_clients, exchanged_nobodys}
use Rattle.udp.proofs.door.Door.hear_came.Goals as goal

pub returns-in_ok-admitted-in-Clients-clause-hears : goal.returns-in_ok-admitted-in-Clients-clause-hears
returns-in_ok-admitted-in-Clients-clause-hears g c =
    exchanged_clients _ _ _ _ c.exchange-whose.new.self c.hear_datagram.new.self c.let_go.new.self.hearing _ _ _ _ _ _ c.exchange-whose.result
    c.exchange-whose.ensures.hears c.exchange-whose.ensures.stays.2 c.exchange-whose.ensures.stays.3 c.in-Clients.is
    c.in_ok-admitted-in-Clients.ensures.hears c.let_go.ensures.seats c.let_go.ensures.stays.0

pub returns-in-Ours : goal.returns-in-Ours
returns-in-Ours g c = record {
  taken = tt;
  moment = tt;
  hears = exchanged_nobodys _ _ _ _ c.exchange-whose.new.self _ _ _ _ c.exchange-whose.result
      c.exchange-whose.ensures.hears c.exchange-whose.ensures.stays.2 c.exchange-whose.ensures.stays.3 c.in-Ours.is;
  clock = refl;
}
