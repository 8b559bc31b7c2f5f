use Rattle.std.proofs.Common.{◌∙◌, ap, refl}
use Rattle.udp.proofs.hearing.Hearing.hear_again.Goals as goal

pub returns-clause-packet : goal.returns-clause-packet
returns-clause-packet c _ _ = record {
  read = c.read.new.self;
  takes = refl;
  reads = c.in_ok-read.ensures.from;
  holds = c.hold.ensures.holds;
  same = c.hold.ensures.same;
  stays = ap (λ b. b.items) (c.hold.ensures.same.buffer ∙ c.in_ok-read.ensures.buffer);
  ingress_filter = c.hold.ensures.stays.1;
  held_packets = c.hold.ensures.stays.2;
  most = c.hold.ensures.stays.3;
}
