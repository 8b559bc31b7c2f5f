use Rattle.std.proofs.Common.{ap}
use Rattle.udp.specs.Address.{four_turned}
use Rattle.udp.proofs.address.four_turned.Goals as goal

pub returns : goal.returns
returns c = ap four_turned c.octets-o.ensures
