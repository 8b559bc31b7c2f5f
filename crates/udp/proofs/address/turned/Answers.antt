use Rattle.std.proofs.Common.{ap}
use Rattle.udp.specs.Address.{turned_four}
use Rattle.udp.proofs.address.turned.Goals as goal

pub returns : goal.returns
returns c = ap (λ o. turned_four o 0) c.octets-o.ensures
