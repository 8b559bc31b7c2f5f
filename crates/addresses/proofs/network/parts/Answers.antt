use Rattle.std.proofs.Common.{arith}
use Rattle.addresses.proofs.network.parts.Goals as goal

pub returns : goal.returns
returns c = c.split_once.ensures.byte (omega arith) (λ w o f. f)
