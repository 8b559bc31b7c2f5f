use Rattle.std.proofs.Common.{arith}
use Rattle.std.proofs.lemmas.Nat.{shl_whole}
use Rattle.tmmbr_tuple.specs.Tuple.{rate_of}
use Rattle.tmmbr_tuple.proofs.tuple.Tuple.rate.Goals as goal

pub returns-clause-value : goal.returns-clause-value
unfolding rate_of
returns-clause-value c =
    rw c.from.ensures (shl_whole c.args.self.mantissa 17 c.args.self.exp 128 (omega arith) (omega arith))
