use Rattle.std.proofs.Common.{take}
use Rattle.rate_cert.specs.Certificate.{places_of}
use Rattle.desk.proofs.KeptLemmas.{HasBits}
use Rattle.desk.proofs.kept.kept_bits.Given as goal

abbrev pub invariant-loop-kept : goal.invariant-loop-kept
invariant-loop-kept l = HasBits (places_of (take l.kept-index l.cert.kept.items)) l.words
