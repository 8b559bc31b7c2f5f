use Rattle.std.proofs.Common.{◌≡◌, List, ◌++◌, map}
use Rattle.rtcp_feedback.specs.Reading.{nacks_left}
use Rattle.datagram.specs.declared.reading.Ask.{Ask}
use Rattle.datagram.specs.declared.reading.Ask.TheVariants.{Resend}
use Rattle.datagram.specs.Reads.{IsListed}
use Rattle.datagram.proofs.asks.collect_resends.Given as goal

abbrev pub invariant-loop-nack : goal.invariant-loop-nack
invariant-loop-nack l = (done : List Ask) × ((asks : List Ask) → IsListed l.most asks l.fn.reading → IsListed l.most (asks ++ done) l.reading)
    × (map (λ n. Resend l.media n) (nacks_left l.fn.entries) ≡ done ++ map (λ n. Resend l.media n) (nacks_left l.nack-iterator))
