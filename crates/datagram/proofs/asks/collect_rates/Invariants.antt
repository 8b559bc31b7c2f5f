use Rattle.std.proofs.Common.{◌≡◌, List, ◌++◌, map}
use Rattle.rtcp_feedback.specs.Reading.{entries_left}
use Rattle.datagram.specs.declared.reading.Ask.{Ask}
use Rattle.datagram.specs.declared.reading.Ask.TheVariants.{Rate}
use Rattle.datagram.specs.Reads.{IsListed}
use Rattle.datagram.proofs.asks.collect_rates.Given as goal

abbrev pub invariant-loop-entry : goal.invariant-loop-entry
invariant-loop-entry l = (done : List Ask) × ((asks : List Ask) → IsListed l.most asks l.fn.reading → IsListed l.most (asks ++ done) l.reading)
    × (map (λ e. Rate e.ssrc e.word) (entries_left l.fn.entries) ≡ done ++ map (λ e. Rate e.ssrc e.word) (entries_left l.entry-iterator))
