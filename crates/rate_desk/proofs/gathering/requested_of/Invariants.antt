use Rattle.std.proofs.Common.{◌≡◌, ◌^◌, ◌-◌, take}
use Rattle.std.specs.Prelude.{sum_by, min}
use Rattle.rate_desk.specs.Shares.{words_to}
use Rattle.rate_desk.proofs.gathering.requested_of.Given as goal

abbrev pub invariant-loop-seat : goal.invariant-loop-seat
invariant-loop-seat g l = l.total ≡ min (sum_by (words_to l.publisher) (take l.seat-index l.seats)) (2 ^ 128 - 1)
