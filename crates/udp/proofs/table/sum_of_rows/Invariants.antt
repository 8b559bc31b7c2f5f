use Rattle.std.proofs.Common.{◌≡◌, ◌-◌, ◌^◌, map, min, sum_by, take}
use Rattle.udp.specs.Rows.{drops_of_row}
use Rattle.udp.proofs.table.sum_of_rows.Given as goal

abbrev pub invariant-loop-line : goal.invariant-loop-line
invariant-loop-line l =
    l.total
    ≡ min (sum_by (drops_of_row l.fn.address) (map (λ x. x.now) (take l.line-index l.lines))) (2 ^ 64 - 1)
