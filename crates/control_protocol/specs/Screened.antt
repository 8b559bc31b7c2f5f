-- The line of `counts` that says what was kept from the machine.
use Rattle.std.specs.Prelude.{◌++◌, ℕ, List, codes}
use Rattle.std.specs.Fmt.{decimal}
use Rattle.control_protocol.specs.declared.screened.Screened.{Screened}

-- packets that were far, packets that were held back, datagrams beyond the limit, entries beyond theirs, and milliseconds that weren't lived
abbrev pub screened_line : Screened → List ℕ
screened_line s =
    codes "far "
    ++ (decimal s.far
    ++ (codes " held "
    ++ (decimal s.held
    ++ (codes " flooded "
    ++ (decimal s.flooded
    ++ (codes " beyond "
    ++ (decimal s.beyond ++ (codes " stalled " ++ (decimal s.stalled ++ codes "\n")))))))))
