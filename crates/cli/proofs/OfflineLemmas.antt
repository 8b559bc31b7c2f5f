-- How a refused input is shown.
use Rattle.std.proofs.Common.{◌≡◌, ℕ, List, Option, None, Some}
use Rattle.std.specs.Prelude.{IfSome}
use Rattle.std.specs.Io.KnownBytes.{Keeps}
use Rattle.cli.specs.declared.status.Failure.{Failure}
use Rattle.cli.specs.declared.status.Failure.TheVariants.{NoMemory, Refused, Io}
use Rattle.cli.specs.declared.status.Status.TheVariants as status
use Rattle.cli.specs.Printed.{FailsBound, RefusesBound}
use Rattle.cli.specs.Statuses.{ShowsLine, status_of}

pub shown_refusal : (media : ℕ) (input old new errors_old errors_new : Option (List ℕ)) (failure : Failure) → status_of failure ≡ status.Refused
    → FailsBound media input old new failure → ShowsLine failure errors_old errors_new
    → IfSome input (λ text. Keeps old new × RefusesBound media text errors_old errors_new)
shown_refusal media input old new errors_old errors_new NoMemory is fails shows = cc
shown_refusal media input old new errors_old errors_new Io is fails shows = cc
shown_refusal media None old new errors_old errors_new (Refused line fault) is fails shows = tt
shown_refusal media (Some text) old new errors_old errors_new (Refused line fault) is fails shows =
    (fails.0, record { refused = record { line = line; fault = fault }; first = fails.1; shown = shows })
