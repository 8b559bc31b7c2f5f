-- What is counted of what a job or a notification came to.
use Rattle.std.specs.Prelude.{Result, Ok, Err, alloc_error}
use Rattle.std.specs.declared.alloc.AllocError.{AllocError}
use Rattle.forwarding.specs.declared.done.Forwarded.{Forwarded}
use Rattle.forwarding.specs.declared.done.ForwardFault.{ForwardFault}
use Rattle.forwarding.specs.declared.done.ForwardFault.TheVariants.{NoView, NoMemory}
use Rattle.worker_threads.specs.declared.counts.Outcome.{Outcome}

-- what was sent and couldn't be, or one more that was given up
abbrev pub outcome_of : Result Forwarded ForwardFault → Outcome
outcome_of (Ok done) = record { sent = done.sent; failed = done.failed; dropped = 0 }
outcome_of (Err fault) = record { sent = 0; failed = 0; dropped = 1 }

-- what is counted of what the ingress told; want of memory isn't, since it ends the run
abbrev pub counted_of : Result Forwarded ForwardFault → Result Outcome AllocError
counted_of (Ok done) = Ok (outcome_of (Ok done))
counted_of (Err NoView) = Ok (outcome_of (Err NoView))
counted_of (Err NoMemory) = Err alloc_error
