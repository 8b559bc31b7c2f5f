-- Which jobs wait until their ring has room.
use Rattle.std.specs.Prelude.{Bool, true, false}
use Rattle.events.specs.declared.job.Job.{Job}
use Rattle.events.specs.declared.job.Job.TheVariants.{Packet, Request, Resend, Pli, Report, Goodbye}

-- a report, of which a full room has more in a round than a ring has places
abbrev pub may_wait : Job → Bool
may_wait (Packet publisher bytes) = false
may_wait (Request leg stay word) = false
may_wait (Resend leg stay nack) = false
may_wait (Pli leg moment) = false
may_wait (Report leg stay sr) = true
may_wait (Goodbye leg) = false
