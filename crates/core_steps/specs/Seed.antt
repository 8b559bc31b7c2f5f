-- Jobs that wait to be pushed.
use Rattle.std.specs.Prelude.{ℕ, List}
use Rattle.events.specs.declared.job.Job.{Job}
use Rattle.events.specs.declared.job.Job.TheVariants as job
use Rattle.core_steps.specs.declared.seed.Seed.{Seed}
use Rattle.core_steps.specs.declared.seed.Seed.TheVariants.{Packet, Request, Resend, Pli, Report, Goodbye}

-- the job of a seed, if the datagram has these bytes
abbrev pub job_of : List ℕ → Seed → Job
job_of bytes (Packet publisher) = job.Packet publisher bytes
job_of bytes (Request leg stay word) = job.Request leg stay word
job_of bytes (Resend leg stay nack) = job.Resend leg stay nack
job_of bytes (Pli leg moment) = job.Pli leg moment
job_of bytes (Report leg stay sr) = job.Report leg stay sr
job_of bytes (Goodbye leg) = job.Goodbye leg
