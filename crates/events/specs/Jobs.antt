-- Which jobs ask a desk.
use Rattle.std.specs.Prelude.{ℕ, Option, None, Some}
use Rattle.events.specs.declared.job.Job.{Job}
use Rattle.events.specs.declared.job.Job.TheVariants.{Packet, Request, Resend, Pli, Report, Goodbye}

-- The leg by which a job asks a publisher's desk for a rate (RFC 5104, section 4.2.1) or a picture (RFC 4585, section 6.3.1). None
-- for all else, which is done on the worker's legs.
abbrev pub leg_asking : Job → Option ℕ
leg_asking (Packet publisher packet) = None
leg_asking (Request leg stay word) = Some leg
leg_asking (Resend leg stay nack) = None
leg_asking (Pli leg moment) = Some leg
leg_asking (Report leg stay sr) = None
leg_asking (Goodbye leg) = None
