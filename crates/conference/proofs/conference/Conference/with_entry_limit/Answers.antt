use Rattle.std.proofs.Common.{subst, sym}
use Rattle.conference.specs.Conference.{ConferenceState, IsNewConference}
use Rattle.conference.specs.Limited.{limit_by}
use Rattle.conference.proofs.conference.Conference.with_entry_limit.Goals as goal

pub returns-clause-is_new : goal.returns-clause-is_new
returns-clause-is_new c =
    subst (λ (s : ConferenceState). IsNewConference c.args.settings.now s) (sym c.conference_of.ensures)
    (c.in_ok-world.ensures.is_new (limit_by c.args.entry_limit))
