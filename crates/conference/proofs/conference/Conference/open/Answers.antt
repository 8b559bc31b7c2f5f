use Rattle.std.proofs.Common.{rules}
use Rattle.conference.proofs.OpeningLemmas.{has_workers, opens_by}
use Rattle.conference.proofs.conference.Conference.open.Goals as goal

pub returns-then-workers-ne1-clause-err : goal.returns-then-workers-ne1-clause-err
returns-then-workers-ne1-clause-err c =
    has_workers c.args.text.now c.in-Ok.file c.read_settings.result c.workers-workers.result c.read_settings.ensures c.in-Ok.is
    c.workers-workers.ensures.value (search rules)

pub returns-in-Ok-with_entry_limit-clause-ok : goal.returns-in-Ok-with_entry_limit-clause-ok
returns-in-Ok-with_entry_limit-clause-ok c =
    opens_by c.args.text.now c.in-Ok.file c.read_settings.result c.workers-workers.result c.in-Ok-with_entry_limit.conference c.read_settings.ensures
    c.in-Ok.is c.workers-workers.ensures.value (search rules) c.in-Ok-with_entry_limit.ensures.is_new c.in-Ok-with_entry_limit.ensures.limit
