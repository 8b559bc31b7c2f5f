use Rattle.std.proofs.Common.{ap, arith, false, get_or}
use Rattle.control_protocol.specs.PresenceNews.{change_line}
use Rattle.control_protocol.proofs.NewsLemmas.{pushed}
use Rattle.control_protocol.proofs.presence_news.push_presence_news.Goals as goal

pub loop-endpoint-preserved : goal.loop-endpoint-preserved
loop-endpoint-preserved c =
    pushed c.loop-endpoint.endpoint c.args.before.now c.args.after.now false _ _ _ _ (omega arith) c.in_ok-push_change.ensures
    (ap (λ was. change_line c.loop-endpoint.endpoint was (get_or c.args.after.now c.loop-endpoint.endpoint false)) c.was_present.ensures) c.loop-endpoint.invariant
