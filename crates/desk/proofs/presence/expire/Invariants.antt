use Rattle.std.proofs.Common.{◌≡◌}
use Rattle.desk.proofs.PresenceLemmas.{aged}
use Rattle.desk.proofs.presence.expire.Given as goal

abbrev pub invariant-loop-p : goal.invariant-loop-p
invariant-loop-p l = l.slice ≡ aged l.request_ms l.now l.p-index l.fn.present.items
