use Rattle.std.proofs.Common.{◌≡◌}
use Rattle.bounding_set.specs.State.{AnnouncesSmallest}
use Rattle.desk.specs.Presence.{live_requests}
use Rattle.desk.proofs.PresenceLemmas.{aged}
use Rattle.desk.proofs.standing.remove_old.Given as goal

abbrev pub invariant-loop-p : goal.invariant-loop-p
invariant-loop-p l = (l.bounds.rows ≡ live_requests (aged l.request_ms l.now l.p-index l.present)) × AnnouncesSmallest l.bounds
