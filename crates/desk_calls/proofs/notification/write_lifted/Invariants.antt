use Rattle.std.proofs.Common.{◌≡◌, ◌++◌, take}
use Rattle.desk_calls.specs.Notification.{lifted_bytes}
use Rattle.desk_calls.proofs.notification.write_lifted.Given as goal

abbrev pub invariant-loop-owner : goal.invariant-loop-owner
invariant-loop-owner l = l.bytes.items ≡ l.fn.bytes.items ++ lifted_bytes l.publisher (take l.owner-index l.owners)
