use Rattle.std.proofs.Common.{◌≡◌, ◌++◌, take}
use Rattle.desk_calls.specs.Notification.{fresh_bytes}
use Rattle.desk_calls.proofs.notification.write_fresh.Given as goal

abbrev pub invariant-loop-request : goal.invariant-loop-request
invariant-loop-request l = l.bytes.items ≡ l.fn.bytes.items ++ fresh_bytes l.publisher (take l.request-index l.requests)
