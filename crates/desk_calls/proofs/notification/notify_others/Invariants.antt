use Rattle.std.proofs.Common.{◌≡◌, ◌++◌, filter, take}
use Rattle.std.specs.Prelude.{flat_map}
use Rattle.desk_calls.specs.Notification.{notice_to, is_other}
use Rattle.desk_calls.proofs.notification.notify_others.Given as goal

abbrev pub invariant-loop-leg : goal.invariant-loop-leg
invariant-loop-leg l =
    l.outs.items ≡ l.initial.outs.items
    ++ flat_map (notice_to l.links l.head l.entries) (filter (is_other l.rows l.notification.asked_by) (take l.leg-index l.leg-items))
