use Rattle.std.proofs.Common.{◌≡◌, ◌++◌, take, drop, map}
use Rattle.control_protocol.specs.Followers.{follower_of, told_all}
use Rattle.control_protocol.proofs.followers.tell_each_this.Given as goal

abbrev pub invariant-loop-follower : goal.invariant-loop-follower
invariant-loop-follower g l =
    map (told_all l.line) (map (λ follower. follower_of follower.outbox follower.is_new) l.initial.followers)
    ≡ map (λ follower. follower_of follower.outbox follower.is_new) (take l.follower-index l.followers)
    ++ map (told_all l.line) (map (λ follower. follower_of follower.outbox follower.is_new) (drop l.follower-index l.followers))
