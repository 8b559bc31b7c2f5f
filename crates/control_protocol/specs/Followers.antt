-- Who follows what happens, and what each of them is told.
use Rattle.std.specs.Prelude.{◌≡◌, ◌<◌, ◌++◌, ◌⊎◌, ℕ, Bool, true, false, List, [], ◌∷◌, length, codes, if◌then◌else◌}
use Rattle.control_protocol.specs.Outboxes.{OutboxState, new_outbox, with_put}
use Rattle.control_protocol.specs.declared.followers.TheConstants.{MAX_FOLLOWERS}

-- a peer that follows: what waits for it, and whether it wasn't told yet what is so already
pub record FollowerState : Type 0 where
  pub outbox : OutboxState
  pub is_new : Bool

abbrev pub follower_of : OutboxState → Bool → FollowerState
follower_of outbox is_new = record { outbox = outbox; is_new = is_new }

-- one that begins: its request is done
abbrev pub new_follower : FollowerState
new_follower = follower_of (with_put new_outbox (codes "ok\n")) true

-- it is told the news, or, the first time, all that is so
abbrev pub told : List ℕ → List ℕ → FollowerState → FollowerState
told news whole f = follower_of (with_put f.outbox (if f.is_new then whole else news)) false

-- it is told this, be it new or not
abbrev pub told_all : List ℕ → FollowerState → FollowerState
told_all line f = follower_of (with_put f.outbox line) f.is_new

-- one more follows, if fewer do than may, or nobody more
abbrev pub TakesFollower : List FollowerState → List FollowerState → Type 0
TakesFollower before after =
    (after ≡ before)
    ⊎ ((length before < MAX_FOLLOWERS) × (after ≡ before ++ new_follower ∷ []))
