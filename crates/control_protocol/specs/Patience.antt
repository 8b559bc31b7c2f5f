-- For how long a peer is waited for.
use Rattle.std.specs.Prelude.{ℕ, ◌-◌, ◌&&◌, nat_le, Bool, false, if◌then◌else◌}
use Rattle.control_protocol.specs.declared.patience.TheConstants.{PATIENCE_MS}

-- A peer is let go that has been silent for so long since it was heard last, unless it stays and has taken all that it was told.
abbrev pub is_let_go : Bool → Bool → ℕ → ℕ → Bool
is_let_go stays has_taken since moment =
    if stays && has_taken then false else nat_le PATIENCE_MS (moment - since)
