-- What always holds of a desk's fields.
use Rattle.std.specs.Prelude.{◌≡◌, ℕ}
use Rattle.desk.specs.declared.desk.TheConstants.{HISTORY_LIMIT}
use Rattle.desk.specs.Standing.{Stand}
use Rattle.desk.specs.State.{DeskState, HoldsLegalDesk, now_of}

-- what stands is what the trace comes to, and the ring has room for as many entries as are listed
pub record IsHeld (d : DeskState) (room : ℕ) (s : Stand) : Type 0 where
  pub legal : HoldsLegalDesk d
  pub whole : s.whole ≡ now_of d
  pub capacity : room ≡ HISTORY_LIMIT
