-- What is announced for a publisher, with what shows it.
use Rattle.std.specs.Prelude.{◌≡◌}
use Rattle.bounding_set.specs.State.{State, AnnouncesSmallest}
use Rattle.conference.specs.declared.certified.Certified.{Certified}

-- These live requests are shown, with the certificate of the set that is announced for them, which is the smallest.
pub record Shows (bounds : State) (shown : Certified) : Type 0 where
  pub live : shown.live.now ≡ bounds.rows
  pub cert : shown.cert.now ≡ bounds.cert
  pub announced : AnnouncesSmallest bounds
