-- The settings that a unit is served with are those of a text.
use Rattle.std.proofs.Common.{Bool, List, ℕ}
use Rattle.std.specs.declared.net.socket_addr.SocketAddr.{SocketAddr}
use Rattle.addresses.specs.ServedFile.{GivesPlaces}
use Rattle.addresses.specs.declared.served_file.ServedSettings.{ServedSettings}
use Rattle.commands.specs.Planned.{AreOfText}

pub of_places : (same : SocketAddr → SocketAddr → Bool) (text : List ℕ) (s : ServedSettings) → GivesPlaces same text s → AreOfText s.settings
of_places same text s g = record { text = text; file = g.file; gives = g.gives; are = g.places.settings }
