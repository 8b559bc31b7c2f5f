-- What is printed of what a line gives, after what stands there.
use Rattle.std.specs.Prelude.{◌≡◌, ℕ, List, Option}
use Rattle.std.specs.Io.KnownBytes.{Appends}
use Rattle.replay.specs.Shown.{Given, Scene, Trail, lines_behind, trail_behind}
use Rattle.replay.specs.declared.printing.Choice.{Choice}

abbrev pub scene_of : Choice → Scene
scene_of choice = record { table = choice.links.now; shown = choice.shown; clock = choice.clock }

-- What is shown of this is printed, beside the gaps that end there: from one trail to another.
pub record PrintsGiven (v : Scene) (a : Trail) (given : List Given) (b : Trail)
    (old new : Option (List ℕ)) : Type 0 where
  pub printed : Appends old new (lines_behind v a given)
  pub ends : b ≡ trail_behind v a given
