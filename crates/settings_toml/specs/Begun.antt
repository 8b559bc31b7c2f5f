-- The settings of a room whose legs begin with other numbers than its text says.
use Rattle.std.specs.Prelude.{◌≡◌, ℕ, ◌+◌, pos, List, [], ◌∷◌, Option, None, Some, slice_get}
use Rattle.std.specs.Str.{IsUtf8}
use Rattle.toml.specs.Data.{Members}
use Rattle.toml.specs.Parse.{parse_document}
use Rattle.settings.specs.declared.parts.Extras.{Extras}
use Rattle.settings.specs.declared.parts.LegParts.{LegParts}
use Rattle.settings.specs.declared.parts.Parts.{Parts}
use Rattle.settings.specs.Settings.{Configuration, additions_of, configuration_of}
use Rattle.settings_toml.specs.SettingsFile.{AreExtrasOf, ArePartsOf}

-- a leg that begins with this number; without one, as it says itself
abbrev pub begun_leg : Option ℕ → LegParts → LegParts
begun_leg None leg = leg
begun_leg (Some number) leg = record leg { first_seq = Some (pos number) }

-- legs of which the first has this number, each with the number at its place
abbrev pub begun_legs : List ℕ → ℕ → List LegParts → List LegParts
begun_legs numbers k [] = []
begun_legs numbers k (leg ∷ legs) =
    begun_leg (slice_get numbers k) leg ∷ begun_legs numbers (k + 1) legs

-- The settings that a table spells, but that its legs begin with these numbers.
pub record TableBegins (t : Members) (numbers : List ℕ) (s : Configuration) : Type 0 where
  pub own : Parts
  pub found : ArePartsOf t own
  pub extras : Extras
  pub added : AreExtrasOf t extras
  pub parts : Parts
  pub others : parts ≡ record own { legs = parts.legs }
  pub legs : parts.legs.items ≡ begun_legs numbers 0 own.legs.items
  pub settings : s ≡ configuration_of parts (additions_of extras)

-- The same of a text.
pub record BeginsWith (text numbers : List ℕ) (s : Configuration) : Type 0 where
  pub table : Members
  pub utf8 : IsUtf8 text
  pub read : parse_document text ≡ Some table
  pub begins : TableBegins table numbers s
