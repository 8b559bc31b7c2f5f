-- The tables by which links are found.
use Rattle.std.specs.Prelude.{◌≡◌, ℕ, nat_eq, List, length, Some, slice_get}
use Rattle.std.specs.Global.{Vec}
use Rattle.std.specs.List.{enumerate_from}
use Rattle.std.specs.HashMap.{HashMap, get}
use Rattle.std.specs.declared.hash.FoldHasher.{FoldHasher}
use Rattle.std.specs.declared.hash.BuildHasherDefault.{BuildHasherDefault}
use Rattle.settings.specs.declared.settings.LegSettings.{LegSettings}
use Rattle.settings.specs.Links.{leg_numbers_of, first_to}

abbrev pub Sources : Type 0
Sources = HashMap ℕ ℕ (BuildHasherDefault FoldHasher)

-- so many lists, the list at each number has the legs of the publisher with that number
pub record ListsLegs (lists : List (Vec ℕ)) (count : ℕ) (legs : List LegSettings) : Type 0 where
  pub size : length lists ≡ count
  pub each : (k : ℕ) (v : Vec ℕ) → slice_get lists k ≡ Some v
      → v.items ≡ leg_numbers_of k (enumerate_from 0 legs)

-- so many maps, the map at each number has the legs to the subscriber with that number, by their sources
pub record FindsLegs (maps : List Sources) (count : ℕ) (legs : List LegSettings) : Type 0 where
  pub size : length maps ≡ count
  pub each : (k : ℕ) (m : Sources) → slice_get maps k ≡ Some m
      → (source : ℕ) → get nat_eq m source ≡ first_to k source (enumerate_from 0 legs)
