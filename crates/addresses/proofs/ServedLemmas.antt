-- What a settings file gives to a unit that listens.
use Rattle.std.proofs.Common.{◌≡◌, ◌⊎◌, ℕ, Bool, List, Some, Result, Ok, Err, IfErr, IfOk, inl, inr, sym, subst}
use Rattle.std.specs.declared.net.socket_addr.SocketAddr.{SocketAddr}
use Rattle.addresses.specs.ServedFile.{GivesPlaces, IsPlacedFault, IsPlacedOr, IsServedFault, PlacesFile}
use Rattle.settings_toml.specs.SettingsFaults.{Spot, TextGives, problem_spot}
use Rattle.addresses.specs.declared.served_file.ServedSettings.{ServedSettings}
use Rattle.settings_toml.specs.declared.settings_file.FileSettings.{FileSettings}
use Rattle.settings_toml.specs.declared.settings_file.SettingsProblem.{SettingsProblem}
use Rattle.settings_toml.specs.declared.settings_file.SettingsProblem.TheVariants.{NoMemory, File, Toml, Top, Endpoint, Leg, SameSsrc}

-- what places a file that a text gives is given by the text
pub gives_places : (same : SocketAddr → SocketAddr → Bool) (text : List ℕ) (file : FileSettings) (r : Result ServedSettings SettingsProblem) → TextGives text (Ok file)
    → IfOk r (PlacesFile same file) → IfOk r (GivesPlaces same text)
gives_places same text file (Ok s) gives places = record { file = file; gives = gives; places = places }
gives_places same text file (Err problem) gives places = tt

-- what stands at a place, or want of memory, is no fault of the file as a whole
pub placed_fault : (p : SettingsProblem) (s : Spot) → (p ≡ NoMemory) ⊎ (problem_spot p ≡ Some s) → IsPlacedFault p
placed_fault NoMemory s h = tt
placed_fault File s h = elim h [ inl e ↦ absurd (cc) | inr e ↦ absurd (cc) ]
placed_fault Toml s h = elim h [ inl e ↦ absurd (cc) | inr e ↦ absurd (cc) ]
placed_fault (Top key) s h = tt
placed_fault (Endpoint number key) s h = tt
placed_fault (Leg number key) s h = tt
placed_fault SameSsrc s h = tt

pub placed_or : (found p : SettingsProblem) (s : Spot) → (p ≡ NoMemory) ⊎ (problem_spot p ≡ Some s) → IsPlacedOr found p
placed_or found p s h = inr (placed_fault p s h)

pub served_of_placed : {X : Type 0} (text : List ℕ) (r : Result X SettingsProblem) → IfErr r IsPlacedFault → IfErr r (IsServedFault text)
served_of_placed text (Ok x) h = tt
served_of_placed text (Err p) h = inr h

pub served_of_problem : (text : List ℕ) (found said : SettingsProblem) → IsPlacedOr found said → TextGives text (Err found)
    → IsServedFault text said
served_of_problem text found said h gives =
    let P : SettingsProblem → Type 0 = λ p. TextGives text (Err p) in
    elim h [ inl e ↦ inl (subst P (sym e) gives) | inr placed ↦ inr placed ]
