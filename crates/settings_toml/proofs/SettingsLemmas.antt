-- Reading settings: what tables and lists hold, in the words of the specification.
use Rattle.std.proofs.Common.{◌≡◌, Bool, false, List, [], ◌∷◌, map, Option, None, Some, Result, Ok, Err, IfSome, ◌⊎◌, inl, inr, refl, ap, sym, ◌∙◌}
use Rattle.std.specs.List.{list_all}
use Rattle.toml.specs.Data.{Data, Items, Members, string, integer, float, boolean, datetime, array, table, as_array}
use Rattle.toml.specs.View.{items_of, items_view, view}
use Rattle.toml.specs.declared.value.Value.{Value}
use Rattle.settings.specs.declared.fault.SettingsFault.{SettingsFault}
use Rattle.settings.specs.declared.fault.SettingsFault.TheVariants as fault
use Rattle.settings.specs.declared.parts.Extras.{Extras}
use Rattle.settings.specs.declared.parts.Parts.{Parts}
use Rattle.settings.specs.Settings.{Configuration, additions_of, checks, first_fault}
use Rattle.settings_toml.specs.declared.settings_file.SettingsProblem.{SettingsProblem}
use Rattle.settings_toml.specs.declared.settings_file.SettingsProblem.TheVariants.{NoMemory, File, Toml, Top, Endpoint, Leg, SameSsrc}
use Rattle.settings_toml.specs.SettingsFaults.{Spot, TableGives, checks_spot, earlier, fault_spot, has_all, misfit_of, problem_spot}
use Rattle.settings_toml.specs.SettingsFile.{AreExtrasOf, ArePartsOf, items_in, list_of}

list_of-items : (ds : List Data) → list_of (items_of ds) ≡ ds
list_of-items [] = refl
list_of-items (d ∷ ds) = ap (λ t. d ∷ t) (list_of-items ds)

-- the items of a value, if these are its list
abbrev items_or : List Data → Option Items → List Data
items_or none None = none
items_or none (Some ds) = list_of ds

items_in-array : (d : Data) → items_in (Some d) ≡ items_or [] (as_array d)
items_in-array (array ds) = refl
items_in-array (string s) = refl
items_in-array (integer z) = refl
items_in-array (float x) = refl
items_in-array (boolean b) = refl
items_in-array (datetime t) = refl
items_in-array (table ms) = refl

-- the items of a value that is a list
pub items_listed : (d : Data) (vs : List Value) → Some (items_view vs) ≡ as_array d → map view vs ≡ items_in (Some d)
items_listed d vs found = sym (items_in-array d ∙ ap (items_or []) (sym found) ∙ list_of-items (map view vs))

abbrev all_or : (Data → Bool) → Option Items → Bool
all_or is_such None = false
all_or is_such (Some ds) = list_all is_such (list_of ds)

has_all-array : (is_such : Data → Bool) (d : Data) → has_all is_such d ≡ all_or is_such (as_array d)
has_all-array is_such (array ds) = refl
has_all-array is_such (string s) = refl
has_all-array is_such (integer z) = refl
has_all-array is_such (float x) = refl
has_all-array is_such (boolean b) = refl
has_all-array is_such (datetime t) = refl
has_all-array is_such (table ms) = refl

-- whether a value that is a list holds only such values
pub all_listed : (is_such : Data → Bool) (d : Data) (vs : List Value) → Some (items_view vs) ≡ as_array d → list_all is_such (map view vs) ≡ has_all is_such d
all_listed is_such d vs found = sym (has_all-array is_such d ∙ ap (all_or is_such) (sym found) ∙ ap (list_all is_such) (list_of-items (map view vs)))

-- reading the views of values is reading the values
pub map-view : {B : Type 0} (f : Data → B) (vs : List Value) → map (λ x. f (view x)) vs ≡ map f (map view vs)
map-view f [] = refl
map-view f (v ∷ vs) = ap (λ t. f (view v) ∷ t) (map-view f vs)

-- ---- the first fault

-- a problem that is want of memory, or stands at the table's first fault
stands_first : (t : Members) (ps : Parts) (xs : Extras) (s : Spot) (p : SettingsProblem) → ArePartsOf t ps → AreExtrasOf t xs
    → earlier (misfit_of t) (checks_spot (first_fault (checks ps (additions_of xs)))) ≡ Some s → (p ≡ NoMemory) ⊎ (problem_spot p ≡ Some s) → TableGives t (Err p)
stands_first t ps xs s NoMemory found added first h = tt
stands_first t ps xs s File found added first (inl e) = absurd cc
stands_first t ps xs s File found added first (inr e) = absurd cc
stands_first t ps xs s Toml found added first (inl e) = absurd cc
stands_first t ps xs s Toml found added first (inr e) = absurd cc
stands_first t ps xs s (Top key) found added first (inl e) = absurd cc
stands_first t ps xs s (Top key) found added first (inr e) = record { parts = ps; found = found; extras = xs; added = added; first = e ∙ sym first }
stands_first t ps xs s (Endpoint number key) found added first (inl e) = absurd cc
stands_first t ps xs s (Endpoint number key) found added first (inr e) = record { parts = ps; found = found; extras = xs; added = added; first = e ∙ sym first }
stands_first t ps xs s (Leg number key) found added first (inl e) = absurd cc
stands_first t ps xs s (Leg number key) found added first (inr e) = record { parts = ps; found = found; extras = xs; added = added; first = e ∙ sym first }
stands_first t ps xs s SameSsrc found added first (inl e) = absurd cc
stands_first t ps xs s SameSsrc found added first (inr e) = record { parts = ps; found = found; extras = xs; added = added; first = e ∙ sym first }

-- the parts pass, and a key misfits
pub key_stands_first : (t : Members) (ps : Parts) (xs : Extras) (s : Spot) (p : SettingsProblem) → ArePartsOf t ps → AreExtrasOf t xs → Some s ≡ misfit_of t
    → first_fault (checks ps (additions_of xs)) ≡ None → (p ≡ NoMemory) ⊎ (problem_spot p ≡ Some s) → TableGives t (Err p)
key_stands_first t ps xs s p found added misfit none h =
    let first = ap (λ m. earlier m (checks_spot (first_fault (checks ps (additions_of xs))))) (sym misfit) ∙ ap (λ f. earlier (Some s) (checks_spot f)) none in
    stands_first t ps xs s p found added first h

abbrev err_spot : Result Configuration SettingsFault → Option Spot
err_spot (Ok c) = None
err_spot (Err e) = fault_spot e

abbrev failed : SettingsFault → Result Configuration SettingsFault
failed e = Err e

same_fault : (o : Option SettingsFault) (e : SettingsFault) → IfSome o (λ f. failed e ≡ failed f) → (o ≡ None → failed e ≡ failed fault.NoMemory)
    → checks_spot o ≡ fault_spot e
same_fault None e is none = sym (ap err_spot (none refl))
same_fault (Some f) e is none = sym (ap err_spot is)

-- the parts don't pass, and a key may misfit
pub part_stands_first : (t : Members) (ps : Parts) (xs : Extras) (s : Spot) (p : SettingsProblem) (e : SettingsFault) (m f : Option Spot) → ArePartsOf t ps → AreExtrasOf t xs
    → m ≡ misfit_of t → f ≡ fault_spot e → Some s ≡ earlier m f → IfSome (first_fault (checks ps (additions_of xs))) (λ g. failed e ≡ failed g)
    → (first_fault (checks ps (additions_of xs)) ≡ None → failed e ≡ failed fault.NoMemory) → (p ≡ NoMemory) ⊎ (problem_spot p ≡ Some s) → TableGives t (Err p)
part_stands_first t ps xs s p e m f found added misfit spot first is none h =
    let same : checks_spot (first_fault (checks ps (additions_of xs))) ≡ f = same_fault (first_fault (checks ps (additions_of xs))) e is none ∙ sym spot in
    let here = ap (λ n. earlier n (checks_spot (first_fault (checks ps (additions_of xs))))) (sym misfit) ∙ ap (earlier m) same ∙ sym first in
    stands_first t ps xs s p found added here h
