-- Of whom samples are, endpoint by endpoint.
use Rattle.std.proofs.Common.{◌≡◌, ℕ, ◌+◌, ◌<◌, List, [], ◌∷◌, ◌++◌, length, drop, map, get_or, refl}
use Rattle.std.specs.Global.{Global}
use Rattle.std.specs.List.{enumerate_from}
use Rattle.std.specs.declared.string.String.{String}
use Rattle.settings_toml.specs.declared.settings_file.ClientText.{ClientText}
use Rattle.addresses.specs.AddressBook.{endpoint_at}
use Rattle.addresses.proofs.AddressBookLemmas.{map_passed}
use Rattle.operations.specs.UnitInfo.{SubjectSays, endpoint_subject, endpoint_subjects, numbered_subject}

-- those of the endpoints from here on, put after these, are all
abbrev pub SubjectsLeft : List (String Global) → List ClientText → ℕ → List SubjectSays → Type 0
SubjectsLeft names texts i before =
    before ++ map (numbered_subject names) (enumerate_from i (drop i texts)) ≡ endpoint_subjects names texts

pub subject_passed : (names : List (String Global)) (texts : List ClientText) (i : ℕ) (d : ClientText) (before after : List SubjectSays) (endpoint : ℕ)
    → endpoint ≡ endpoint_at i → after ≡ before ++ endpoint_subject names endpoint (get_or texts i d) ∷ [] → i < length texts
    → SubjectsLeft names texts i before → SubjectsLeft names texts (i + 1) after
subject_passed names texts i d before after endpoint number is below left =
    map_passed (numbered_subject names) i texts d before after (endpoint_subjects names texts) below (rw (is, number) refl) left
