-- What a document has at the spot of a fault: a key that there isn't, a leg's end that is no endpoint, and formats that are texts.
use Rattle.std.specs.Prelude.{◌&&◌, ◌||◌, ℕ, ℤ, Bool, false, List, length, slice_get, Option, None, Some, is_some, option_and_then, codes, if◌then◌else◌}
use Rattle.std.specs.Str.{bytes_eq}
use Rattle.toml.specs.Data.{Data, Members, as_table, get, get_member}
use Rattle.toml.specs.Parse.{parse_document}
use Rattle.settings.specs.Settings.{number_below}
use Rattle.settings_toml.specs.SettingsFaults.{Spot, endpoint, has_texts, leg, sources, table_misfit, top}
use Rattle.settings_toml.specs.SettingsFile.{integer_in, items_in}
use Rattle.settings_toml.specs.Wanted.{rows_at, wanted_in}

-- ---- keys that there aren't

-- the table of this number, if there are so many
abbrev pub nth_table : List Data → ℕ → Option Members
nth_table items number = option_and_then as_table (slice_get items number)

-- the table that has the keys of a spot
abbrev pub table_at : Spot → Members → Option Members
table_at (top key) t = Some t
table_at (endpoint number key) t = nth_table (items_in (get_member (codes "endpoint") t)) number
table_at (leg number key) t = nth_table (items_in (get_member (codes "leg") t)) number
table_at sources t = None

-- there is such a key where this spot is
abbrev pub is_known : Spot → List ℕ → Bool
is_known spot key = is_some (wanted_in (rows_at spot) key)

-- the first key, by its name, of a spot's table that there isn't
abbrev pub unknown_at : Spot → Members → Option (List ℕ)
unknown_at spot t = table_misfit (λ key value. is_known spot key) (table_at spot t)

-- the same in a text; none if it is no document
abbrev pub unknown_of : List ℕ → Spot → Option (List ℕ)
unknown_of text spot = option_and_then (unknown_at spot) (parse_document text)

-- ---- legs to nobody

-- the keys of a leg's two ends
abbrev pub is_end : List ℕ → Bool
is_end key = bytes_eq key (codes "publisher") || bytes_eq key (codes "subscriber")

-- the number at a key of the leg of this number
abbrev pub end_in : List Data → ℕ → List ℕ → Option ℤ
end_in legs number key = integer_in (option_and_then (get key) (slice_get legs number))

-- how many endpoints there are, if a number is that of none
abbrev pub absent_among : ℕ → Option ℤ → Option ℕ
absent_among count None = None
absent_among count (Some z) = if is_some (number_below (Some z) count) then None else Some count

-- the same of the end of a leg that a spot is
abbrev pub absent_at : Spot → Members → Option ℕ
absent_at (top key) t = None
absent_at (endpoint number key) t = None
absent_at (leg number key) t =
    if is_end key
    then absent_among (length (items_in (get_member (codes "endpoint") t)))
    (end_in (items_in (get_member (codes "leg") t)) number key)
    else None
absent_at sources t = None

-- the same in a text; none if it is no document
abbrev pub absent_of : List ℕ → Spot → Option ℕ
absent_of text spot = option_and_then (absent_at spot) (parse_document text)

-- ---- formats

abbrev pub holds_texts : Option Data → Bool
holds_texts None = false
holds_texts (Some value) = has_texts value

-- the spot is that of formats, which are texts, as they should
abbrev pub are_formats_at : Spot → Members → Bool
are_formats_at (top key) t = false
are_formats_at (endpoint number key) t =
    bytes_eq key (codes "fmtp")
    && holds_texts (option_and_then (get key) (slice_get (items_in (get_member (codes "endpoint") t)) number))
are_formats_at (leg number key) t = false
are_formats_at sources t = false

abbrev pub are_formats_in : Spot → Option Members → Bool
are_formats_in spot None = false
are_formats_in spot (Some t) = are_formats_at spot t

-- the same in a text; not if it is no document
abbrev pub are_formats_of : List ℕ → Spot → Bool
are_formats_of text spot = are_formats_in spot (parse_document text)
