-- Where the first fault of a settings file stands.
use Rattle.std.specs.Prelude.{◌≡◌, ◌==◌, ◌&&◌, ◌||◌, ℕ, ◌+◌, nat_le, nat_lt, not, Bool, true, false, List, [], ◌∷◌, length, Option, None, Some, is_some, option_map, codes, string_bytes, Result, Ok, Err, if◌then◌else◌}
use Rattle.std.specs.Char.{is_ascii_alphanumeric}
use Rattle.std.specs.Cmp.Lexicographic.{slice_cmp}
use Rattle.std.specs.List.{list_all}
use Rattle.std.specs.Ordering.{is_lt, nat_cmp}
use Rattle.std.specs.Str.{IsUtf8, bytes_eq}
use Rattle.toml.specs.Data.{Data, Members, array, as_bool, as_integer, as_str, as_table, get_member, member, no_members}
use Rattle.toml.specs.Parse.{parse_document}
use Rattle.settings.specs.declared.fault.SettingsFault.{SettingsFault}
use Rattle.settings.specs.declared.fault.SettingsFault.TheVariants as fault
use Rattle.settings.specs.declared.parts.Extras.{Extras}
use Rattle.settings.specs.declared.parts.Parts.{Parts}
use Rattle.settings.specs.Fault.{key_name}
use Rattle.settings.specs.Settings.{additions_of, checks, first_fault, number_below, number_within}
use Rattle.settings_toml.specs.declared.bound_keys.TheConstants.{ENTRIES, FLOODS, GAPS_MS, SHARES}
use Rattle.settings_toml.specs.declared.name_key.TheConstants.{MOST_NAME}
use Rattle.settings_toml.specs.declared.tick_key.TheConstants.{MOST_TICK_MS}
use Rattle.settings_toml.specs.declared.settings_file.FileSettings.{FileSettings}
use Rattle.settings_toml.specs.declared.settings_file.SettingsProblem.{SettingsProblem}
use Rattle.settings_toml.specs.declared.settings_file.SettingsProblem.TheVariants.{NoMemory, File, Toml, Top, Endpoint, Leg, SameSsrc}
use Rattle.settings_toml.specs.declared.settings_keys.Place.{Place}
use Rattle.settings_toml.specs.declared.settings_keys.Place.TheVariants as place
use Rattle.settings_toml.specs.SettingsFile.{AreExtrasOf, ArePartsOf, HoldsSettings, items_in, list_of, repeat_of, stall_of, text_of}

-- where a fault stands: a key of the settings, of an endpoint or of a leg; or the sources together
pub data Spot : Type 0 where
  top : List ℕ → Spot
  endpoint : ℕ → List ℕ → Spot
  leg : ℕ → List ℕ → Spot
  sources : Spot

abbrev pub spot_of : Place → Spot
spot_of (place.Top key) = top key.now
spot_of (place.Endpoint number key) = endpoint number key.now
spot_of (place.Leg number key) = leg number key.now
spot_of place.Sources = sources

-- ---- the order of faults

abbrev pub is_key_before : List ℕ → List ℕ → Bool
is_key_before a b = is_lt (slice_cmp nat_cmp a b)

abbrev pub is_entry_before : ℕ → List ℕ → ℕ → List ℕ → Bool
is_entry_before m a n b = nat_lt m n || ((m == n) && is_key_before a b)

-- the keys of the settings by their names, the endpoints and then the legs by number and key, and then the sources
abbrev pub is_before : Spot → Spot → Bool
is_before (top a) (top b) = is_key_before a b
is_before (top a) (endpoint n b) = true
is_before (top a) (leg n b) = true
is_before (top a) sources = true
is_before (endpoint m a) (top b) = false
is_before (endpoint m a) (endpoint n b) = is_entry_before m a n b
is_before (endpoint m a) (leg n b) = true
is_before (endpoint m a) sources = true
is_before (leg m a) (top b) = false
is_before (leg m a) (endpoint n b) = false
is_before (leg m a) (leg n b) = is_entry_before m a n b
is_before (leg m a) sources = true
is_before sources b = false

abbrev pub earlier : Option Spot → Option Spot → Option Spot
earlier None b = b
earlier (Some a) None = Some a
earlier (Some a) (Some b) = if is_before b a then Some b else Some a

-- ---- keys that are unknown, or that may be absent and whose value is of the wrong kind

abbrev pub is_table : Data → Bool
is_table value = is_some (as_table value)

abbrev pub is_text : Data → Bool
is_text value = is_some (as_str value)

-- a whole number from 0 to below this limit
abbrev pub is_under : ℕ → Data → Bool
is_under limit value = is_some (number_below (as_integer value) limit)

-- a time between two repeats
abbrev pub is_repeat : Data → Bool
is_repeat value = is_some (repeat_of (as_integer value))

-- a time that counts between two looks at the clock
abbrev pub is_stall : Data → Bool
is_stall value = is_some (stall_of (as_integer value))

-- a time between two ticks
abbrev pub is_tick : Data → Bool
is_tick value = is_some (number_within (as_integer value) 1 MOST_TICK_MS)

-- a letter or a digit of ASCII, a dot, a hyphen or an underscore: each is itself in a label, a line and a page
abbrev pub is_name_byte : ℕ → Bool
is_name_byte b = is_ascii_alphanumeric b || (b == 46) || (b == 45) || (b == 95)

-- a name has one to so many of these
abbrev pub is_name_text : List ℕ → Bool
is_name_text text =
    not (length text == 0) && nat_le (length text) MOST_NAME && list_all is_name_byte text

abbrev pub holds_name : Data → Bool
holds_name value = is_name_text (text_of value)

-- a list of such values
abbrev pub has_all : (Data → Bool) → Data → Bool
has_all is_such (array items) = list_all is_such (list_of items)
has_all is_such value = false

abbrev pub has_tables : Data → Bool
has_tables value = has_all is_table value

abbrev pub has_texts : Data → Bool
has_texts value = has_all is_text value

-- a key that has to be there: its value is missed if it isn't of its kind
abbrev pub is_required : List ℕ → Bool
is_required key =
    bytes_eq key (codes "cname") || bytes_eq key (codes "history")
    || bytes_eq key (codes "pli_gap_ms") || bytes_eq key (codes "report_ms")
    || bytes_eq key (codes "ring") || bytes_eq key (codes "timeout_ms")
    || bytes_eq key (codes "unit_ssrc") || bytes_eq key (codes "workers")

abbrev pub takes_top : List ℕ → Data → Bool
takes_top key value =
    if bytes_eq key (codes "endpoint") then has_tables value
    else if bytes_eq key (codes "leg") then has_tables value
    else if bytes_eq key (codes "listen") then is_some (as_str value)
    else if bytes_eq key (codes "listen_rtcp") then is_some (as_str value)
    else if bytes_eq key (codes "early_pictures") || bytes_eq key (codes "leg_goodbyes")
    then is_some (as_bool value)
    else if bytes_eq key (codes "new_starts") || bytes_eq key (codes "strict_ssrc")
    then is_some (as_bool value)
    else if bytes_eq key (codes "report_slots") || bytes_eq key (codes "request_ms")
    then is_some (as_integer value)
    else if bytes_eq key (codes "entry_limit") then is_under ENTRIES value
    else if bytes_eq key (codes "flood_limit") then is_under FLOODS value
    else if bytes_eq key (codes "repeat_ms") then is_repeat value
    else if bytes_eq key (codes "request_gap_ms") then is_under GAPS_MS value
    else if bytes_eq key (codes "resend_gap_ms") then is_under GAPS_MS value
    else if bytes_eq key (codes "resend_share") then is_under SHARES value
    else if bytes_eq key (codes "stall_ms") then is_stall value
    else if bytes_eq key (codes "tick_ms") then is_tick value
    else is_required key

abbrev pub takes_endpoint : List ℕ → Data → Bool
takes_endpoint key value =
    if bytes_eq key (codes "address") || bytes_eq key (codes "cname")
    || bytes_eq key (codes "learn_from")
    then is_some (as_str value)
    else if bytes_eq key (codes "fmtp") || bytes_eq key (codes "rtpmap") then has_texts value
    else if bytes_eq key (codes "name") then holds_name value
    else if bytes_eq key (codes "receive_only") then is_some (as_bool value)
    else if bytes_eq key (codes "rtcp_address") then is_some (as_str value)
    else bytes_eq key (codes "ssrc")

abbrev pub takes_leg : List ℕ → Data → Bool
takes_leg key value =
    if bytes_eq key (codes "first_seq") then is_some (as_integer value)
    else if bytes_eq key (codes "on") then is_some (as_bool value)
    else bytes_eq key (codes "out_ssrc") || bytes_eq key (codes "publisher")
    || bytes_eq key (codes "subscriber")

-- the first key, by its name, that isn't taken with its value
abbrev pub misfit_in : (List ℕ → Data → Bool) → Members → Option (List ℕ)
misfit_in takes no_members = None
misfit_in takes (member key value members) =
    if takes key value then misfit_in takes members else Some key

abbrev pub table_misfit : (List ℕ → Data → Bool) → Option Members → Option (List ℕ)
table_misfit takes None = None
table_misfit takes (Some members) = misfit_in takes members

abbrev pub or_else : Option Spot → Option Spot → Option Spot
or_else None b = b
or_else (Some a) b = Some a

-- the first of a list of tables, of which the first has this number
abbrev pub list_misfit : (List ℕ → Data → Bool) → (ℕ → List ℕ → Spot) → ℕ → List Data → Option Spot
list_misfit takes spot n [] = None
list_misfit takes spot n (d ∷ ds) =
    or_else (option_map (spot n) (table_misfit takes (as_table d)))
    (list_misfit takes spot (n + 1) ds)

abbrev pub endpoint_misfit : Members → Option Spot
endpoint_misfit t =
    list_misfit takes_endpoint endpoint 0 (items_in (get_member (codes "endpoint") t))

abbrev pub leg_misfit : Members → Option Spot
leg_misfit t = list_misfit takes_leg leg 0 (items_in (get_member (codes "leg") t))

abbrev pub misfit_of : Members → Option Spot
misfit_of t =
    or_else (option_map top (misfit_in takes_top t)) (or_else (endpoint_misfit t) (leg_misfit t))

-- ---- what is wrong with a file

abbrev pub fault_spot : SettingsFault → Option Spot
fault_spot (fault.Top key) = Some (top (key_name key))
fault_spot (fault.Endpoint number key) = Some (endpoint number (key_name key))
fault_spot (fault.Leg number key) = Some (leg number (key_name key))
fault_spot fault.SameSsrc = Some sources
fault_spot fault.NoMemory = None

abbrev pub checks_spot : Option SettingsFault → Option Spot
checks_spot None = None
checks_spot (Some f) = fault_spot f

abbrev pub problem_spot : SettingsProblem → Option Spot
problem_spot NoMemory = None
problem_spot File = None
problem_spot Toml = None
problem_spot (Top key) = Some (top (string_bytes key))
problem_spot (Endpoint number key) = Some (endpoint number (string_bytes key))
problem_spot (Leg number key) = Some (leg number (string_bytes key))
problem_spot SameSsrc = Some sources

-- The problem stands at the first fault of the table: of a key that doesn't fit, or of the parts.
pub record IsFirstSettingsFault (t : Members) (problem : SettingsProblem) : Type 0 where
  pub parts : Parts
  pub found : ArePartsOf t parts
  pub extras : Extras
  pub added : AreExtrasOf t extras
  pub first : problem_spot problem ≡ earlier (misfit_of t)
      (checks_spot (first_fault (checks parts (additions_of extras))))

-- What a table gives: its settings, if no key misfits; else its first fault; or memory is wanting.
abbrev pub TableGives : Members → Result FileSettings SettingsProblem → Type 0
TableGives t (Ok f) = (misfit_of t ≡ None) × HoldsSettings t f
TableGives t (Err NoMemory) = Unit {0}
TableGives t (Err File) = ⊥
TableGives t (Err Toml) = ⊥
TableGives t (Err (Top key)) = IsFirstSettingsFault t (Top key)
TableGives t (Err (Endpoint number key)) = IsFirstSettingsFault t (Endpoint number key)
TableGives t (Err (Leg number key)) = IsFirstSettingsFault t (Leg number key)
TableGives t (Err SameSsrc) = IsFirstSettingsFault t SameSsrc

-- What a text gives: it is no TOML document; or it is one, and this is what its table gives.
abbrev pub IsNoDocument : List ℕ → Type 0
IsNoDocument text = IsUtf8 text → parse_document text ≡ None

pub record IsDocument (text : List ℕ) (r : Result FileSettings SettingsProblem) : Type 0 where
  pub table : Members
  pub utf8 : IsUtf8 text
  pub read : parse_document text ≡ Some table
  pub gives : TableGives table r

-- What a text gives: its settings, if it is a document whose table gives them; else that it is none, or the
-- first fault; or memory is wanting.
abbrev pub TextGives : List ℕ → Result FileSettings SettingsProblem → Type 0
TextGives text (Ok f) = IsDocument text (Ok f)
TextGives text (Err NoMemory) = Unit {0}
TextGives text (Err File) = ⊥
TextGives text (Err Toml) = IsNoDocument text
TextGives text (Err (Top key)) = IsDocument text (Err (Top key))
TextGives text (Err (Endpoint number key)) = IsDocument text (Err (Endpoint number key))
TextGives text (Err (Leg number key)) = IsDocument text (Err (Leg number key))
TextGives text (Err SameSsrc) = IsDocument text (Err SameSsrc)
