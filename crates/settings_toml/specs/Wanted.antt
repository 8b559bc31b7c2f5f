-- The keys of a settings file, and what may stand at each.
use Rattle.std.specs.Prelude.{ℕ, ◌-◌, IsTrue, List, [], ◌∷◌, ◌++◌, map, Bool, Option, None, Some, IsSome, codes, if◌then◌else◌}
use Rattle.std.specs.Fmt.{decimal}
use Rattle.std.specs.Str.{bytes_eq}
use Rattle.toml.specs.Data.{Data}
use Rattle.rewrite.specs.declared.sequence.TheConstants.{SEQ_CYCLE}
use Rattle.rtcp_compound.specs.declared.writer.TheConstants.{CNAME_LIMIT}
use Rattle.settings.specs.declared.limits.TheConstants.{LEAST_HISTORY, MAX_ENDPOINTS, MAX_HISTORY, MAX_LEGS, MAX_PERIOD_MS, MAX_REPORT_SLOTS, MAX_RING, MAX_WORKERS, SSRCS}
use Rattle.settings_toml.specs.SettingsFaults.{Spot, endpoint, leg, sources, top}
use Rattle.settings_toml.specs.declared.bound_keys.TheConstants.{ENTRIES, FLOODS, GAPS_MS, LEAST_REPEAT_MS, LEAST_STALL_MS, REPEATS_MS, SHARES, STALLS_MS}
use Rattle.settings_toml.specs.declared.name_key.TheConstants.{MOST_NAME}
use Rattle.settings_toml.specs.declared.tick_key.TheConstants.{MOST_TICK_MS}
use Rattle.settings_toml.specs.declared.wanted.Kind.{Kind}
use Rattle.settings_toml.specs.declared.wanted.Kind.TheVariants as kind
use Rattle.settings_toml.specs.declared.wanted.Wanted.{Wanted}
use Rattle.settings_toml.specs.declared.wanted.Wanted.TheVariants.{Whole, WholeOrZero, Source, Name, Label, Endpoints, Legs, Other}

-- a key, and what it takes
pub record KeyRow : Type 0 where
  pub key : List ℕ
  pub takes : Wanted

abbrev pub key_row : List ℕ → Wanted → KeyRow
key_row key takes = record { key = key; takes = takes }

-- ---- the tables of keys: a new key is a row more, among the others by its name

-- the keys of the settings that are lists of tables
abbrev pub table_rows : List KeyRow
table_rows = key_row (codes "endpoint") (Endpoints MAX_ENDPOINTS) ∷ key_row (codes "leg") (Legs MAX_LEGS) ∷ []

-- the others, with the limits of settings
abbrev pub value_rows : List KeyRow
value_rows =
    key_row (codes "cname") (Name CNAME_LIMIT)
    ∷ key_row (codes "early_pictures") (Other kind.Truth)
    ∷ key_row (codes "entry_limit") (Whole 0 (ENTRIES - 1))
    ∷ key_row (codes "flood_limit") (Whole 0 (FLOODS - 1))
    ∷ key_row (codes "history") (Whole LEAST_HISTORY MAX_HISTORY)
    ∷ key_row (codes "leg_goodbyes") (Other kind.Truth)
    ∷ key_row (codes "listen") (Other kind.Listen)
    ∷ key_row (codes "listen_rtcp") (Other kind.ListenRtcp)
    ∷ key_row (codes "new_starts") (Other kind.Truth)
    ∷ key_row (codes "pli_gap_ms") (Whole 0 MAX_PERIOD_MS)
    ∷ key_row (codes "repeat_ms") (WholeOrZero LEAST_REPEAT_MS (REPEATS_MS - 1))
    ∷ key_row (codes "report_ms") (Whole 1 MAX_PERIOD_MS)
    ∷ key_row (codes "report_slots") (Whole 1 MAX_REPORT_SLOTS)
    ∷ key_row (codes "request_gap_ms") (Whole 0 (GAPS_MS - 1))
    ∷ key_row (codes "request_ms") (Whole 0 MAX_PERIOD_MS)
    ∷ key_row (codes "resend_gap_ms") (Whole 0 (GAPS_MS - 1))
    ∷ key_row (codes "resend_share") (Whole 0 (SHARES - 1))
    ∷ key_row (codes "ring") (Whole 1 MAX_RING)
    ∷ key_row (codes "stall_ms") (WholeOrZero LEAST_STALL_MS (STALLS_MS - 1))
    ∷ key_row (codes "strict_ssrc") (Other kind.Truth)
    ∷ key_row (codes "tick_ms") (Whole 1 MOST_TICK_MS)
    ∷ key_row (codes "timeout_ms") (Whole 1 MAX_PERIOD_MS)
    ∷ key_row (codes "unit_ssrc") (Whole 0 (SSRCS - 1))
    ∷ key_row (codes "workers") (Whole 1 MAX_WORKERS)
    ∷ []

abbrev pub top_rows : List KeyRow
top_rows = table_rows ++ value_rows

abbrev pub endpoint_rows : List KeyRow
endpoint_rows =
    key_row (codes "address") (Other kind.Address)
    ∷ key_row (codes "cname") (Name CNAME_LIMIT)
    ∷ key_row (codes "fmtp") (Other kind.Formats)
    ∷ key_row (codes "learn_from") (Other kind.Network)
    ∷ key_row (codes "name") (Label MOST_NAME)
    ∷ key_row (codes "receive_only") (Other kind.ReceiveOnly)
    ∷ key_row (codes "rtcp_address") (Other kind.RtcpAddress)
    ∷ key_row (codes "rtpmap") (Other kind.Encodings)
    ∷ key_row (codes "ssrc") (Source (SSRCS - 1))
    ∷ []

abbrev pub leg_rows : List KeyRow
leg_rows =
    key_row (codes "first_seq") (Whole 0 (SEQ_CYCLE - 1))
    ∷ key_row (codes "on") (Other kind.Truth)
    ∷ key_row (codes "out_ssrc") (Whole 0 (SSRCS - 1))
    ∷ key_row (codes "publisher") (Other kind.Publisher)
    ∷ key_row (codes "subscriber") (Other kind.Subscriber)
    ∷ []

-- the keys that there are where a spot is
abbrev pub rows_at : Spot → List KeyRow
rows_at (top key) = top_rows
rows_at (endpoint number key) = endpoint_rows
rows_at (leg number key) = leg_rows
rows_at sources = top_rows

abbrev pub keys_at : Spot → List (List ℕ)
keys_at spot = map (λ r. r.key) (rows_at spot)

-- ---- what a key takes

-- what the first key_row with this key takes
abbrev pub wanted_in : List KeyRow → List ℕ → Option Wanted
wanted_in [] key = None
wanted_in (r ∷ rows) key = if bytes_eq key r.key then Some r.takes else wanted_in rows key

-- what the key at this spot takes, if there is such a key
abbrev pub wanted_at : Spot → Option Wanted
wanted_at (top key) = wanted_in top_rows key
wanted_at (endpoint number key) = wanted_in endpoint_rows key
wanted_at (leg number key) = wanted_in leg_rows key
wanted_at sources = None

-- it, as it goes on after "no"
abbrev pub kind_words : Kind → List ℕ
kind_words kind.Truth = codes "true or false"
kind_words kind.Listen = codes "IP address and port, as \"192.0.2.1:5004\""
kind_words kind.ListenRtcp =
    codes "IP address and port of the version of listen, as \"192.0.2.1:5005\""
kind_words kind.Address = codes "IP address and port, as \"192.0.2.7:6000\", nor \"learn\""
kind_words kind.RtcpAddress = codes "IP address and port beside an address, as \"192.0.2.7:6001\""
kind_words kind.Network = codes "network beside address = \"learn\", as \"192.0.2.0/24\""
kind_words kind.ReceiveOnly = codes "true beside an address, or false"
kind_words kind.Encodings = codes "list of texts, as [\"96 H264/90000\"]"
kind_words kind.Formats = codes "list of texts, as [\"96 packetization-mode=1\"]"
kind_words kind.Subscriber = codes "number of an endpoint"
kind_words kind.Publisher =
    codes "number of another endpoint than the subscriber, with one leg between the two"

-- the words for what a key takes
abbrev pub wanted_words : Wanted → List ℕ
wanted_words (Whole least most) =
    codes "whole number from " ++ (decimal least ++ (codes " to " ++ decimal most))
wanted_words (WholeOrZero least most) =
    codes "whole number from " ++ (decimal least ++ (codes " to " ++ (decimal most ++ codes ", nor 0")))
wanted_words (Source most) =
    codes "whole number from 0 to "
    ++ (decimal most ++ codes ", nor \"learn\" beside an address of its own")
wanted_words (Name most) =
    codes "text of 1 to " ++ (decimal most ++ codes " ASCII characters, as \"sfu@192.0.2.1\"")
wanted_words (Label most) =
    codes "text of 1 to "
    ++ (decimal most ++ codes " letters, digits, dots, hyphens and underscores, as \"ann-camera\"")
wanted_words (Endpoints most) =
    codes "list of 1 to " ++ (decimal most ++ codes " tables, each under [[endpoint]]")
wanted_words (Legs most) =
    codes "list of up to " ++ (decimal most ++ codes " tables, each under [[leg]]")
wanted_words (Other told) = kind_words told

-- ---- which keys there are

-- texts in a key_row, as "a, b and c"
abbrev pub listed : List (List ℕ) → List ℕ
listed [] = []
listed (a ∷ []) = a
listed (a ∷ (b ∷ [])) = a ++ (codes " and " ++ b)
listed (a ∷ (b ∷ (c ∷ names))) = a ++ (codes ", " ++ listed (b ∷ (c ∷ names)))

abbrev pub names_in : List KeyRow → List ℕ
names_in rows = listed (map (λ r. r.key) rows)

-- which keys there are at this spot
abbrev pub names_of : Spot → List ℕ
names_of (top key) = names_in value_rows
names_of (endpoint number key) = names_in endpoint_rows
names_of (leg number key) = names_in leg_rows
names_of sources = names_in value_rows

abbrev pub whose_keys : Spot → List ℕ
whose_keys (top key) = codes "the settings"
whose_keys (endpoint number key) = codes "an endpoint"
whose_keys (leg number key) = codes "a leg"
whose_keys sources = codes "the settings"

-- ---- the same keys as those that settings are read by

-- settings are read that have the key, with some value
abbrev pub IsTaken : (List ℕ → Data → Bool) → List ℕ → Type 0
IsTaken takes key = (value : Data) × IsTrue (takes key value)

-- A key of these rows is taken with some value, and there is a key_row for each key that is.
pub record AreTheKeys (takes : List ℕ → Data → Bool) (rows : List KeyRow) : Type 0 where
  pub taken : (key : List ℕ) → IsSome (wanted_in rows key) → IsTaken takes key
  pub told : (key : List ℕ) → IsTaken takes key → IsSome (wanted_in rows key)
