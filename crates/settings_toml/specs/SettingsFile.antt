-- What a settings file says: a TOML table, as the parts of a room's settings.
use Rattle.std.specs.Prelude.{◌≡◌, ◌==◌, ◌||◌, ◌+◌, ◌%◌, ℕ, ℤ, pos, nat_le, Bool, false, List, [], ◌∷◌, map, Option, None, Some, option_map, option_and_then, unwrap_or, codes, string_bytes, String, if◌then◌else◌}
use Rattle.std.specs.Global.{Global}
use Rattle.std.specs.Str.{bytes_eq}
use Rattle.toml.specs.Data.{Data, Items, Members, array, as_bool, as_integer, as_str, get, get_member, item, no_items}
use Rattle.settings.specs.declared.parts.Extras.{Extras}
use Rattle.settings.specs.declared.parts.LegParts.{LegParts}
use Rattle.settings.specs.declared.parts.Parts.{Parts}
use Rattle.settings.specs.declared.limits.TheConstants.{SSRCS}
use Rattle.settings.specs.Settings.{additions_of, checks, configuration_of, first_fault, number_below, number_or_zero, number_within}
use Rattle.settings_toml.specs.declared.bound_keys.BoundKeys.{BoundKeys}
use Rattle.settings_toml.specs.declared.bound_keys.TheConstants.{ENTRIES, FLOODS, GAPS_MS, LEAST_REPEAT_MS, LEAST_STALL_MS, REPEATS_MS, SHARES, STALLS_MS}
use Rattle.settings_toml.specs.declared.tick_key.TheConstants.{MOST_TICK_MS, TICK_MS}
use Rattle.settings_toml.specs.declared.settings_file.ClientText.{ClientText}
use Rattle.settings_toml.specs.declared.settings_file.FileSettings.{FileSettings}

-- ---- what is found

abbrev pub integer_in : Option Data → Option ℤ
integer_in value = option_and_then as_integer value

abbrev pub bool_in : Option Data → Option Bool
bool_in value = option_and_then as_bool value

abbrev pub text_in : Option Data → Option (List ℕ)
text_in value = option_and_then as_str value

abbrev pub list_of : Items → List Data
list_of no_items = []
list_of (item d ds) = d ∷ list_of ds

-- the items of a list; none if there is no list
abbrev pub items_in : Option Data → List Data
items_in (Some (array ds)) = list_of ds
items_in value = []

-- the text that an item is; nothing if it is none
abbrev pub text_of : Data → List ℕ
text_of value = unwrap_or (as_str value) []

abbrev pub texts_of : List Data → List (List ℕ)
texts_of items = map text_of items

-- the texts of a list; none if there is no list
abbrev pub texts_in : Option Data → List (List ℕ)
texts_in value = texts_of (items_in value)

-- what is said of a source that is learned
abbrev pub is_learn : Option (List ℕ) → Bool
is_learn None = false
is_learn (Some text) = bytes_eq text (codes "learn")

abbrev pub says_learn : Option Data → Bool
says_learn value = is_learn (text_in value)

-- an endpoint's table says that the SSRC of its client is learned
abbrev pub learns_ssrc : Data → Bool
learns_ssrc endpoint = says_learn (get (codes "ssrc") endpoint)

-- what an endpoint's table says of its client: what it is called, the texts of its addresses and of the network that they are learned from, whether
-- its SSRC is learned, whether it only listens, and what it publishes
pub record ClientSays : Type 0 where
  pub name : Option (List ℕ)
  pub cname : Option (List ℕ)
  pub address : Option (List ℕ)
  pub learn_from : Option (List ℕ)
  pub rtcp_address : Option (List ℕ)
  pub learns_ssrc : Bool
  pub receive_only : Bool
  pub rtpmap : List (List ℕ)
  pub fmtp : List (List ℕ)

abbrev pub client_in : Data → ClientSays
client_in endpoint = record {
  name = text_in (get (codes "name") endpoint);
  cname = text_in (get (codes "cname") endpoint);
  address = text_in (get (codes "address") endpoint);
  learn_from = text_in (get (codes "learn_from") endpoint);
  rtcp_address = text_in (get (codes "rtcp_address") endpoint);
  learns_ssrc = learns_ssrc endpoint;
  receive_only = unwrap_or (bool_in (get (codes "receive_only") endpoint)) false;
  rtpmap = texts_in (get (codes "rtpmap") endpoint);
  fmtp = texts_in (get (codes "fmtp") endpoint);
}

abbrev pub leg_in : Data → LegParts
leg_in leg = record {
  subscriber = integer_in (get (codes "subscriber") leg);
  publisher = integer_in (get (codes "publisher") leg);
  out_ssrc = integer_in (get (codes "out_ssrc") leg);
  first_seq = integer_in (get (codes "first_seq") leg);
  on = bool_in (get (codes "on") leg);
}

abbrev pub text_bytes : Option (String Global) → Option (List ℕ)
text_bytes text = option_map string_bytes text

-- The name of the seat with this number, of a unit with this source: so many behind that and one more, modulo 2^32 (RFC 3550, section 8.1).
abbrev pub seat_name : Option ℤ → ℕ → Option ℤ
seat_name unit number =
    option_map (λ u. pos ((u + 1 + number % SSRCS) % SSRCS)) (number_below unit SSRCS)

-- the source of the endpoint with this number: as its table says, or the name of its seat if its client's is learned
abbrev pub source_in : Option ℤ → ℕ → Data → Option ℤ
source_in unit number endpoint =
    if learns_ssrc endpoint then seat_name unit number
    else integer_in (get (codes "ssrc") endpoint)

-- the sources of endpoints, of which the first has this number
abbrev pub sources_from : Option ℤ → ℕ → List Data → List (Option ℤ)
sources_from unit number [] = []
sources_from unit number (e ∷ es) = source_in unit number e ∷ sources_from unit (number + 1) es

-- the name of who publishes an endpoint, as its table says
abbrev pub cname_in : Data → Option (List ℕ)
cname_in endpoint = text_in (get (codes "cname") endpoint)

abbrev pub client_says : ClientText → ClientSays
client_says client = record {
  name = text_bytes client.name;
  cname = text_bytes client.cname;
  address = text_bytes client.address;
  learn_from = text_bytes client.learn_from;
  rtcp_address = text_bytes client.rtcp_address;
  learns_ssrc = client.learns_ssrc;
  receive_only = client.receive_only;
  rtpmap = map string_bytes client.rtpmap.items;
  fmtp = map string_bytes client.fmtp.items;
}

-- a number that is 0, or from the least on
abbrev pub zero_or_from : ℕ → Option ℕ → Option ℕ
zero_or_from least None = None
zero_or_from least (Some n) = if (n == 0) || nat_le least n then Some n else None

-- the time between two repeats that a number is, if it is there: 0, or from the least to the greatest
abbrev pub repeat_of : Option ℤ → Option ℕ
repeat_of value = zero_or_from LEAST_REPEAT_MS (number_below value REPEATS_MS)

-- the time that counts between two looks at the clock, in the same way
abbrev pub stall_of : Option ℤ → Option ℕ
stall_of value = zero_or_from LEAST_STALL_MS (number_below value STALLS_MS)

-- what one client may cost the others, how often a publisher is asked again, and how much of a stall counts: the numbers at their keys; 0,
-- which bounds and repeats nothing, if there is none
abbrev pub bounds_in : Members → BoundKeys
bounds_in t = record {
  entry_limit = number_or_zero (integer_in (get_member (codes "entry_limit") t)) ENTRIES;
  flood_limit = number_or_zero (integer_in (get_member (codes "flood_limit") t)) FLOODS;
  repeat_ms = unwrap_or (repeat_of (integer_in (get_member (codes "repeat_ms") t))) 0;
  request_gap_ms = number_or_zero (integer_in (get_member (codes "request_gap_ms") t)) GAPS_MS;
  resend_gap_ms = number_or_zero (integer_in (get_member (codes "resend_gap_ms") t)) GAPS_MS;
  resend_share = number_or_zero (integer_in (get_member (codes "resend_share") t)) SHARES;
  stall_ms = unwrap_or (stall_of (integer_in (get_member (codes "stall_ms") t))) 0;
}

-- the time between two ticks: the number at its key, from 1 to the greatest; or the usual one
abbrev pub tick_in : Members → ℕ
tick_in t =
    unwrap_or (number_within (integer_in (get_member (codes "tick_ms") t)) 1 MOST_TICK_MS) TICK_MS

-- The parts are what the table has under their keys.
pub record ArePartsOf (t : Members) (p : Parts) : Type 0 where
  pub workers : p.workers ≡ integer_in (get_member (codes "workers") t)
  pub ring : p.ring ≡ integer_in (get_member (codes "ring") t)
  pub history : p.history ≡ integer_in (get_member (codes "history") t)
  pub timeout_ms : p.timeout_ms ≡ integer_in (get_member (codes "timeout_ms") t)
  pub report_ms : p.report_ms ≡ integer_in (get_member (codes "report_ms") t)
  pub request_ms : p.request_ms ≡ integer_in (get_member (codes "request_ms") t)
  pub pli_gap_ms : p.pli_gap_ms ≡ integer_in (get_member (codes "pli_gap_ms") t)
  pub unit_ssrc : p.unit_ssrc ≡ integer_in (get_member (codes "unit_ssrc") t)
  pub cname : text_bytes p.cname ≡ text_in (get_member (codes "cname") t)
  pub endpoints : p.endpoints.items
      ≡ sources_from (integer_in (get_member (codes "unit_ssrc") t)) 0
      (items_in (get_member (codes "endpoint") t))
  pub legs : p.legs.items ≡ map leg_in (items_in (get_member (codes "leg") t))

-- So are the extras.
pub record AreExtrasOf (t : Members) (x : Extras) : Type 0 where
  pub report_slots : x.report_slots ≡ integer_in (get_member (codes "report_slots") t)
  pub early_pictures : x.early_pictures ≡ bool_in (get_member (codes "early_pictures") t)
  pub leg_goodbyes : x.leg_goodbyes ≡ bool_in (get_member (codes "leg_goodbyes") t)
  pub cnames : map text_bytes x.cnames.items
      ≡ map cname_in (items_in (get_member (codes "endpoint") t))

-- The table's parts and extras pass every check, and these are their settings; what is said of addresses is as the table spells it.
pub record HoldsSettings (t : Members) (f : FileSettings) : Type 0 where
  pub parts : Parts
  pub found : ArePartsOf t parts
  pub extras : Extras
  pub added : AreExtrasOf t extras
  pub passes : first_fault (checks parts (additions_of extras)) ≡ None
  pub settings : f.settings ≡ configuration_of parts (additions_of extras)
  pub listen : text_bytes f.listen ≡ text_in (get_member (codes "listen") t)
  pub new_starts : f.new_starts ≡ bool_in (get_member (codes "new_starts") t)
  pub strict_ssrc : f.strict_ssrc ≡ bool_in (get_member (codes "strict_ssrc") t)
  pub bounds : f.bounds ≡ bounds_in t
  pub tick_ms : f.tick_ms ≡ tick_in t
  pub listen_rtcp : text_bytes f.listen_rtcp ≡ text_in (get_member (codes "listen_rtcp") t)
  pub clients : map client_says f.clients.items
      ≡ map client_in (items_in (get_member (codes "endpoint") t))
