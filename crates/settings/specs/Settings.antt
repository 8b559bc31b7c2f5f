-- What settings may hold: a list of checks in order, and what passes them all.
use Rattle.std.specs.Prelude.{◌≡◌, ◌≢◌, ◌==◌, ℕ, ◌+◌, ◌<◌, ◌≤◌, nat_lt, nat_le, Bool, true, false, not, ◌&&◌, List, [], ◌∷◌, ◌++◌, map, length, take, flat_map, All, AllPairs, Option, None, Some, is_some, unwrap_or, option_map, option_and_then, slice_get, String, string_bytes, if◌then◌else◌, ℤ, pos, negsuc}
use Rattle.std.specs.Global.{Global}
use Rattle.std.specs.List.{list_all, list_any, enumerate_from}
use Rattle.rtcp_compound.specs.declared.writer.TheConstants.{CNAME_LIMIT}
use Rattle.tmmbr_tuple.specs.declared.ssrc.Ssrc.{Ssrc}
use Rattle.settings.specs.declared.parts.Parts.{Parts}
use Rattle.settings.specs.declared.parts.Extras.{Extras}
use Rattle.settings.specs.declared.parts.LegParts.{LegParts}
use Rattle.settings.specs.declared.rules.LegRules.{LegRules}
use Rattle.settings.specs.declared.settings.LegSettings.{LegSettings}
use Rattle.settings.specs.declared.checks.Numbers.{Numbers}
use Rattle.settings.specs.declared.limits.TheConstants.{MAX_ENDPOINTS, MAX_LEGS, MAX_WORKERS, MAX_RING, LEAST_HISTORY, MAX_HISTORY, MAX_PERIOD_MS, MAX_REPORT_SLOTS, SSRCS}
use Rattle.rewrite.specs.declared.sequence.TheConstants.{SEQ_CYCLE}
use Rattle.settings.specs.declared.fault.SettingsFault.{SettingsFault}
use Rattle.settings.specs.declared.fault.SettingsFault.TheVariants.{Top, Endpoint, Leg, SameSsrc}
use Rattle.settings.specs.declared.fault.Key.TheVariants as key

-- a number that is there, and lies from the least to the most
abbrev pub number_within : Option ℤ → ℕ → ℕ → Option ℕ
number_within None least most = None
number_within (Some (pos n)) least most = if nat_le least n && nat_le n most then Some n else None
number_within (Some (negsuc n)) least most = None

-- a number that is there, and lies from 0 to below the limit
abbrev pub number_below : Option ℤ → ℕ → Option ℕ
number_below None limit = None
number_below (Some (pos n)) limit = if nat_lt n limit then Some n else None
number_below (Some (negsuc n)) limit = None

-- a number that may be absent: 0 then
abbrev pub or_zero : Option ℤ → Option ℤ
or_zero value = Some (unwrap_or value (pos 0))

-- a number that may be absent: 1 then
abbrev pub or_one : Option ℤ → Option ℤ
or_one value = Some (unwrap_or value (pos 1))

-- both are there and equal
abbrev pub is_same : Option ℕ → Option ℕ → Bool
is_same None b = false
is_same (Some a) None = false
is_same (Some a) (Some b) = a == b

-- a check, and the fault if it doesn't pass
pub record Check : Type 0 where
  pub passes : Bool
  pub fault : SettingsFault

abbrev pub check : Bool → SettingsFault → Check
check passes fault = record { passes = passes; fault = fault }

abbrev pub name_of : Option (String Global) → List ℕ
name_of None = []
name_of (Some text) = string_bytes text

-- 1 to 255 bytes of ASCII (RFC 3550, section 6.5.1)
abbrev pub is_cname : List ℕ → Bool
is_cname bytes = nat_le 1 (length bytes) && nat_le (length bytes) CNAME_LIMIT
    && list_all (λ b. nat_lt b 128) bytes

-- an endpoint may have no name of its own
abbrev pub is_cname_or_none : Option (List ℕ) → Bool
is_cname_or_none None = true
is_cname_or_none (Some name) = is_cname name

-- what is asked of a room beyond its parts: in how many slots reports go out, how legs begin and end, and by their numbers the
-- endpoints' own names
pub record Additions : Type 0 where
  pub report_slots : Option ℤ
  pub rules : LegRules
  pub names : List (Option (List ℕ))

-- legs begin and end without a word, unless the extras say otherwise
abbrev pub additions_of : Extras → Additions
additions_of x = record {
  report_slots = x.report_slots;
  rules = record {
    early_pictures = unwrap_or x.early_pictures false;
    leg_goodbyes = unwrap_or x.leg_goodbyes false;
  };
  names = map (option_map string_bytes) x.cnames.items;
}

-- nothing is asked beyond the parts: reports go out at once, legs begin and end without a word, and no endpoint has a name of its own
abbrev pub no_additions : Additions
no_additions = record {
  report_slots = None;
  rules = record { early_pictures = false; leg_goodbyes = false };
  names = [];
}

-- the name of its own of the endpoint with this number
abbrev pub own_name : Additions → ℕ → Option (List ℕ)
own_name x k = option_and_then (λ name. name) (slice_get x.names k)

-- the keys of the table, by their names
unfoldable pub top_checks : Parts → Additions → List Check
top_checks p x =
    check (is_cname (name_of p.cname)) (Top key.Cname)
    ∷ check (nat_le 1 (length p.endpoints.items) && nat_le (length p.endpoints.items) MAX_ENDPOINTS)
    (Top key.Endpoint)
    ∷ check (is_some (number_within p.history LEAST_HISTORY MAX_HISTORY)) (Top key.History)
    ∷ check (nat_le (length p.legs.items) MAX_LEGS) (Top key.Leg)
    ∷ check (is_some (number_within p.pli_gap_ms 0 MAX_PERIOD_MS)) (Top key.PliGapMs)
    ∷ check (is_some (number_within p.report_ms 1 MAX_PERIOD_MS)) (Top key.ReportMs)
    ∷ check (is_some (number_within (or_one x.report_slots) 1 MAX_REPORT_SLOTS)) (Top key.ReportSlots)
    ∷ check (is_some (number_within (or_zero p.request_ms) 0 MAX_PERIOD_MS)) (Top key.RequestMs)
    ∷ check (is_some (number_within p.ring 1 MAX_RING)) (Top key.Ring)
    ∷ check (is_some (number_within p.timeout_ms 1 MAX_PERIOD_MS)) (Top key.TimeoutMs)
    ∷ check (is_some (number_below p.unit_ssrc SSRCS)) (Top key.UnitSsrc)
    ∷ check (is_some (number_within p.workers 1 MAX_WORKERS)) (Top key.Workers)
    ∷ []

-- the keys of an endpoint, by their names
abbrev pub endpoint_checks : Additions → ℕ × Option ℤ → List Check
endpoint_checks x (k, ssrc) =
    check (is_cname_or_none (own_name x k)) (Endpoint k key.Cname)
    ∷ check (is_some (number_below ssrc SSRCS)) (Endpoint k key.Ssrc)
    ∷ []

-- an earlier leg has this subscriber and this publisher
abbrev pub has_pair : List LegParts → ℕ → Option ℕ → Option ℕ → Bool
has_pair legs endpoints subscriber publisher =
    list_any (λ l. is_same (number_below l.subscriber endpoints) subscriber
    && is_same (number_below l.publisher endpoints) publisher) legs

-- A leg's publisher is an endpoint, another one than its subscriber, and no earlier leg has this pair.
abbrev pub is_publisher : List LegParts → ℕ → Option ℕ → Option ℕ → Bool
is_publisher earlier endpoints subscriber publisher =
    is_some publisher && not (is_same subscriber publisher)
    && not (has_pair earlier endpoints subscriber publisher)

-- the keys of a leg, by their names
abbrev pub leg_checks : Parts → ℕ × LegParts → List Check
leg_checks p (k, l) =
    let subscriber = number_below l.subscriber (length p.endpoints.items) in
    let publisher = number_below l.publisher (length p.endpoints.items) in
    check (is_some (number_below (or_zero l.first_seq) SEQ_CYCLE)) (Leg k key.FirstSeq)
    ∷ check (is_some (number_below l.out_ssrc SSRCS)) (Leg k key.OutSsrc)
    ∷ check (is_publisher (take k p.legs.items) (length p.endpoints.items) subscriber publisher)
    (Leg k key.Publisher)
    ∷ check (is_some subscriber) (Leg k key.Subscriber)
    ∷ []

-- a number of settings that passed: no part is missing then
abbrev pub number_or_zero : Option ℤ → ℕ → ℕ
number_or_zero value limit = unwrap_or (number_below value limit) 0

-- all sources: the unit's, the endpoints', the legs'
unfoldable pub sources : Parts → List ℕ
sources p =
    number_or_zero p.unit_ssrc SSRCS
    ∷ (map (λ e. number_or_zero e SSRCS) p.endpoints.items
    ++ map (λ l. number_or_zero l.out_ssrc SSRCS) p.legs.items)

abbrev pub are_distinct : List ℕ → Bool
are_distinct [] = true
are_distinct (x ∷ xs) = not (list_any (λ y. y == x) xs) && are_distinct xs

-- every check, in order
unfoldable pub checks : Parts → Additions → List Check
checks p x =
    top_checks p x
    ++ flat_map (endpoint_checks x) (enumerate_from 0 p.endpoints.items)
    ++ flat_map (leg_checks p) (enumerate_from 0 p.legs.items)
    ++ check (are_distinct (sources p)) SameSsrc ∷ []

-- the fault of the first check that doesn't pass
abbrev pub first_fault : List Check → Option SettingsFault
first_fault [] = None
first_fault (c ∷ cs) = if c.passes then first_fault cs else Some c.fault

-- the settings of a room
pub record Configuration : Type 0 where
  pub workers : ℕ
  pub ring : ℕ
  pub history : ℕ
  pub timeout_ms : ℕ
  pub report_ms : ℕ
  pub report_slots : ℕ
  pub request_ms : ℕ
  pub pli_gap_ms : ℕ
  pub unit_ssrc : Ssrc
  pub cname : List ℕ
  pub rules : LegRules
  pub endpoints : List Ssrc
  pub cnames : List (List ℕ)
  pub legs : List LegSettings

abbrev pub ssrc_of : Option ℤ → Ssrc
ssrc_of value = record { 0 = number_or_zero value SSRCS }

-- The canonical name that is said of what an endpoint publishes: its own, or else the unit's. One name says one participant, whose
-- clock is one (RFC 3550, section 6.5.1).
abbrev pub said_name : Parts → Additions → ℕ → List ℕ
said_name p x k = unwrap_or (own_name x k) (name_of p.cname)

-- the names that are said of endpoints of which the first has this number
abbrev pub said_names : Parts → Additions → ℕ → List (Option ℤ) → List (List ℕ)
said_names p x k [] = []
said_names p x k (e ∷ es) = said_name p x k ∷ said_names p x (k + 1) es

abbrev pub leg_of : ℕ → LegParts → LegSettings
leg_of endpoints l = record {
  subscriber = number_or_zero l.subscriber endpoints;
  publisher = number_or_zero l.publisher endpoints;
  out_ssrc = ssrc_of l.out_ssrc;
  first_seq = number_or_zero l.first_seq SEQ_CYCLE;
  on = unwrap_or l.on true;
}

-- the settings that these parts spell, with what is asked beyond them, if they pass every check
abbrev pub configuration_of : Parts → Additions → Configuration
configuration_of p x = record {
  workers = unwrap_or (number_within p.workers 1 MAX_WORKERS) 0;
  ring = unwrap_or (number_within p.ring 1 MAX_RING) 0;
  history = unwrap_or (number_within p.history LEAST_HISTORY MAX_HISTORY) 0;
  timeout_ms = unwrap_or (number_within p.timeout_ms 1 MAX_PERIOD_MS) 0;
  report_ms = unwrap_or (number_within p.report_ms 1 MAX_PERIOD_MS) 0;
  report_slots = unwrap_or (number_within (or_one x.report_slots) 1 MAX_REPORT_SLOTS) 0;
  request_ms = unwrap_or (number_within (or_zero p.request_ms) 0 MAX_PERIOD_MS) 0;
  pli_gap_ms = unwrap_or (number_within p.pli_gap_ms 0 MAX_PERIOD_MS) 0;
  unit_ssrc = ssrc_of p.unit_ssrc;
  cname = name_of p.cname;
  rules = x.rules;
  endpoints = map ssrc_of p.endpoints.items;
  cnames = said_names p x 0 p.endpoints.items;
  legs = map (leg_of (length p.endpoints.items)) p.legs.items;
}

-- what holds of a leg: it names two different endpoints, which are there
pub record IsLegAmong (endpoints : ℕ) (l : LegSettings) : Type 0 where
  pub subscriber : l.subscriber < endpoints
  pub publisher : l.publisher < endpoints
  pub different : l.subscriber ≢ l.publisher

-- the legs aren't of one subscriber and one publisher
abbrev pub HasOtherEnds : LegSettings → LegSettings → Type 0
HasOtherEnds a b = a.subscriber ≡ b.subscriber → a.publisher ≢ b.publisher

-- the source of the unit, those of the endpoints and those of the legs
abbrev pub sources_of : Configuration → List ℕ
sources_of s = s.unit_ssrc.0 ∷ (map (λ e. e.0) s.endpoints ++ map (λ l. l.out_ssrc.0) s.legs)

-- What always holds of settings: each number is in its range, and each endpoint has a canonical name. Each leg names two different
-- endpoints, no two legs name the same two, and all sources differ.
pub record IsInRange (s : Configuration) : Type 0 where
  pub least_workers : 1 ≤ s.workers
  pub most_workers : s.workers ≤ MAX_WORKERS
  pub least_ring : 1 ≤ s.ring
  pub most_ring : s.ring ≤ MAX_RING
  pub least_history : LEAST_HISTORY ≤ s.history
  pub most_history : s.history ≤ MAX_HISTORY
  pub least_timeout : 1 ≤ s.timeout_ms
  pub most_timeout : s.timeout_ms ≤ MAX_PERIOD_MS
  pub least_report : 1 ≤ s.report_ms
  pub most_report : s.report_ms ≤ MAX_PERIOD_MS
  pub least_slots : 1 ≤ s.report_slots
  pub most_slots : s.report_slots ≤ MAX_REPORT_SLOTS
  pub most_request : s.request_ms ≤ MAX_PERIOD_MS
  pub most_gap : s.pli_gap_ms ≤ MAX_PERIOD_MS
  pub least_cname : 1 ≤ length s.cname
  pub most_cname : length s.cname ≤ CNAME_LIMIT
  pub least_endpoints : 1 ≤ length s.endpoints
  pub most_endpoints : length s.endpoints ≤ MAX_ENDPOINTS
  pub cname_count : length s.cnames ≡ length s.endpoints
  pub cnames : All (λ n. is_cname n ≡ true) s.cnames
  pub most_legs : length s.legs ≤ MAX_LEGS
  pub legs : All (IsLegAmong (length s.endpoints)) s.legs
  pub pairs : AllPairs HasOtherEnds s.legs
  pub sources : AllPairs (λ a b. a ≢ b) (sources_of s)

-- the plain numbers of these parts and of what is asked beyond them, in their ranges
pub record AreNumbersOf (p : Parts) (x : Additions) (n : Numbers) : Type 0 where
  pub workers : number_within p.workers 1 MAX_WORKERS ≡ Some n.workers
  pub ring : number_within p.ring 1 MAX_RING ≡ Some n.ring
  pub history : number_within p.history LEAST_HISTORY MAX_HISTORY ≡ Some n.history
  pub timeout_ms : number_within p.timeout_ms 1 MAX_PERIOD_MS ≡ Some n.timeout_ms
  pub report_ms : number_within p.report_ms 1 MAX_PERIOD_MS ≡ Some n.report_ms
  pub report_slots : number_within (or_one x.report_slots) 1 MAX_REPORT_SLOTS ≡ Some n.report_slots
  pub request_ms : number_within (or_zero p.request_ms) 0 MAX_PERIOD_MS ≡ Some n.request_ms
  pub pli_gap_ms : number_within p.pli_gap_ms 0 MAX_PERIOD_MS ≡ Some n.pli_gap_ms
