-- What a unit is like, as JSON: the words of its answers to `present`, `legs` and `counts`, by their places, with the octets that `metrics` and
-- the receptions that `reports` tell of.
use Rattle.std.specs.Prelude.{◌≡◌, ℕ, ◌^◌, Option, None, Some, Result, OnOk, List, [], ◌∷◌, ◌++◌, codes, decimal, flat_map, if◌then◌else◌}
use Rattle.std.specs.Str.{bytes_eq}
use Rattle.json.specs.Token.{Token, begin_object, end_object, begin_array, end_array, key, string, number, boolean, null}
use Rattle.json.specs.Written.{Written}
use Rattle.request_text.specs.Lines.{lines_of}
use Rattle.request_text.specs.Words.{number_under, words_in}
use Rattle.web.specs.declared.octets.FlowCount.{FlowCount}
use Rattle.web.specs.declared.octets.Way.TheVariants.{Heard, Sent}
use Rattle.web.specs.declared.said.Said.{Said}
use Rattle.web.specs.declared.state.Rows.{Rows}
use Rattle.web.specs.declared.state.Rows.TheVariants.{Endpoints, Legs, Totals}
use Rattle.web.specs.declared.reports.ReceptionLine.{ReceptionLine}
use Rattle.web.specs.Octets.{flows_in, octets_of}
use Rattle.web.specs.Reports.{ago_of, fraction_of, jitter_of, leg_reported, publisher_reported, reports_in, trip_of}
use Rattle.web.specs.Words.{name_word, plain_word, printed_word, refused_word, word_at}

-- these tokens come after those that were written
abbrev pub Tells : {E : Type 0} → Result (Unit {0}) E → Written → Written → List Token → Type 0
Tells r old new tokens = OnOk r ((new.before ≡ old.before) × (new.tokens ≡ old.tokens ++ tokens))

-- ---- members

abbrev pub number_or_null : Option ℕ → Token
number_or_null (Some n) = number (decimal n)
number_or_null None = null

unfoldable pub known_member : List ℕ → Option ℕ → List Token
known_member name n = key name ∷ (number_or_null n ∷ [])

abbrev pub number_member : List ℕ → List ℕ → List Token
number_member name word = known_member name (number_under (2 ^ 64) word)

unfoldable pub text_member : List ℕ → List ℕ → List Token
text_member name word = key name ∷ (string (plain_word word) ∷ [])

abbrev pub string_or_null : Option (List ℕ) → Token
string_or_null (Some text) = string text
string_or_null None = null

unfoldable pub string_member : List ℕ → Option (List ℕ) → List Token
string_member name text = key name ∷ (string_or_null text ∷ [])

-- what an endpoint is called
abbrev pub called_member : List ℕ → List ℕ → List Token
called_member name word = string_member name (printed_word word)

unfoldable pub switch_member : List ℕ → List ℕ → List ℕ → List Token
switch_member name word wanted = key name ∷ (boolean (bytes_eq word wanted) ∷ [])

-- ---- octets

-- those that came from the endpoint, and those that went to it
unfoldable pub octets_members : List FlowCount → ℕ → List Token
octets_members flows n =
    known_member (codes "heard_octets") (octets_of flows (record { endpoint = n; way = Heard }))
    ++ known_member (codes "sent_octets") (octets_of flows (record { endpoint = n; way = Sent }))

-- ---- reports

-- the share that was lost, of 256, and the jitter
unfoldable pub reported_members : Option ℕ → Option ℕ → List Token
reported_members fraction jitter =
    known_member (codes "fraction_lost") fraction
    ++ known_member (codes "jitter") jitter

abbrev pub reception_members : Option ReceptionLine → List Token
reception_members report = reported_members (fraction_of report) (jitter_of report)

-- how long ago a report passed
unfoldable pub ago_member : Option ℕ → List Token
ago_member ago_ms = known_member (codes "reported_ago_ms") ago_ms

unfoldable pub passed_member : Option ReceptionLine → List Token
passed_member report = ago_member (ago_of report)

-- what the unit reported of a publisher, and how long ago
unfoldable pub received_members : Option ReceptionLine → List Token
received_members report = reception_members report ++ passed_member report

-- loss, jitter and round trip
unfoldable pub trip_members : Option ReceptionLine → List Token
trip_members report =
    reception_members report ++ known_member (codes "round_trip_ms") (trip_of report)

-- what a subscriber reported of a leg, and how long ago
unfoldable pub report_members : Option ReceptionLine → List Token
report_members report = trip_members report ++ passed_member report

unfoldable pub heard_members : List ReceptionLine → Option ℕ → List Token
heard_members reports n = report_members (leg_reported reports n)

-- ---- N ssrc SSRC at ADDRESS present heard M ms ago refused R name NAME

unfoldable pub endpoint_members : List (List ℕ) → List Token
endpoint_members words =
    number_member (codes "number") (word_at words 0)
    ++ (number_member (codes "ssrc") (word_at words 2)
    ++ (text_member (codes "address") (word_at words 4)
    ++ (switch_member (codes "present") (word_at words 5) (codes "present")
    ++ number_member (codes "heard_ago_ms") (word_at words 7))))

-- which it is, and what it is called
unfoldable pub who_members : List (List ℕ) → List Token
who_members words = endpoint_members words ++ called_member (codes "name") (name_word words)

abbrev pub endpoint_octets : List FlowCount → Option ℕ → List Token
endpoint_octets flows (Some n) = octets_members flows n
endpoint_octets flows None = []

-- how often something was refused of it
unfoldable pub refused_member : List ℕ → List Token
refused_member word = number_member (codes "refused") word

unfoldable pub measured_members : List FlowCount → List ReceptionLine → Option ℕ → List ℕ → List Token
measured_members flows reports n refused =
    refused_member refused
    ++ (endpoint_octets flows n ++ received_members (publisher_reported reports n))

abbrev pub endpoint_words : List FlowCount → List ReceptionLine → List (List ℕ) → List Token
endpoint_words flows reports words = if bytes_eq (word_at words 1) (codes "ssrc")
    then begin_object
    ∷ (who_members words
    ++ (measured_members flows reports (number_under (2 ^ 16) (word_at words 0)) (refused_word words)
    ++ end_object ∷ []))
    else []

-- ---- N from P to S on stay T packets K octets O resent R missed M next Q skipped U publisher NAME subscriber NAME

unfoldable pub leg_members : List (List ℕ) → List Token
leg_members words =
    number_member (codes "leg") (word_at words 0)
    ++ (number_member (codes "publisher") (word_at words 2)
    ++ (number_member (codes "subscriber") (word_at words 4)
    ++ (switch_member (codes "on") (word_at words 5) (codes "on")
    ++ number_member (codes "stay") (word_at words 7))))

unfoldable pub publisher_member : List ℕ → List Token
publisher_member word = called_member (codes "publisher_name") word

unfoldable pub subscriber_member : List ℕ → List Token
subscriber_member word = called_member (codes "subscriber_name") word

-- what its ends are called
unfoldable pub called_members : List (List ℕ) → List Token
called_members words =
    publisher_member (word_at words 21) ++ subscriber_member (word_at words 23)

-- which leg it is, and what they are called
unfoldable pub leg_ends : List (List ℕ) → List Token
leg_ends words = leg_members words ++ called_members words

unfoldable pub flow_members : List (List ℕ) → List Token
flow_members words =
    number_member (codes "packets") (word_at words 9)
    ++ (number_member (codes "octets") (word_at words 11)
    ++ (number_member (codes "resent") (word_at words 13)
    ++ (number_member (codes "missed") (word_at words 15)
    ++ number_member (codes "next") (word_at words 17))))

abbrev pub leg_words : List ReceptionLine → List (List ℕ) → List Token
leg_words reports words = if bytes_eq (word_at words 1) (codes "from")
    then begin_object
    ∷ (leg_ends words
    ++ (flow_members words
    ++ (heard_members reports (number_under (2 ^ 16) (word_at words 0)) ++ end_object ∷ [])))
    else []

-- ---- present P heard H sent S failed F lost L dropped D strangers T unread U

unfoldable pub totals_members : List (List ℕ) → List Token
totals_members words =
    number_member (codes "present") (word_at words 1)
    ++ (number_member (codes "heard") (word_at words 3)
    ++ (number_member (codes "sent") (word_at words 5)
    ++ number_member (codes "failed") (word_at words 7)))

unfoldable pub losses_members : List (List ℕ) → List Token
losses_members words =
    number_member (codes "lost") (word_at words 9)
    ++ (number_member (codes "dropped") (word_at words 11)
    ++ (number_member (codes "strangers") (word_at words 13)
    ++ number_member (codes "unread") (word_at words 15)))

abbrev pub totals_words : List (List ℕ) → List Token
totals_words words = if bytes_eq (word_at words 0) (codes "present")
    then totals_members words ++ losses_members words else []

-- ---- lines

abbrev pub words_tokens : Rows → List FlowCount → List ReceptionLine → List (List ℕ) → List Token
words_tokens Endpoints flows reports words = endpoint_words flows reports words
words_tokens Legs flows reports words = leg_words reports words
words_tokens Totals flows reports words = totals_words words

abbrev pub line_tokens : Rows → List FlowCount → List ReceptionLine → List ℕ → List Token
line_tokens rows flows reports line = words_tokens rows flows reports (words_in line)

unfoldable pub array_begun : List ℕ → List Token
array_begun name = key name ∷ (begin_array ∷ [])

unfoldable pub array_member : List ℕ → Rows → List FlowCount → List ReceptionLine → List ℕ → List Token
array_member name rows flows reports text =
    array_begun name
    ++ (flat_map (line_tokens rows flows reports) (lines_of text) ++ end_array ∷ [])

unfoldable pub counts_begun : List Token
counts_begun = key (codes "counts") ∷ (begin_object ∷ [])

unfoldable pub counts_member : List FlowCount → List ReceptionLine → List ℕ → List Token
counts_member flows reports text =
    counts_begun
    ++ (flat_map (line_tokens Totals flows reports) (lines_of text) ++ end_object ∷ [])

-- ---- the whole

unfoldable pub state_parts : Said → List FlowCount → List ReceptionLine → List Token
state_parts said flows reports =
    known_member (codes "moment_ms") (Some said.moment_ms)
    ++ (array_member (codes "endpoints") Endpoints flows reports said.present.items
    ++ (array_member (codes "legs") Legs flows reports said.legs.items
    ++ counts_member flows reports said.counts.items))

-- by the octets and the reports that are known
abbrev pub known_tokens : Said → List FlowCount → List ReceptionLine → List Token
known_tokens said flows reports = begin_object ∷ (state_parts said flows reports ++ end_object ∷ [])

abbrev pub state_tokens : Said → List Token
state_tokens said = known_tokens said (flows_in said.metrics.items) (reports_in said.reports.items)
