-- What reports say of loss, jitter and round trip, by a unit's lines for `reports`.
use Rattle.std.specs.Prelude.{ℕ, ◌==◌, ◌^◌, nat_lt, Bool, false, List, [], ◌∷◌, Option, None, Some, option_map, option_and_then, codes, flat_map, if◌then◌else◌}
use Rattle.std.specs.Str.{bytes_eq}
use Rattle.request_text.specs.Lines.{lines_of}
use Rattle.request_text.specs.Words.{number_under, words_in}
use Rattle.web.specs.declared.reports.About.{About}
use Rattle.web.specs.declared.reports.About.TheVariants.{Leg, Publisher}
use Rattle.web.specs.declared.reports.ReceptionLine.{ReceptionLine}
use Rattle.web.specs.Endpoints.{as_list}
use Rattle.web.specs.Words.{word_at}

abbrev pub number_at : List (List ℕ) → ℕ → Option ℕ
number_at words place = number_under (2 ^ 64) (word_at words place)

-- of 256
abbrev pub fraction_in : List ℕ → Option ℕ
fraction_in word =
    option_and_then (λ n. if nat_lt n (2 ^ 8) then Some n else None) (number_under (2 ^ 64) word)

-- leg N from P to S fraction F lost L jitter J round_trip_ms R heard M ms ago
abbrev pub leg_report : List (List ℕ) → Option ReceptionLine
leg_report words = option_and_then (λ n. option_and_then (λ f. option_map
    (λ j. record { about = Leg n; fraction = f; jitter = j; round_trip_ms = number_at words 13; ago_ms = number_at words 15 })
    (number_at words 11)) (fraction_in (word_at words 7))) (number_under (2 ^ 16) (word_at words 1))

-- publisher N fraction F lost L jitter J sent M ms ago
abbrev pub publisher_report : List (List ℕ) → Option ReceptionLine
publisher_report words = option_and_then (λ n. option_and_then (λ f. option_map
    (λ j. record { about = Publisher n; fraction = f; jitter = j; round_trip_ms = None; ago_ms = number_at words 9 })
    (number_at words 7)) (fraction_in (word_at words 3))) (number_under (2 ^ 16) (word_at words 1))

abbrev pub words_report : List (List ℕ) → Option ReceptionLine
words_report words =
    if bytes_eq (word_at words 0) (codes "leg") then leg_report words
    else if bytes_eq (word_at words 0) (codes "publisher") then publisher_report words
    else None

abbrev pub line_reports : List ℕ → List ReceptionLine
line_reports line = as_list (words_report (words_in line))

unfoldable pub reports_in : List ℕ → List ReceptionLine
reports_in text = flat_map line_reports (lines_of text)

abbrev pub is_about : About → About → Bool
is_about (Leg m) (Leg n) = n == m
is_about (Leg m) (Publisher n) = false
is_about (Publisher m) (Leg n) = false
is_about (Publisher m) (Publisher n) = n == m

-- the first one about this
abbrev pub report_of : List ReceptionLine → About → Option ReceptionLine
report_of [] about = None
report_of (r ∷ reports) about = if is_about about r.about then Some r else report_of reports about

abbrev pub leg_reported : List ReceptionLine → Option ℕ → Option ReceptionLine
leg_reported reports number = option_and_then (λ n. report_of reports (Leg n)) number

abbrev pub publisher_reported : List ReceptionLine → Option ℕ → Option ReceptionLine
publisher_reported reports number = option_and_then (λ n. report_of reports (Publisher n)) number

abbrev pub trip_of : Option ReceptionLine → Option ℕ
trip_of report = option_and_then (λ (r : ReceptionLine). r.round_trip_ms) report

abbrev pub ago_of : Option ReceptionLine → Option ℕ
ago_of report = option_and_then (λ (r : ReceptionLine). r.ago_ms) report

abbrev pub fraction_of : Option ReceptionLine → Option ℕ
fraction_of report = option_map (λ (r : ReceptionLine). r.fraction) report

abbrev pub jitter_of : Option ReceptionLine → Option ℕ
jitter_of report = option_map (λ (r : ReceptionLine). r.jitter) report
