-- What the endpoints of a unit are called, and of whom its metrics are.
use Rattle.std.specs.Prelude.{ℕ, List, [], map, Option, None, Some, slice_get}
use Rattle.std.specs.Global.{Global}
use Rattle.std.specs.List.{enumerate_from}
use Rattle.std.specs.String.{string_bytes}
use Rattle.std.specs.declared.string.String.{String}
use Rattle.addresses.specs.AddressBook.{endpoint_at}
use Rattle.settings_toml.specs.declared.settings_file.ClientText.{ClientText}
use Rattle.stats.specs.declared.lines.LegLine.{LegLine}
use Rattle.stats.specs.declared.subjects.Subject.{Subject}
use Rattle.stats.specs.Labels.{endpoint_labels, leg_labels}
use Rattle.operations.specs.ClockRates.{first_clock}

abbrev pub called_there : Option (String Global) → List ℕ
called_there None = []
called_there (Some name) = string_bytes name

-- what the endpoint with this number is called
abbrev pub called_at : List (String Global) → ℕ → List ℕ
called_at names endpoint = called_there (slice_get names endpoint)

abbrev pub clock_in_text : Option ClientText → Option ℕ
clock_in_text None = None
clock_in_text (Some text) = first_clock text.rtpmap.items

-- the clock of what it publishes
abbrev pub clock_of : List ClientText → ℕ → Option ℕ
clock_of texts endpoint = clock_in_text (slice_get texts endpoint)

-- of whom samples are: their labels, and the clock
pub record SubjectSays : Type 0 where
  pub labels : List ℕ
  pub clock_rate : Option ℕ

abbrev pub subject_says : Subject → SubjectSays
subject_says s = record { labels = string_bytes s.labels; clock_rate = s.clock_rate }

-- an endpoint has its number and its name as labels
abbrev pub endpoint_subject : List (String Global) → ℕ → ClientText → SubjectSays
endpoint_subject names endpoint text = record {
  labels = endpoint_labels endpoint (called_at names endpoint);
  clock_rate = first_clock text.rtpmap.items;
}

abbrev pub numbered_subject : List (String Global) → ℕ × ClientText → SubjectSays
numbered_subject names e = endpoint_subject names (endpoint_at e.0) e.1

abbrev pub endpoint_subjects : List (String Global) → List ClientText → List SubjectSays
endpoint_subjects names texts = map (numbered_subject names) (enumerate_from 0 texts)

-- a leg has its number and the names of its ends, and its publisher's clock
abbrev pub leg_subject : List (String Global) → List ClientText → LegLine → SubjectSays
leg_subject names texts l = record {
  labels = leg_labels l.leg (called_at names l.publisher) (called_at names l.subscriber);
  clock_rate = clock_of texts l.publisher;
}
