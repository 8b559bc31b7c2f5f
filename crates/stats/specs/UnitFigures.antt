-- Metrics of a unit as a whole: their names, what they are, and their values.
use Rattle.std.specs.Prelude.{ℕ, ◌++◌, List, codes}
use Rattle.std.specs.Fmt.{decimal}
use Rattle.stats.specs.declared.metrics.MetricType.{MetricType}
use Rattle.stats.specs.declared.metrics.MetricType.TheVariants.{Counter, Gauge}
use Rattle.stats.specs.declared.unit_figures.UnitFigure.{UnitFigure}
use Rattle.stats.specs.declared.unit_figures.UnitFigure.TheVariants.{BuildInfo, StartTime, JobsLost, JobsDropped, Strangers, Unread, Far, ResendsHeld, EntriesBeyond, Stalled}
use Rattle.stats.specs.Metrics.{help_line, type_line}
use Rattle.stats.specs.ReportFigures.{seconds_text}

abbrev pub unit_name : UnitFigure → List ℕ
unit_name BuildInfo = codes "sfu_build_info"
unit_name StartTime = codes "process_start_time_seconds"
unit_name JobsLost = codes "sfu_jobs_lost_total"
unit_name JobsDropped = codes "sfu_jobs_dropped_total"
unit_name Strangers = codes "sfu_strangers_total"
unit_name Unread = codes "sfu_unread_total"
unit_name Far = codes "sfu_far_total"
unit_name ResendsHeld = codes "sfu_resends_held_total"
unit_name EntriesBeyond = codes "sfu_entries_beyond_total"
unit_name Stalled = codes "sfu_stalled_milliseconds_total"

abbrev pub unit_help : UnitFigure → List ℕ
unit_help BuildInfo = codes "The version of the program."
unit_help StartTime = codes "When the unit began, in seconds since 1970 (UTC)."
unit_help JobsLost = codes "Jobs for which a worker's ring had no room."
unit_help JobsDropped = codes "Jobs and notifications that were given up for want of memory or of a view."
unit_help Strangers = codes "Datagrams, or packets of one, that came from nobody."
unit_help Unread = codes "Datagrams that the system dropped at the unit's sockets."
unit_help Far = codes "Packets whose number was far from the highest of their source."
unit_help ResendsHeld = codes "Packets that were asked for again, too soon or too many."
unit_help EntriesBeyond = codes "Entries of feedback beyond those that may be asked for in a datagram."
unit_help Stalled = codes "Milliseconds that the unit slept through, and doesn't count."

abbrev pub unit_kind : UnitFigure → MetricType
unit_kind BuildInfo = Gauge
unit_kind StartTime = Gauge
unit_kind JobsLost = Counter
unit_kind JobsDropped = Counter
unit_kind Strangers = Counter
unit_kind Unread = Counter
unit_kind Far = Counter
unit_kind ResendsHeld = Counter
unit_kind EntriesBeyond = Counter
unit_kind Stalled = Counter

abbrev pub unit_head : UnitFigure → List ℕ
unit_head f = help_line (unit_name f) (unit_help f) ++ type_line (unit_name f) (unit_kind f)

abbrev pub total_line : List ℕ → ℕ → List ℕ
total_line name value = name ++ (codes " " ++ (decimal value ++ codes "\n"))

abbrev pub version_line : List ℕ → List ℕ → List ℕ
version_line name version = name ++ (codes "{version=\"" ++ (version ++ codes "\"} 1\n"))

-- a figure as a metric without labels
abbrev pub total_text : UnitFigure → ℕ → List ℕ
total_text f value = unit_head f ++ total_line (unit_name f) value

-- the version, as a label
abbrev pub build_text : List ℕ → List ℕ
build_text version = unit_head BuildInfo ++ version_line (unit_name BuildInfo) version

abbrev pub start_line : List ℕ → ℕ → List ℕ
start_line name unix_ms = name ++ (codes " " ++ (seconds_text unix_ms ++ codes "\n"))

-- when the unit began, in milliseconds, told in seconds
abbrev pub start_text : ℕ → List ℕ
start_text unix_ms = unit_head StartTime ++ start_line (unit_name StartTime) unix_ms
