-- What reports say, as metrics: their names, what they are, and their values.
use Rattle.std.specs.Prelude.{ℕ, ◌==◌, ◌*◌, ◌/◌, ◌%◌, ◌++◌, List, [], ◌∷◌, Option, None, Some, option_map, option_and_then, codes, flat_map, if◌then◌else◌}
use Rattle.std.specs.Fmt.{decimal, signed_decimal}
use Rattle.stats.specs.declared.metrics.MetricType.TheVariants.{Gauge}
use Rattle.stats.specs.declared.numbered_report.NumberedReport.{NumberedReport}
use Rattle.stats.specs.declared.report_figures.MetricValue.{MetricValue}
use Rattle.stats.specs.declared.report_figures.MetricValue.TheVariants.{Parts, Packets, Microseconds, Milliseconds}
use Rattle.stats.specs.declared.report_figures.ReportFigure.{ReportFigure}
use Rattle.stats.specs.declared.report_figures.ReportFigure.TheVariants.{LegLossRatio, LegLostPackets, LegJitter, LegRoundTrip, LegReportAge, PublisherLossRatio, PublisherLostPackets, PublisherJitter, PublisherReportAge}
use Rattle.stats.specs.declared.reports.ReceptionReport.{ReceptionReport}
use Rattle.stats.specs.declared.subjects.Subject.{Subject}
use Rattle.stats.specs.Metrics.{help_line, type_line}
use Rattle.stats.specs.Reports.{age_of}
use Rattle.stats.specs.Subjects.{clock_at, labels_at}

-- ---- which there are

abbrev pub leg_report_figures : List ReportFigure
leg_report_figures = LegLossRatio ∷ LegLostPackets ∷ LegJitter ∷ LegRoundTrip ∷ LegReportAge ∷ []

abbrev pub publisher_report_figures : List ReportFigure
publisher_report_figures = PublisherLossRatio ∷ PublisherLostPackets ∷ PublisherJitter ∷ PublisherReportAge ∷ []

abbrev pub report_figure_name : ReportFigure → List ℕ
report_figure_name LegLossRatio = codes "sfu_leg_reported_loss_ratio"
report_figure_name LegLostPackets = codes "sfu_leg_reported_lost_packets"
report_figure_name LegJitter = codes "sfu_leg_reported_jitter_seconds"
report_figure_name LegRoundTrip = codes "sfu_leg_round_trip_seconds"
report_figure_name LegReportAge = codes "sfu_leg_report_age_seconds"
report_figure_name PublisherLossRatio = codes "sfu_publisher_reported_loss_ratio"
report_figure_name PublisherLostPackets = codes "sfu_publisher_reported_lost_packets"
report_figure_name PublisherJitter = codes "sfu_publisher_reported_jitter_seconds"
report_figure_name PublisherReportAge = codes "sfu_publisher_report_age_seconds"

abbrev pub report_figure_help : ReportFigure → List ℕ
report_figure_help LegLossRatio = codes "The share of packets lost that the subscriber reported last."
report_figure_help LegLostPackets = codes "The packets lost that the subscriber reported last."
report_figure_help LegJitter = codes "The jitter that the subscriber reported last."
report_figure_help LegRoundTrip = codes "The round trip to the subscriber, by its reports."
report_figure_help LegReportAge = codes "How long ago the subscriber reported last."
report_figure_help PublisherLossRatio = codes "The share of packets lost that the unit reported last."
report_figure_help PublisherLostPackets = codes "The packets lost that the unit reported last."
report_figure_help PublisherJitter = codes "The jitter that the unit reported last."
report_figure_help PublisherReportAge = codes "How long ago the unit reported last."

-- ---- values

-- so many units of a clock of so many hertz in microseconds, rounded down; a clock that stands still has none
abbrev pub clock_us : ℕ → ℕ → Option ℕ
clock_us units rate = if rate == 0 then None else Some (units * 1000000 / rate)

-- a jitter, which a report gives in units of the media's clock (RFC 3550, section 6.4.1); none if the clock isn't known
abbrev pub jitter_value : ℕ → Option ℕ → Option MetricValue
jitter_value units clock =
    option_map Microseconds (option_and_then (λ rate. clock_us units rate) clock)

-- what a report says of media with this clock, at this moment; of the round trip nothing before one is known
abbrev pub metric_value_of : ReportFigure → ReceptionReport → Option ℕ → ℕ → Option MetricValue
metric_value_of LegLossRatio r clock moment = Some (Parts r.fraction)
metric_value_of LegLostPackets r clock moment = Some (Packets r.lost)
metric_value_of LegJitter r clock moment = jitter_value r.jitter clock
metric_value_of LegRoundTrip r clock moment = option_map Milliseconds r.round_trip_ms
metric_value_of LegReportAge r clock moment = Some (Milliseconds (age_of r moment))
metric_value_of PublisherLossRatio r clock moment = Some (Parts r.fraction)
metric_value_of PublisherLostPackets r clock moment = Some (Packets r.lost)
metric_value_of PublisherJitter r clock moment = jitter_value r.jitter clock
metric_value_of PublisherReportAge r clock moment = Some (Milliseconds (age_of r moment))

abbrev pub three_digits : ℕ → List ℕ
three_digits n = decimal (n / 100 % 10) ++ (decimal (n / 10 % 10) ++ decimal (n % 10))

abbrev pub four_digits : ℕ → List ℕ
four_digits n = decimal (n / 1000 % 10) ++ three_digits n

-- so many 256ths of 1, exactly, since 1 / 256 is 0.00390625
abbrev pub ratio_text : ℕ → List ℕ
ratio_text n =
    codes "0." ++ (four_digits (n * 390625 / 10000) ++ four_digits (n * 390625 % 10000))

-- so many milliseconds in seconds
abbrev pub seconds_text : ℕ → List ℕ
seconds_text n = decimal (n / 1000) ++ (codes "." ++ three_digits n)

-- so many microseconds in seconds
abbrev pub microseconds_text : ℕ → List ℕ
microseconds_text n =
    decimal (n / 1000000) ++ (codes "." ++ (three_digits (n / 1000) ++ three_digits n))

abbrev pub metric_value_text : MetricValue → List ℕ
metric_value_text (Parts n) = ratio_text n
metric_value_text (Packets n) = signed_decimal n
metric_value_text (Microseconds n) = microseconds_text n
metric_value_text (Milliseconds n) = seconds_text n

-- ---- a metric

-- the metric, and of whom it is
abbrev pub reading_start : ReportFigure → List ℕ → List ℕ
reading_start f labels = report_figure_name f ++ (codes "{" ++ (labels ++ codes "} "))

-- its value of one leg, or of one publisher; no line if it has none
abbrev pub metric_value_line : ReportFigure → List ℕ → Option MetricValue → List ℕ
metric_value_line f labels None = []
metric_value_line f labels (Some reading) = reading_start f labels ++ (metric_value_text reading ++ codes "\n")

abbrev pub report_line : ReportFigure → ℕ → List Subject → NumberedReport → List ℕ
report_line f moment subjects n =
    metric_value_line f (labels_at subjects n.number)
    (metric_value_of f n.report (clock_at subjects n.number) moment)

abbrev pub report_figure_text : ReportFigure → ℕ → List Subject → List NumberedReport → List ℕ
report_figure_text f moment subjects reports =
    help_line (report_figure_name f) (report_figure_help f)
    ++ (type_line (report_figure_name f) Gauge ++ flat_map (report_line f moment subjects) reports)

-- each figure of the reports, at a moment, as a metric, with ratios and seconds as exact decimals
abbrev pub report_figures_text : ℕ → List Subject → List Subject → List NumberedReport → List NumberedReport
    → List ℕ
report_figures_text moment endpoint_subjects leg_subjects legs publishers =
    flat_map (λ (f : ReportFigure). report_figure_text f moment leg_subjects legs) leg_report_figures
    ++ flat_map (λ (f : ReportFigure). report_figure_text f moment endpoint_subjects publishers)
    publisher_report_figures
