-- The line that says why a subscriber sees nothing, for people.
use Rattle.std.specs.Prelude.{ℕ, ◌-◌, ◌++◌, List, [], Option, None, Some, codes}
use Rattle.std.specs.Fmt.{decimal}
use Rattle.std.specs.Net.Text.{socket_text}
use Rattle.std.specs.declared.net.socket_addr.SocketAddr.{SocketAddr}
use Rattle.tmmbr_tuple.specs.declared.ssrc.Ssrc.{Ssrc}
use Rattle.stats.specs.declared.lines.LegLine.{LegLine}
use Rattle.stats.specs.declared.reports.ReceptionReport.{ReceptionReport}
use Rattle.stats.specs.ReportLines.{line_of_leg_report, line_of_publisher_report}
use Rattle.diagnosis.specs.declared.reasons.Reason.{Reason}
use Rattle.diagnosis.specs.declared.reasons.Reason.TheVariants.{Off, OtherSource, OtherPlace, PublisherAbsent, NoMedia, SubscriberAbsent, Skipped, Lossy, Reported, OnlyListens, Unreported}
use Rattle.diagnosis.specs.Kinds.{kind_of, kind_words}
use Rattle.diagnosis.specs.Reasons.{report_in, unit_report_in}
use Rattle.diagnosis.specs.declared.sightings.StraySource.{StraySource}

-- which leg, between endpoints that are called so
abbrev pub leg_words : ℕ → List ℕ → List ℕ → List ℕ
leg_words leg publisher subscriber =
    codes "leg "
    ++ (decimal leg
    ++ (codes " from " ++ (publisher ++ (codes " to " ++ (subscriber ++ codes ": ")))))

-- how long ago the last came
abbrev pub ago_words : ℕ → List ℕ
ago_words ago = codes ", the last " ++ (decimal ago ++ codes " ms ago")

-- under which SSRC packets come, and how long ago the last did
abbrev pub source_words : Ssrc → ℕ → List ℕ
source_words source ago = decimal source.0 ++ ago_words ago

-- from which address
abbrev pub place_words : SocketAddr → ℕ → List ℕ
place_words address ago = socket_text address ++ ago_words ago

-- the same, if one came
abbrev pub last_words : Option ℕ → List ℕ
last_words None = []
last_words (Some ago) = ago_words ago

-- how long ago an endpoint was heard
abbrev pub heard_words : Option ℕ → List ℕ
heard_words None = codes ", never heard"
heard_words (Some ago) = codes ", heard " ++ (decimal ago ++ codes " ms ago")

-- how much is sent
abbrev pub rate_words : ℕ → List ℕ
rate_words rate = codes "; " ++ (decimal rate ++ codes " packets a second")

abbrev pub detail_words : Reason → List ℕ
detail_words Off = []
detail_words (OtherSource source ago) = source_words source ago
detail_words (OtherPlace address ago) = place_words address ago
detail_words (PublisherAbsent ago) = heard_words ago
detail_words (NoMedia ago) = last_words ago
detail_words (SubscriberAbsent ago) = heard_words ago
detail_words (Skipped rate) = decimal rate ++ codes " a second"
detail_words (Lossy rate report) = rate_words rate
detail_words (Reported rate report) = rate_words rate
detail_words (OnlyListens rate ago) = heard_words ago ++ rate_words rate
detail_words (Unreported rate ago) = last_words ago ++ rate_words rate

-- the line of a leg
abbrev pub line_of_reason : ℕ → List ℕ → List ℕ → Reason → List ℕ
line_of_reason leg publisher subscriber reason =
    leg_words leg publisher subscriber
    ++ (kind_words (kind_of reason) ++ (detail_words reason ++ codes "\n"))

-- what was reported of the leg
abbrev pub reported_line : LegLine → Option ReceptionReport → ℕ → List ℕ
reported_line l None moment = []
reported_line l (Some report) moment = line_of_leg_report l report moment

-- what the unit reported to the publisher
abbrev pub unit_reported_line : ℕ → Option ReceptionReport → ℕ → List ℕ
unit_reported_line publisher None moment = []
unit_reported_line publisher (Some report) moment = line_of_publisher_report publisher report moment

-- the line of a leg, and of what is reported of it, or to its publisher
abbrev pub lines_of_reason : LegLine → List ℕ → List ℕ → Reason → ℕ → List ℕ
lines_of_reason l publisher subscriber reason moment =
    line_of_reason l.leg publisher subscriber reason
    ++ (reported_line l (report_in reason) moment
    ++ unit_reported_line l.publisher (unit_report_in reason) moment)

-- whose packets they are
abbrev pub endpoint_words : ℕ → List ℕ
endpoint_words endpoint = codes "endpoint " ++ (decimal endpoint ++ codes " under SSRC ")

-- under which SSRC packets come from an endpoint's address, though that isn't its own
abbrev pub line_of_stray : ℕ → StraySource → ℕ → List ℕ
line_of_stray endpoint stray moment =
    endpoint_words endpoint
    ++ (source_words stray.source (moment - stray.moment) ++ codes "\n")
