-- The lines of reports for people.
use Rattle.std.specs.Prelude.{ℕ, ◌++◌, List, Option, None, Some, codes}
use Rattle.std.specs.Fmt.{decimal, signed_decimal}
use Rattle.stats.specs.declared.lines.LegLine.{LegLine}
use Rattle.stats.specs.declared.reports.ReceptionReport.{ReceptionReport}
use Rattle.stats.specs.Reports.{age_of}

-- the share lost in 256ths, the packets lost, and the jitter in units of the RTP timestamp
abbrev pub reception_part : ReceptionReport → List ℕ
reception_part r =
    codes " fraction "
    ++ (decimal r.fraction ++ (codes " lost " ++ (signed_decimal r.lost ++ (codes " jitter " ++ decimal r.jitter))))

-- the round trip, if one is known
abbrev pub trip_part : Option ℕ → List ℕ
trip_part None = codes " round_trip_ms none"
trip_part (Some trip) = codes " round_trip_ms " ++ decimal trip

-- how long before this moment the report passed
abbrev pub ago_part : ReceptionReport → ℕ → List ℕ
ago_part r moment = decimal (age_of r moment) ++ codes " ms ago\n"

-- which leg, between whom
abbrev pub reported_leg : LegLine → List ℕ
reported_leg l =
    codes "leg "
    ++ (decimal l.leg ++ (codes " from " ++ (decimal l.publisher ++ (codes " to " ++ decimal l.subscriber))))

-- what the subscriber of a leg reported
abbrev pub line_of_leg_report : LegLine → ReceptionReport → ℕ → List ℕ
line_of_leg_report l r moment =
    reported_leg l
    ++ (reception_part r ++ (trip_part r.round_trip_ms ++ (codes " heard " ++ ago_part r moment)))

-- what was reported to a publisher
abbrev pub line_of_publisher_report : ℕ → ReceptionReport → ℕ → List ℕ
line_of_publisher_report publisher r moment =
    codes "publisher "
    ++ (decimal publisher ++ (reception_part r ++ (codes " sent " ++ ago_part r moment)))
