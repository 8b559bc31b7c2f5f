-- What report blocks say of the reception of a stream, and the round trip by them (RFC 3550, section 6.4.1).
use Rattle.std.specs.Prelude.{ℕ, ◌+◌, ◌-◌, ◌*◌, ◌/◌, ◌%◌, ◌^◌, ◌==◌, ◌&&◌, nat_le, nat_lt, max, not, Bool, IsTrue, List, [], ◌∷◌, All, Option, None, Some, if◌then◌else◌}
use Rattle.rtcp_compound.specs.Report.{ReportBlock}
use Rattle.stats.specs.declared.numbered_report.NumberedReport.{NumberedReport}
use Rattle.stats.specs.declared.reports.ReceptionReport.{ReceptionReport}
use Rattle.stats.specs.declared.reports.SentReport.{SentReport}
use Rattle.stats.specs.declared.reports.TheConstants.{SHOWN_MS}

-- by what blocks name a sender report, as LSR: the middle 32 bits of its NTP timestamp (RFC 3550, section 6.4.1)
abbrev pub lsr_of : ℕ → ℕ
lsr_of ntp = ntp / 2 ^ 16 % 2 ^ 32

-- how many milliseconds lie between two moments, both known modulo 2^32
abbrev pub ms_between : ℕ → ℕ → ℕ
ms_between earlier later = (later + (2 ^ 32 - earlier)) % 2 ^ 32

-- a DLSR, in 65,536ths of a second, as whole milliseconds (RFC 3550, section 6.4.1)
abbrev pub held_ms : ℕ → ℕ
held_ms delay = delay * 1000 / 65536

-- a block names this sender report: it is no block of a receiver that has had none, whose LSR is 0
abbrev pub names_report : SentReport → ReportBlock → Bool
names_report sent b = not (b.last_sr == 0) && (b.last_sr == sent.lsr)

-- The round trip in milliseconds, by a block that comes at this moment (RFC 3550, section 6.4.1). It is the time since the
-- sender report that the block names was sent, less how long the receiver had that by then. None by a block that names
-- another, or that says it had it longer than the time that went by.
abbrev pub round_trip : SentReport → ReportBlock → ℕ → Option ℕ
round_trip sent b moment =
    if names_report sent b then
    (if nat_lt (ms_between sent.moment moment) (held_ms b.delay) then None
    else Some (ms_between sent.moment moment - held_ms b.delay)) else None

-- the round trip that is known of a report
abbrev pub trip_in : Option ReceptionReport → Option ℕ
trip_in None = None
trip_in (Some r) = r.round_trip_ms

-- the newer of two round trips, if it is known
abbrev pub newer_trip : Option ℕ → Option ℕ → Option ℕ
newer_trip None before = before
newer_trip (Some trip) before = Some trip

-- the round trip by a block, if the last sender report of the stream is this one, or none was sent
abbrev pub trip_by : Option SentReport → ReportBlock → ℕ → Option ℕ
trip_by None b moment = None
trip_by (Some sent) b moment = round_trip sent b (moment % 2 ^ 32)

-- ---- how long a report is shown

-- how many milliseconds before this moment a report passed
abbrev pub age_of : ReceptionReport → ℕ → ℕ
age_of r moment = moment - r.moment

-- how far apart the reports of a stream are, in milliseconds: as is given, or else as the last two were; 0 of the first
abbrev pub interval_after : Option ℕ → Option ReceptionReport → ℕ → ℕ
interval_after (Some each_ms) before moment = each_ms
interval_after None None moment = 0
interval_after None (Some r) moment = age_of r moment

-- a report is shown for three of its intervals, and for 15 seconds at least
abbrev pub shown_for : ReceptionReport → ℕ
shown_for r = max SHOWN_MS (3 * r.interval_ms)

-- whether it is still shown at this moment
abbrev pub is_shown : ReceptionReport → ℕ → Bool
is_shown r moment = nat_le (age_of r moment) (shown_for r)

-- what is shown of a leg or a publisher, by its number: its last report, if there was one, while that is shown
abbrev pub shown_of : ℕ → Option ReceptionReport → ℕ → List NumberedReport
shown_of number None moment = []
shown_of number (Some r) moment =
    if is_shown r moment then record { number = number; report = r } ∷ [] else []

-- all of these are still shown
abbrev pub AreShown : List NumberedReport → ℕ → Type 0
AreShown reports moment = All (λ (n : NumberedReport). IsTrue (is_shown n.report moment)) reports

-- ---- a block

-- What is known of a stream's reception after a block: what the block says; the round trip by it, or else the one
-- before (RFC 3550, section 6.4.1); and how far apart such reports are.
abbrev pub report_after : Option ReceptionReport → ReportBlock → Option SentReport → Option ℕ → ℕ → ReceptionReport
report_after before b sent each_ms moment = record {
  fraction = b.fraction;
  lost = b.lost;
  jitter = b.jitter;
  round_trip_ms = newer_trip (trip_by sent b moment) (trip_in before);
  moment = moment;
  interval_ms = interval_after each_ms before moment;
}
