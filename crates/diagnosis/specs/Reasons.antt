-- Why a subscriber sees nothing, or what it is sent.
use Rattle.std.specs.Prelude.{ℕ, ◌-◌, ◌==◌, ◌&&◌, nat_le, nat_lt, Bool, true, List, [], ◌∷◌, Option, None, Some, option_and_then, unwrap_or, if◌then◌else◌}
use Rattle.std.specs.Option.{option_or}
use Rattle.stats.specs.declared.reports.ReceptionReport.{ReceptionReport}
use Rattle.stats.specs.Reports.{age_of, is_shown}
use Rattle.diagnosis.specs.declared.facts.LegFacts.{LegFacts}
use Rattle.diagnosis.specs.declared.reasons.Reason.{Reason}
use Rattle.diagnosis.specs.declared.reasons.Reason.TheVariants.{Off, OtherSource, OtherPlace, PublisherAbsent, NoMedia, SubscriberAbsent, Skipped, Lossy, Reported, OnlyListens, Unreported}
use Rattle.diagnosis.specs.declared.reasons.TheConstants.{LATELY_MS}
use Rattle.diagnosis.specs.declared.sightings.StrayPlace.{StrayPlace}
use Rattle.diagnosis.specs.declared.sightings.StraySource.{StraySource}
use Rattle.diagnosis.specs.Flow.{each_second}

-- ---- what each reason stands on

-- no media came for some while by this moment, if the last did at the first
abbrev pub is_silent : Option ℕ → ℕ → Bool
is_silent None moment = true
is_silent (Some media) moment = nat_le LATELY_MS (moment - media)

-- how long before this moment something was
abbrev pub age_at : Option ℕ → ℕ → Option ℕ
age_at None moment = None
age_at (Some then_ms) moment = Some (moment - then_ms)

-- how many packets a second went out on the leg of late
abbrev pub flow_rate : LegFacts → ℕ
flow_rate f = each_second f.flow.packets f.flow.ms

-- ---- the reasons

abbrev pub off : LegFacts → Option Reason
off f = if f.is_on then None else Some Off

-- media came under another SSRC while the publisher's own didn't come
abbrev pub source_reason : Option ℕ → ℕ → StraySource → Option Reason
source_reason media moment stray = if is_silent media stray.moment
    then Some (OtherSource stray.source (moment - stray.moment)) else None

abbrev pub other_source : LegFacts → Option Reason
other_source f = option_and_then (source_reason f.publisher.sighting.media_ms f.moment) f.publisher.sighting.source

-- media came from elsewhere under the publisher's SSRC while its own didn't come
abbrev pub place_reason : Option ℕ → ℕ → StrayPlace → Option Reason
place_reason media moment stray = if is_silent media stray.moment
    then Some (OtherPlace stray.address (moment - stray.moment)) else None

abbrev pub other_place : LegFacts → Option Reason
other_place f = option_and_then (place_reason f.publisher.sighting.media_ms f.moment) f.publisher.sighting.place

abbrev pub publisher_absent : LegFacts → Option Reason
publisher_absent f = if f.publisher.is_present then None
    else Some (PublisherAbsent (age_at f.publisher.heard_ms f.moment))

abbrev pub no_media : LegFacts → Option Reason
no_media f = if is_silent f.publisher.sighting.media_ms f.moment
    then Some (NoMedia (age_at f.publisher.sighting.media_ms f.moment)) else None

abbrev pub subscriber_absent : LegFacts → Option Reason
subscriber_absent f = if f.subscriber.is_present then None
    else Some (SubscriberAbsent (age_at f.subscriber.heard_ms f.moment))

-- media come, and none is sent on
abbrev pub skipped : LegFacts → Option Reason
skipped f = if (f.flow.packets == 0) && nat_lt 0 f.flow.skipped
    then Some (Skipped (each_second f.flow.skipped f.flow.ms)) else None

-- a report of the unit that is still shown, by which a share was lost since the one before (RFC 3550, section 6.4.1)
abbrev pub loss_reason : ℕ → ℕ → ReceptionReport → Option Reason
loss_reason rate moment r =
    if is_shown r moment && nat_lt 0 r.fraction then Some (Lossy rate r) else None

-- packets are lost on the way from the publisher to the unit
abbrev pub lossy : LegFacts → Option Reason
lossy f = option_and_then (loss_reason (flow_rate f) f.moment) f.unit_report

-- a report that isn't shown any more
abbrev pub silence_reason : ℕ → ℕ → ReceptionReport → Option Reason
silence_reason rate moment r =
    if is_shown r moment then None else Some (Unreported rate (Some (age_of r moment)))

-- the subscriber reported, and does no more
abbrev pub fell_silent : LegFacts → Option Reason
fell_silent f = option_and_then (silence_reason (flow_rate f) f.moment) f.report

-- a report that is still shown
abbrev pub report_reason : ℕ → ℕ → ReceptionReport → Option Reason
report_reason rate moment r =
    if is_shown r moment then Some (Reported rate r) else None

abbrev pub reported : LegFacts → Option Reason
reported f = option_and_then (report_reason (flow_rate f) f.moment) f.report

abbrev pub subscriber_listens : LegFacts → Option Reason
subscriber_listens f = if f.subscriber.only_listens
    then Some (OnlyListens (flow_rate f) (age_at f.subscriber.heard_ms f.moment)) else None

-- the subscriber never reported
abbrev pub unreported : LegFacts → Reason
unreported f = Unreported (flow_rate f) None

-- what the subscriber reports, if that is said
abbrev pub report_in : Reason → Option ReceptionReport
report_in Off = None
report_in (OtherSource source ago) = None
report_in (OtherPlace address ago) = None
report_in (PublisherAbsent ago) = None
report_in (NoMedia ago) = None
report_in (SubscriberAbsent ago) = None
report_in (Skipped rate) = None
report_in (Lossy rate report) = None
report_in (Reported rate report) = Some report
report_in (OnlyListens rate ago) = None
report_in (Unreported rate ago) = None

-- what the unit reports to the publisher, if that is said
abbrev pub unit_report_in : Reason → Option ReceptionReport
unit_report_in Off = None
unit_report_in (OtherSource source ago) = None
unit_report_in (OtherPlace address ago) = None
unit_report_in (PublisherAbsent ago) = None
unit_report_in (NoMedia ago) = None
unit_report_in (SubscriberAbsent ago) = None
unit_report_in (Skipped rate) = None
unit_report_in (Lossy rate report) = Some report
unit_report_in (Reported rate report) = None
unit_report_in (OnlyListens rate ago) = None
unit_report_in (Unreported rate ago) = None

-- ---- which is said

-- the first of them that is there
abbrev pub first_there : Option Reason → List (Option Reason) → Option Reason
first_there reason [] = reason
first_there reason (next ∷ others) = first_there (option_or reason next) others

-- what keeps media from coming
abbrev pub publisher_trouble : LegFacts → Option Reason
publisher_trouble f =
    first_there (off f)
    (other_source f ∷ (other_place f ∷ (publisher_absent f ∷ (no_media f ∷ []))))

-- what becomes of media that come
abbrev pub subscriber_state : LegFacts → Option Reason
subscriber_state f =
    first_there (subscriber_absent f)
    (skipped f ∷ (fell_silent f ∷ (lossy f ∷ (reported f ∷ (subscriber_listens f ∷ [])))))

-- the first that applies, or else that the subscriber never reported
abbrev pub why : LegFacts → Reason
why f = unwrap_or (option_or (publisher_trouble f) (subscriber_state f)) (unreported f)
