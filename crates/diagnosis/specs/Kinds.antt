-- Which of the reasons something is, whatever its numbers, and how the line of each begins.
use Rattle.std.specs.Prelude.{ℕ, List, codes}
use Rattle.diagnosis.specs.declared.kinds.ReasonKind.{ReasonKind}
use Rattle.diagnosis.specs.declared.kinds.ReasonKind.TheVariants.{Off, OtherSource, OtherPlace, PublisherAbsent, NoMedia, SubscriberAbsent, Skipped, Lossy, Reported, OnlyListens, Unreported}
use Rattle.diagnosis.specs.declared.reasons.Reason.{Reason}
use Rattle.diagnosis.specs.declared.reasons.Reason.TheVariants as reasons

abbrev pub kind_of : Reason → ReasonKind
kind_of reasons.Off = Off
kind_of (reasons.OtherSource source ago) = OtherSource
kind_of (reasons.OtherPlace address ago) = OtherPlace
kind_of (reasons.PublisherAbsent ago) = PublisherAbsent
kind_of (reasons.NoMedia ago) = NoMedia
kind_of (reasons.SubscriberAbsent ago) = SubscriberAbsent
kind_of (reasons.Skipped rate) = Skipped
kind_of (reasons.Lossy rate report) = Lossy
kind_of (reasons.Reported rate report) = Reported
kind_of (reasons.OnlyListens rate ago) = OnlyListens
kind_of (reasons.Unreported rate ago) = Unreported

-- the words behind the leg's
abbrev pub kind_words : ReasonKind → List ℕ
kind_words Off = codes "off"
kind_words OtherSource = codes "from the publisher's address packets come under SSRC "
kind_words OtherPlace = codes "under the publisher's SSRC packets come from "
kind_words PublisherAbsent = codes "the publisher is absent"
kind_words NoMedia = codes "the publisher sends no media"
kind_words SubscriberAbsent = codes "the subscriber is absent"
kind_words Skipped = codes "packets come and are skipped: "
kind_words Lossy = codes "sent; packets are lost on the way from the publisher"
kind_words Reported = codes "sent; the subscriber reports"
kind_words OnlyListens = codes "sent; the subscriber only listens"
kind_words Unreported = codes "sent; the subscriber doesn't report"
