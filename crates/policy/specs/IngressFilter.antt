-- What becomes of what was read of a datagram, and what is known then: under whose source it is heard, where its source stands, and what of it is
-- let through (RFC 3550, appendix A.1; RFC 4585, section 6.2.1).
use Rattle.std.specs.Prelude.{◌≡◌, ◌==◌, ◌&&◌, ℕ, Bool, true, false, List, Option, None, Some, if◌then◌else◌}
use Rattle.datagram.specs.declared.reading.Ask.{Ask}
use Rattle.datagram.specs.declared.reading.Control.{Control}
use Rattle.datagram.specs.declared.reading.Media.{Media}
use Rattle.datagram.specs.declared.reading.Reading.{Reading}
use Rattle.datagram.specs.declared.reading.Sent.{Sent}
use Rattle.datagram.specs.declared.reading.What.{What}
use Rattle.datagram.specs.declared.reading.What.TheVariants.{Media as media_of, Goodbye, Control as rtcp_of, Refused}
use Rattle.members.specs.Room.{RoomState}
use Rattle.settings.specs.Settings.{Configuration}
use Rattle.tmmbr_tuple.specs.declared.ssrc.Ssrc.{Ssrc}
use Rattle.policy.specs.ResendLimiter.{AdmitsResends, ResendState, counted_by, idle_resends, resends_without}
use Rattle.policy.specs.Presence.{is_there}
use Rattle.policy.specs.SequenceTrackers.{placement_at, trackers_with, trackers_without, stamp_of}
use Rattle.policy.specs.declared.leg_resends.ResendBounds.{ResendBounds}
use Rattle.policy.specs.declared.rules.Rules.{Rules}
use Rattle.policy.specs.declared.sequence_tracker.SequenceTracker.{SequenceTracker}
use Rattle.policy.specs.declared.sequence_tracker.Stamp.{Stamp}
use Rattle.policy.specs.declared.sequence_tracker.Placement.{Placement}
use Rattle.policy.specs.declared.sequence_tracker.Placement.TheVariants.{InSequence, Jump, Restart}
use Rattle.policy.specs.declared.ingress_filter.Judged.{Judged}
use Rattle.policy.specs.declared.ingress_filter.Judged.TheVariants.{Take, HoldPacket, Anew as begun_anew}
use Rattle.policy.specs.declared.ingress_filter.IngressFilter.{IngressFilter}

-- by which rules it judges, where round trips are known, and where it counts stays
pub record Stays (s t : IngressFilter) : Type 0 where
  pub rules : t.rules ≡ s.rules
  pub traffic : t.traffic ≡ s.traffic
  pub far : t.far ≡ s.far
  pub held : t.held ≡ s.held

-- resends are bounded if a gap is wanted, or a share
abbrev pub resends_by : Configuration → ResendBounds → Option ResendState
resends_by c bounds =
    if (bounds.gap_ms == 0) && (bounds.share == 0) then None else Some (idle_resends c bounds)

-- ---- who comes anew

-- of its numbers nothing is known, if new starts are looked for
abbrev pub trackers_left : Bool → List (Option SequenceTracker) → ℕ → List (Option SequenceTracker)
trackers_left true runs endpoint = trackers_without runs endpoint
trackers_left false runs endpoint = runs

abbrev pub resends_left : Option ResendState → ℕ → Option ResendState
resends_left None endpoint = None
resends_left (Some r) endpoint = Some (resends_without r endpoint)

-- What is known once this endpoint comes anew (RFC 3550, appendix A.1): nothing of its numbers, and of resends that nothing came of it. The
-- round trips to it stand with the counts that threads raise.
abbrev pub come_anew : IngressFilter → ℕ → IngressFilter
come_anew s endpoint = record s {
  starts = trackers_left s.rules.new_starts s.starts endpoint;
  resends = resends_left s.resends endpoint;
}

-- Who is heard comes anew if it isn't there by the room at that moment (RFC 3550, appendix A.1).
abbrev pub welcomed : IngressFilter → Sent → RoomState → IngressFilter
welcomed s sent room =
    if is_there room sent.endpoint sent.moment then s else come_anew s sent.endpoint

-- ---- a packet

-- its number and timestamp, and when it came, if it is of the endpoint's own source
abbrev pub stamp_in : Sent → Media → Option Stamp
stamp_in sent packet =
    if packet.ssrc.0 == sent.own.0
    then Some (stamp_of packet.parts.sequence_number packet.timestamp sent.moment)
    else None

-- where it stands by that, if new starts are looked for, and what is noted of each endpoint then
abbrev pub placement_by : Bool → List (Option SequenceTracker) → ℕ → Stamp → Placement
placement_by true runs endpoint stamp = placement_at runs endpoint stamp
placement_by false runs endpoint stamp = InSequence

abbrev pub trackers_by : Bool → List (Option SequenceTracker) → ℕ → Stamp → List (Option SequenceTracker)
trackers_by true runs endpoint stamp = trackers_with runs endpoint stamp
trackers_by false runs endpoint stamp = runs

abbrev pub judged_by : Placement → Judged
judged_by InSequence = Take
judged_by Jump = HoldPacket
judged_by Restart = begun_anew

-- once a packet of the endpoint came
abbrev pub counted_in : Option ResendState → ℕ → ℕ → Option ResendState
counted_in None endpoint moment = None
counted_in (Some r) endpoint moment = Some (counted_by r endpoint moment)

-- a far packet is counted only if it is taken in after all
abbrev pub counted_unless_far : Placement → Option ResendState → Sent → Option ResendState
counted_unless_far InSequence r sent = counted_in r sent.endpoint sent.moment
counted_unless_far Jump r sent = r
counted_unless_far Restart r sent = counted_in r sent.endpoint sent.moment

-- A packet of the own source is placed, noted, and counted (RFC 3550, appendix A.1).
pub record PlacesOwn (s t : IngressFilter) (sent : Sent) (stamp : Stamp) (judged : Judged) : Type 0 where
  pub is_judged : judged
      ≡ judged_by (placement_by s.rules.new_starts s.starts sent.endpoint stamp)
  pub noted : t.starts ≡ trackers_by s.rules.new_starts s.starts sent.endpoint stamp
  pub counted : t.resends
      ≡ counted_unless_far (placement_by s.rules.new_starts s.starts sent.endpoint stamp)
      s.resends sent

-- one of another source is taken in, and nothing is known of it
abbrev pub JudgesPacket : IngressFilter → IngressFilter → Sent → Option Stamp → Judged → Type 0
JudgesPacket s t sent None judged = (judged ≡ Take) × (t ≡ s)
JudgesPacket s t sent (Some stamp) judged = PlacesOwn s t sent stamp judged

-- ---- RTCP packets

-- RTCP is heard under this source, unless the rules are strict (RFC 3550, section 6.4.2)
abbrev pub rtcp_heard : Rules → Control → Ssrc → Control
rtcp_heard rules c clocked = record {
  speaker = if rules.strict_ssrc then c.speaker else clocked;
  report = c.report;
  tmmbns = c.tmmbns;
}

-- if resends aren't bounded all that is asked for is let through
abbrev pub AdmitsResendsIf : Sent → Option ResendState → Option ResendState → List Ask → List Ask → Type 0
AdmitsResendsIf sent None after asks left = (after ≡ None) × (left ≡ asks)
AdmitsResendsIf sent (Some r) None asks left = ⊥
AdmitsResendsIf sent (Some r) (Some after) asks left = AdmitsResends sent r after asks left

-- what the own source asks for is left as far as it is let through; what another one asks for stays as it is (RFC 4585, section 6.1)
abbrev pub IsLeft : Bool → Sent → Option ResendState → Option ResendState → List Ask → List Ask → Type 0
IsLeft true sent before after asks left = AdmitsResendsIf sent before after asks left
IsLeft false sent before after asks left = (after ≡ before) × (left ≡ asks)

-- RTCP is taken in under a source, with what is left of what it asks for (RFC 4585, section 6.2.1).
pub record JudgesRtcp (s t : IngressFilter) (sent : Sent) (heard : Control) (old new : Reading) (judged : Judged) : Type 0 where
  pub is_judged : judged ≡ Take
  pub what : new.what ≡ rtcp_of heard
  pub asks : IsLeft (heard.speaker.0 == sent.own.0) sent s.resends t.resends old.asks.items new.asks.items
  pub clocked : new.clocked ≡ old.clocked
  pub beyond : new.beyond ≡ old.beyond
  pub starts : t.starts ≡ s.starts

-- ---- anything

-- it is taken in as it was read
abbrev pub PassesOn : IngressFilter → IngressFilter → Reading → Reading → Judged → Type 0
PassesOn s t old new judged = (judged ≡ Take) × (t ≡ s) × (new ≡ old)

abbrev pub JudgesAs : What → IngressFilter → IngressFilter → Sent → Reading → Reading → Judged → Type 0
JudgesAs (media_of packet) s t sent old new judged =
    JudgesPacket s t sent (stamp_in sent packet) judged × (new ≡ old)
JudgesAs Goodbye s t sent old new judged = PassesOn s t old new judged
JudgesAs (rtcp_of c) s t sent old new judged =
    JudgesRtcp s t sent (rtcp_heard s.rules c old.clocked) old new judged
JudgesAs (Refused refusal) s t sent old new judged = PassesOn s t old new judged

-- A packet of the own source is placed, noted and counted (RFC 3550, appendix A.1). RTCP is heard under a source, with what is left of what
-- it asks for (RFC 4585, section 6.2.1). Anything else is taken in as it was read.
abbrev pub Judges : IngressFilter → IngressFilter → Sent → Reading → Reading → Judged → Type 0
Judges s t sent old new judged = JudgesAs old.what s t sent old new judged

-- ---- if nothing is asked of it

-- no start is looked for, who speaks has to be the own source, and resends aren't bounded
pub record LooksForNothing (s : IngressFilter) : Type 0 where
  pub new_starts : s.rules.new_starts ≡ false
  pub strict_ssrc : s.rules.strict_ssrc ≡ true
  pub unbounded : s.resends ≡ None

-- it is taken in as it was read, and nothing is known but what was
pub record IsAsItWas (s t : IngressFilter) (old new : Reading) (judged : Judged) : Type 0 where
  pub is_judged : judged ≡ Take
  pub starts : t.starts ≡ s.starts
  pub resends : t.resends ≡ s.resends
  pub what : new.what ≡ old.what
  pub asks : new.asks.items ≡ old.asks.items
  pub clocked : new.clocked ≡ old.clocked
  pub beyond : new.beyond ≡ old.beyond
