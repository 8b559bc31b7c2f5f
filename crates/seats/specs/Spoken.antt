-- Under which names RTCP packets say that their sender sends and asks.
use Rattle.std.specs.Prelude.{◌≡◌, ℕ, nat_lt, List, length, map, fold, Option, None, Some, if◌then◌else◌}
use Rattle.std.specs.Option.{option_or}
use Rattle.byteorder.specs.Endian.{big_number}
use Rattle.rtcp_compound.specs.Content.{Content, packet_content, sender_report, receiver_report, description, goodbye, feedback, other}
use Rattle.rtcp_compound.specs.Fault.{Refuses}
use Rattle.rtcp_compound.specs.Grammar.{ReadsRtcp, RtcpPacket}
use Rattle.rtcp_compound.specs.declared.fault.RtcpFault.{RtcpFault}
use Rattle.tmmbr_tuple.specs.declared.ssrc.Ssrc.{Ssrc}
use Rattle.seats.specs.declared.spoken.Spoken.{Spoken}

abbrev pub silent : Spoken
silent = record { sends = None; asks = None }

-- the sender of a feedback packet with this body, if it is long enough to have one (RFC 4585, section 6.1)
abbrev pub asker_in : List ℕ → Option Ssrc
asker_in body = if nat_lt (length body) 4 then None else Some (record { 0 = big_number 4 body })

-- a sender report says who sends (RFC 3550, section 6.4.1); a receiver report or feedback who asks (RFC 3550, section 6.4.2; RFC 4585, section 6.1)
abbrev pub spoken_by : Content → Spoken
spoken_by (sender_report sender ntp rtp packets octets blocks) =
    record { sends = Some (record { 0 = sender }); asks = None }
spoken_by (receiver_report sender blocks) = record { sends = None; asks = Some (record { 0 = sender }) }
spoken_by (description count chunks) = silent
spoken_by (goodbye sources) = silent
spoken_by (feedback fmt kind body) = record { sends = None; asks = asker_in body }
spoken_by (other count kind body) = silent

-- with one packet more: the first of those who send, the last of those who ask
abbrev pub spoken_with : Spoken → Content → Spoken
spoken_with spoken content = record {
  sends = option_or spoken.sends (spoken_by content).sends;
  asks = option_or (spoken_by content).asks spoken.asks;
}

abbrev pub spoken_in : List Content → Spoken
spoken_in contents = fold spoken_with silent contents

-- A datagram of RTCP says these names, or none if it joins no packets.
pub record IsSpoken (datagram : List ℕ) (spoken : Spoken) : Type 0 where
  pub joined : (packets : List RtcpPacket) → ReadsRtcp datagram packets → spoken ≡ spoken_in (map packet_content packets)
  pub refused : (fault : RtcpFault) → Refuses datagram fault → spoken ≡ silent
