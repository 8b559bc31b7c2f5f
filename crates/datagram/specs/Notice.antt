-- What a publisher notifies of (RFC 5104, section 4.2.2).
use Rattle.std.specs.Prelude.{◌==◌, ◌&&◌, ℕ, nat_le, List, [], length, drop, fold, Option, None, Some, if◌then◌else◌}
use Rattle.rtcp_compound.specs.Content.{Content, sender_report, receiver_report, description, goodbye, feedback, other}
use Rattle.rtcp_compound.specs.declared.packet.TheConstants.{RTPFB}
use Rattle.rtcp_feedback.specs.Reading.{entries_in}
use Rattle.rtcp_feedback.specs.declared.tmmb.TmmbrEntry.{TmmbrEntry}

-- the bytes of a body after its sources (RFC 4585, section 6.1)
abbrev pub notice_body : List ℕ → Option (List ℕ)
notice_body body = if nat_le 8 (length body) then Some (drop 8 body) else None

-- the entries' bytes of a packet, if it is a TMMBN: its FMT is 4 (RFC 5104, section 4.2.2.1)
abbrev pub notice_in : Content → Option (List ℕ)
notice_in (sender_report sender ntp rtp packets octets blocks) = None
notice_in (receiver_report sender blocks) = None
notice_in (description count chunks) = None
notice_in (goodbye sources) = None
notice_in (feedback fmt kind body) =
    if (fmt == 4) && (kind == RTPFB) then notice_body body else None
notice_in (other count kind body) = None

abbrev pub or_former : Option (List ℕ) → Option (List ℕ) → Option (List ℕ)
or_former former None = former
or_former former (Some notice) = Some notice

-- what was notified of last, with one packet more
abbrev pub later_notice : Option (List ℕ) → Content → Option (List ℕ)
later_notice former content = or_former former (notice_in content)

abbrev pub entries_of : Option (List ℕ) → List TmmbrEntry
entries_of None = []
entries_of (Some bytes) = entries_in bytes

-- the entries of the last TMMBN among packets, none if there is no TMMBN (RFC 5104, section 4.2.2)
abbrev pub last_notice : List Content → List TmmbrEntry
last_notice contents = entries_of (fold later_notice None contents)
