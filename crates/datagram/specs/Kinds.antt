-- What feedback a compound of RTCP packets holds, by its type and FMT (RFC 4585, section 6.1; RFC 5104, section 4.2).
use Rattle.std.specs.Prelude.{ℕ, ◌+◌, ◌==◌, ◌&&◌, Bool, false, List, [], ◌∷◌, if◌then◌else◌}
use Rattle.rtcp_compound.specs.Content.{Content, sender_report, receiver_report, description, goodbye, feedback, other}
use Rattle.rtcp_compound.specs.declared.packet.TheConstants.{RTPFB, PSFB}
use Rattle.datagram.specs.declared.kinds.Kinds.{Kinds}
use Rattle.datagram.specs.Counts.{risen}

-- a packet is feedback of this FMT and type
abbrev pub is_feedback : ℕ → ℕ → Content → Bool
is_feedback fmt kind (feedback f k body) = (f == fmt) && (k == kind)
is_feedback fmt kind (sender_report sender ntp rtp packets octets blocks) = false
is_feedback fmt kind (receiver_report sender blocks) = false
is_feedback fmt kind (description count chunks) = false
is_feedback fmt kind (goodbye sources) = false
is_feedback fmt kind (other count k body) = false

abbrev pub one_if : Bool → ℕ
one_if is = if is then 1 else 0

-- how many packets are
abbrev pub feedback_count : ℕ → ℕ → List Content → ℕ
feedback_count fmt kind [] = 0
feedback_count fmt kind (c ∷ cs) = one_if (is_feedback fmt kind c) + feedback_count fmt kind cs

-- how many packets of each kind of feedback a compound holds (RFC 4585, section 6.1; RFC 5104, section 4.2)
abbrev pub kinds_in : List Content → Kinds
kinds_in contents = record {
  nacks = risen 0 (feedback_count 1 RTPFB contents);
  plis = risen 0 (feedback_count 1 PSFB contents);
  tmmbrs = risen 0 (feedback_count 3 RTPFB contents);
  tmmbns = risen 0 (feedback_count 4 RTPFB contents);
}

-- of a datagram that is no compound
abbrev pub no_kinds : Kinds
no_kinds = record { nacks = 0; plis = 0; tmmbrs = 0; tmmbns = 0 }

-- with one packet more
abbrev pub kinds_with : Kinds → Content → Kinds
kinds_with kinds content = record {
  nacks = risen kinds.nacks (one_if (is_feedback 1 RTPFB content));
  plis = risen kinds.plis (one_if (is_feedback 1 PSFB content));
  tmmbrs = risen kinds.tmmbrs (one_if (is_feedback 3 RTPFB content));
  tmmbns = risen kinds.tmmbns (one_if (is_feedback 4 RTPFB content));
}
