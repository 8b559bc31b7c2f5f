-- What a job gives out on the legs that a worker owns, and what they are from then on. Each leg goes by itself.
use Rattle.std.specs.Prelude.{◌==◌, ◌&&◌, not, ℕ, ◌+◌, ◌%◌, ◌^◌, Bool, List, [], ◌∷◌, ◌++◌, map, fold, slice_index_or, Option, None, Some, Result, Ok, Err, if◌then◌else◌}
use Rattle.std.specs.List.{flat_map}
use Rattle.circular_buffer.specs.Buffer.{keep_last}
use Rattle.members.specs.declared.order.Row.{Row}
use Rattle.settings.specs.declared.settings.LegSettings.{LegSettings}
use Rattle.resend_ring.specs.Kept.{Kept, last_kept_with}
use Rattle.rewrite.specs.declared.skip.Skip.{Skip as Cause}
use Rattle.rewrite.specs.Leg.{Held, new_leg, answer_to, held_with}
use Rattle.members.specs.Stays.{opening_row}
use Rattle.rtcp_compound.specs.Grammar.{packet_bytes}
use Rattle.rtcp_compound.specs.Written.{sr_packet, rr_packet, cname_packet, bye_packet}
use Rattle.rtcp_feedback.specs.Nack.{lost_numbers}
use Rattle.events.specs.declared.job.Job.{Job}
use Rattle.events.specs.declared.job.Job.TheVariants.{Packet, Request, Resend, Pli, Report, Goodbye}
use Rattle.legs.specs.declared.leg.LegState.{LegState}
use Rattle.events.specs.declared.output.Out.{Out}
use Rattle.events.specs.declared.output.Out.TheVariants.{Send, Skip, Miss}
use Rattle.settings.specs.Links.{LinkTable, cname_of, numbered_legs, worker_of}
use Rattle.shared_packet.specs.Rtp.{is_rtp, sequence_number, payload_octets}
use Rattle.shared_packet.specs.Readdressed.{readdressed_bytes}
use Rattle.rewrite.specs.declared.sequence.TheConstants.{SEQ_CYCLE}

-- ---- new legs

abbrev pub new_state : ℕ → ℕ → LegSettings → List ℕ → LegState
new_state ring number link cname = record {
  number = number;
  link = link;
  cname = cname;
  numbers = new_leg link.first_seq;
  kept = record { capacity = ring; items = [] };
  packets = 0;
  octets = 0;
}

-- the leg with this number, which has the name that is said of its publisher
abbrev pub new_leg_of : LinkTable → ℕ → ℕ × LegSettings → LegState
new_leg_of t ring e = new_state ring e.0 e.1 (cname_of t e.1.publisher)

abbrev pub owned_by : LinkTable → ℕ → ℕ → List (ℕ × LegSettings) → List LegState
owned_by t ring worker [] = []
owned_by t ring worker (e ∷ es) =
    if worker_of t e.1 == worker then new_leg_of t ring e ∷ owned_by t ring worker es
    else owned_by t ring worker es

-- the legs of this worker as they begin, by rising number, each with the name of its
-- publisher (RFC 3550, section 6.5.1)
abbrev pub new_legs : LinkTable → ℕ → ℕ → List LegState
new_legs t ring worker = owned_by t ring worker (numbered_legs t)

-- ---- a leg

-- the leg's row; nothing stands on a leg without a row
abbrev pub row_of : List Row → LegState → Row
row_of rows s = slice_index_or rows s.number opening_row

-- a datagram more was handed out
abbrev pub handed_out : LegState → ℕ → LegState
handed_out s more =
    record s { packets = (s.packets + 1) % 2 ^ 32; octets = (s.octets + more) % 2 ^ 32 }

abbrev pub kept_with : Kept (List ℕ) → ℕ → List ℕ → Kept (List ℕ)
kept_with k number bytes =
    record k {
      items = keep_last k.capacity
          (k.items ++ record { number = number; packet = bytes } ∷ []);
    }

-- a packet went out under a number, was kept, and counts
abbrev pub leg_after_packet : LegState → Held → ℕ → ℕ → List ℕ → LegState
leg_after_packet s numbers number more bytes =
    record (handed_out s more) { numbers = numbers; kept = kept_with s.kept number bytes }

-- ---- a packet

-- the packet is of the leg's publisher, and the leg's row is on
abbrev pub takes : List Row → ℕ → List ℕ → LegState → Bool
takes rows publisher bytes s =
    (s.link.publisher == publisher) && ((row_of rows s).on && is_rtp bytes)

abbrev pub answer_on : List Row → List ℕ → LegState → Result ℕ Cause
answer_on rows bytes s = answer_to s.numbers (row_of rows s).turn (sequence_number bytes)

-- the packet as it goes out: under the leg's source, with the number's low 16 bits
abbrev pub outgoing_bytes : LegState → List ℕ → ℕ → List ℕ
outgoing_bytes s bytes number = readdressed_bytes s.link.out_ssrc.0 (number % SEQ_CYCLE) bytes

abbrev pub packet_outs : LegState → List ℕ → Result ℕ Cause → List Out
packet_outs s bytes (Ok number) = Send s.link.subscriber (outgoing_bytes s bytes number) ∷ []
packet_outs s bytes (Err cause) = Skip s.number cause ∷ []

abbrev pub packet_after : List Row → List ℕ → LegState → Result ℕ Cause → LegState
packet_after rows bytes s (Ok number) =
    leg_after_packet s
    (held_with s.numbers (row_of rows s).turn (sequence_number bytes) (Ok number)) number
    (payload_octets bytes)
    (outgoing_bytes s bytes number)
packet_after rows bytes s (Err cause) = s

-- ---- a job that names a stay of a leg

-- the leg has this number, and this stay stands on it
abbrev pub stands : List Row → ℕ → ℕ → LegState → Bool
stands rows leg stay s = (s.number == leg) && (not (stay == 0) && ((row_of rows s).stay == stay))

abbrev pub resend_outs : LegState → ℕ → Option (List ℕ) → List Out
resend_outs s seq None = Miss s.number seq ∷ []
resend_outs s seq (Some bytes) = Send s.link.subscriber bytes ∷ []

-- a packet that was found went out again
abbrev pub resent : LegState → Option (List ℕ) → LegState
resent s None = s
resent s (Some bytes) = handed_out s (payload_octets bytes)

-- a report of the leg's source: with timestamps a sender report with the leg's counts, else a receiver report, and the
-- leg's canonical name (RFC 3550, sections 6.4.1, 6.4.2 and 6.5.1)
abbrev pub report_packet : LegState → Option (ℕ × ℕ) → List ℕ
report_packet s None = packet_bytes (rr_packet s.link.out_ssrc.0 [])
report_packet s (Some sr) =
    packet_bytes (sr_packet s.link.out_ssrc.0 sr.0 sr.1 s.packets s.octets [])

abbrev pub leg_report_bytes : LegState → Option (ℕ × ℕ) → List ℕ
leg_report_bytes s sr =
    report_packet s sr ++ packet_bytes (cname_packet s.link.out_ssrc.0 s.cname)

-- a goodbye of the leg's source, in a compound with an empty receiver report and the leg's canonical name (RFC 3550,
-- sections 6.1 and 6.6)
abbrev pub leg_goodbye_bytes : LegState → List ℕ
leg_goodbye_bytes s =
    leg_report_bytes s None ++ packet_bytes (bye_packet (s.link.out_ssrc.0 ∷ []))

-- ---- jobs

abbrev pub leg_datagrams : List Row → Job → LegState → List Out
leg_datagrams rows (Packet publisher bytes) s =
    if takes rows publisher bytes s then packet_outs s bytes (answer_on rows bytes s) else []
leg_datagrams rows (Resend leg stay nack) s =
    if stands rows leg stay s
    then flat_map (λ seq. resend_outs s seq (last_kept_with s.kept.items seq)) (lost_numbers nack)
    else []
leg_datagrams rows (Report leg stay sr) s =
    if stands rows leg stay s then Send s.link.subscriber (leg_report_bytes s sr) ∷ [] else []
leg_datagrams rows (Goodbye leg) s =
    if s.number == leg then Send s.link.subscriber (leg_goodbye_bytes s) ∷ [] else []
leg_datagrams rows (Request leg stay word) s = []
leg_datagrams rows (Pli leg moment) s = []

abbrev pub leg_after : List Row → Job → LegState → LegState
leg_after rows (Packet publisher bytes) s =
    if takes rows publisher bytes s then packet_after rows bytes s (answer_on rows bytes s) else s
leg_after rows (Resend leg stay nack) s =
    if stands rows leg stay s
    then fold (λ t seq. resent t (last_kept_with t.kept.items seq)) s (lost_numbers nack)
    else s
leg_after rows (Report leg stay sr) s = s
leg_after rows (Goodbye leg) s = s
leg_after rows (Request leg stay word) s = s
leg_after rows (Pli leg moment) s = s

-- what the job gives out on these legs, each by itself
-- (RFC 3550, sections 6.4.1, 6.5.1 and 6.6; RFC 4585, section 6.2.1)
abbrev pub job_datagrams : List Row → List LegState → Job → List Out
job_datagrams rows legs job = flat_map (leg_datagrams rows job) legs

-- the legs once the job is done, each by itself
abbrev pub legs_after : List Row → List LegState → Job → List LegState
legs_after rows legs job = map (leg_after rows job) legs
