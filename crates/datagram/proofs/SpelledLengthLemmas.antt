-- How many bytes a value is spelled by.
use Rattle.std.proofs.Common.{◌≡◌, ℕ, zero, suc, ◌+◌, ◌*◌, ◌≤◌, List, [], ◌∷◌, ◌++◌, length, map, replicate, Option, None, Some, ap, arith, append-nil, length-append}
use Rattle.std.specs.List.{flat_map}
use Rattle.rtcp_compound.specs.Grammar.{RtcpPacket, packet_bytes}
use Rattle.rtcp_compound.specs.Written.{plain_packet}
use Rattle.rtcp_compound.proofs.WriterLemmas.{bye_length, rr_length, sr_length}
use Rattle.rtcp_feedback.specs.Writing.{nack_body, pli_body, tmmb_body}
use Rattle.rtcp_feedback.specs.declared.tmmb.TmmbrEntry.{TmmbrEntry}
use Rattle.rtcp_feedback.proofs.NackWriteLemmas.{length-nack_body}
use Rattle.rtcp_feedback.proofs.WriteLemmas.{length-tmmb_body}
use Rattle.datagram.specs.declared.reading.Ask.{Ask}
use Rattle.datagram.specs.declared.reading.Ask.TheVariants.{Rate, Resend, Picture}
use Rattle.datagram.specs.declared.reading.Control.{Control}
use Rattle.datagram.specs.declared.reading.What.TheVariants.{Goodbye, Control as Controls}
use Rattle.datagram.specs.Spelling.{ask_packet, notice_packet, speaking_packet, spelling}

plain_length : (fmt kind : ℕ) (body : List ℕ) → length (packet_bytes (plain_packet fmt kind body)) ≡ 4 + length body
plain_length fmt kind body = let same = ap length (append-nil body) in omega arith

report_length : (speaker : ℕ) (report : Option (ℕ × ℕ)) → length (packet_bytes (speaking_packet speaker report)) ≤ 28
report_length speaker None = let long = rr_length speaker [] in omega arith
report_length speaker (Some report) = let long = sr_length speaker report.0 report.1 0 0 [] in omega arith

ask_length : (speaker : ℕ) (ask : Ask) → length (packet_bytes (ask_packet speaker ask)) ≤ 20
ask_length speaker (Rate source word) =
    let entries : List TmmbrEntry = record { ssrc = source; word = word } ∷ [] in
    let body = length-tmmb_body speaker entries in
    let long = plain_length 3 205 (tmmb_body speaker entries) in
    omega arith
ask_length speaker (Resend source n) =
    let body = length-nack_body speaker source.0 (n ∷ []) in
    let long = plain_length 1 205 (nack_body speaker source.0 (n ∷ [])) in
    omega arith
ask_length speaker (Picture source) = let long = plain_length 1 206 (pli_body speaker source.0) in omega arith

asks_length : (speaker : ℕ) (asks : List Ask) → length (flat_map packet_bytes (map (ask_packet speaker) asks)) ≤ 20 * length asks
asks_length speaker [] = omega arith
asks_length speaker (a ∷ asks) =
    let first = ask_length speaker a in
    let rest = asks_length speaker asks in
    let all = length-append (packet_bytes (ask_packet speaker a)) (flat_map packet_bytes (map (ask_packet speaker) asks)) in
    omega arith

notices_length : (speaker n : ℕ) (rest : List RtcpPacket)
    → length (flat_map packet_bytes (replicate n (notice_packet speaker) ++ rest)) ≡ 12 * n + length (flat_map packet_bytes rest)
notices_length speaker zero rest = omega arith
notices_length speaker (suc n) rest =
    let body = length-tmmb_body speaker [] in
    let first = plain_length 4 205 (tmmb_body speaker []) in
    let others = notices_length speaker n rest in
    let all = length-append (packet_bytes (notice_packet speaker)) (flat_map packet_bytes (replicate n (notice_packet speaker) ++ rest)) in
    omega arith

pub control_length : (own : ℕ) (c : Control) (asks : List Ask) (came : List ℕ) → length (spelling own (Controls c) asks came) ≤ 28 + 12 * c.tmmbns + 20 * length asks
unfolding spelling
control_length own c asks came =
    let speaker = c.speaker.0 in
    let report = report_length speaker c.report in
    let asked = asks_length speaker asks in
    let noticed = notices_length speaker c.tmmbns (map (ask_packet speaker) asks) in
    let all = length-append (packet_bytes (speaking_packet speaker c.report)) (flat_map packet_bytes (replicate c.tmmbns (notice_packet speaker) ++ map (ask_packet speaker) asks)) in
    omega arith

pub goodbye_length : (own : ℕ) (asks : List Ask) (came : List ℕ) → length (spelling own Goodbye asks came) ≡ 8
unfolding spelling
goodbye_length own asks came = bye_length (own ∷ [])
