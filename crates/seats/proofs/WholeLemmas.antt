-- Packets whose names are exchanged are packets again.
use Rattle.std.proofs.Common.{◌≡◌, ◌∙◌, ℕ, zero, suc, ◌+◌, ◌*◌, ◌%◌, ◌<◌, ◌≤◌, inl, inr, true, List, [], ◌∷◌, ◌++◌, length, map, take, drop, slice_index, refl, sym, ap, subst, arith, length-drop}
use Rattle.std.proofs.lemmas.List.{length-take-le, get_or-append-add, get_or-drop}
use Rattle.rtcp_compound.specs.Fault.{Refuses}
use Rattle.rtcp_compound.specs.Grammar.{AreJoined, HasChunks, HasSources, IsBody, IsPacket, ReadsRtcp, RtcpPacket}
use Rattle.rtcp_compound.specs.Mux.{is_rtcp}
use Rattle.rtcp_compound.specs.declared.fault.RtcpFault.{RtcpFault}
use Rattle.rtcp_compound.specs.declared.packet.TheConstants.{SDES, BYE}
use Rattle.seats.specs.Exchange.{AreRenamed, IsHeardAs, IsToldAs, packet_as}
use Rattle.seats.specs.Names.{leaves_as, renamed}
use Rattle.seats.specs.Places.{entries_as, heard_packet, told_packet, word_as}
use Rattle.seats.specs.declared.names.Names.{Names}
use Rattle.seats.specs.declared.names.Renaming.TheVariants.{Exchange}
use Rattle.seats.specs.declared.renaming.Way.{Way}
use Rattle.seats.specs.declared.renaming.Way.TheVariants.{Heard, Told}
use Rattle.seats.proofs.EntryLemmas.{length-entries, length-word}
use Rattle.seats.proofs.PlaceLemmas.{length-new, new_body}

-- ---- what stands behind entries

behind_entries : (f : ℕ → ℕ) (size n : ℕ) (bytes : List ℕ) → 4 ≤ size → size * n ≤ length bytes
    → slice_index (entries_as f size n bytes) (size * n) ≡ slice_index bytes (size * n)
behind_entries f size zero bytes long fits = refl
behind_entries f size (suc n) bytes long fits =
    let within : size + size * n ≤ length bytes = omega arith in
    let all : size * suc n ≡ size + size * n = omega arith in
    let part : length (take size bytes) ≡ size = length-take-le size bytes (omega arith) in
    let word : length (word_as f (take size bytes)) ≡ size = length-word f (take size bytes) (omega arith) ∙ part in
    let behind = length-drop size bytes in
    let others = entries_as f size n (drop size bytes) in
    ap (slice_index (word_as f (take size bytes) ++ others)) (all ∙ ap (λ (m : ℕ). m + size * n) (sym word))
    ∙ get_or-append-add (word_as f (take size bytes)) others (size * n) 0
    ∙ behind_entries f size n (drop size bytes) long (omega arith)
    ∙ get_or-drop size bytes (size * n) 0
    ∙ ap (slice_index bytes) (sym all)

-- ---- bodies

chunks_stay : (way : Way) (n : Names) (count : ℕ) (body : List ℕ) → HasChunks count body
    → HasChunks count (new_body way n (record { count = count; kind = SDES; body = body; padding = [] }))
chunks_stay Heard n count body h = h
chunks_stay Told n count body h = h

sources_stay : (way : Way) (n : Names) (count : ℕ) (body : List ℕ) → HasSources count body
    → HasSources count (new_body way n (record { count = count; kind = BYE; body = body; padding = [] }))
sources_stay Told n count body h = h
sources_stay Heard n count body h =
    let new = entries_as (renamed (Exchange n.seat (leaves_as n))) 4 count body in
    let fits : 4 * count ≤ length body = h.0 in
    let same : length new ≡ length body = length-entries (renamed (Exchange n.seat (leaves_as n))) 4 count body (omega arith) fits in
    let reason = behind_entries (renamed (Exchange n.seat (leaves_as n))) 4 count body (omega arith) fits in (
      omega (arith, same, fits),
      elim h.1 [
        | inl ends ↦ inl (same ∙ ends)
        | inr more ↦ inr (omega (arith, same, reason, more))
      ],
    )

-- a body under other names is one of its packet
body_stays : (way : Way) (n : Names) (p : RtcpPacket) → IsPacket p → IsBody p.kind p.count (new_body way n p)
body_stays way n p h =
    let same = length-new way n p h in
    let D : ℕ → Type 0 = λ k. HasChunks p.count (new_body way n (record p { kind = k })) in
    let S : ℕ → Type 0 = λ k. HasSources p.count (new_body way n (record p { kind = k })) in
    record {
      reports = record {
        sender_report = λ is. let room = h.body.reports.sender_report is in omega (arith, same, room);
        receiver_report = λ is. let room = h.body.reports.receiver_report is in omega (arith, same, room);
      };
      description = λ is. subst D (sym is) (chunks_stay way n p.count p.body (h.body.description is));
      goodbye = λ is. subst S (sym is) (sources_stay way n p.count p.body (h.body.goodbye is));
    }

whole_with : (p : RtcpPacket) (body : List ℕ) → IsPacket p → length body ≡ length p.body → IsBody p.kind p.count body → IsPacket (record p { body = body })
whole_with p body h same is = record {
  count = h.count;
  words = ap (λ (m : ℕ). (m + length p.padding) % 4) same ∙ h.words;
  length_fits = let fits = h.length_fits in omega (arith, same, fits);
  padding = h.padding;
  padding_length = h.padding_length;
  body = is;
}

pub whole : (way : Way) (n : Names) (p : RtcpPacket) → IsPacket p → IsPacket (packet_as way n p)
whole Heard n p h = whole_with p (new_body Heard n p) h (length-new Heard n p h) (body_stays Heard n p h)
whole Told n p h = whole_with p (new_body Told n p) h (length-new Told n p h) (body_stays Told n p h)

-- ---- datagrams

-- a change of packets leaves them whole, and their padding as it is
record Keeps (f : RtcpPacket → RtcpPacket) : Type 0 where
  whole : (p : RtcpPacket) → IsPacket p → IsPacket (f p)
  padding : (p : RtcpPacket) → (f p).padding ≡ p.padding

heard_keeps : (n : Names) → Keeps (heard_packet n)
heard_keeps n = record { whole = λ p h. whole Heard n p h; padding = λ p. refl }

told_keeps : (n : Names) → Keeps (told_packet n)
told_keeps n = record { whole = λ p h. whole Told n p h; padding = λ p. refl }

joined_as : (f : RtcpPacket → RtcpPacket) → Keeps f → (ps : List RtcpPacket) → AreJoined ps → AreJoined (map f ps)
joined_as f k [] h = tt
joined_as f k (p ∷ []) h = k.whole p h
joined_as f k (p ∷ (q ∷ ps)) h = (k.whole p h.0, k.padding p ∙ h.1, joined_as f k (q ∷ ps) h.2)

some_as : (f : RtcpPacket → RtcpPacket) (ps : List RtcpPacket) → 0 < length ps → 0 < length (map f ps)
some_as f [] some = some
some_as f (p ∷ ps) some = omega arith

reads_as : (f : RtcpPacket → RtcpPacket) → Keeps f → (before after : List ℕ) (ps : List RtcpPacket) → AreRenamed f before after → ReadsRtcp before ps
    → ReadsRtcp after (map f ps)
reads_as f k before after ps is reads = record {
  some = some_as f ps reads.some;
  joined = joined_as f k ps reads.joined;
  bytes_are = is.joined ps reads;
}

pub told_reads : (n : Names) (before after : List ℕ) (ps : List RtcpPacket) → IsToldAs n before after → is_rtcp before ≡ true → ReadsRtcp before ps
    → ReadsRtcp after (map (told_packet n) ps)
told_reads n before after ps is rtcp reads = reads_as (told_packet n) (told_keeps n) before after ps (is.rtcp rtcp) reads

pub heard_reads : (n : Names) (before after : List ℕ) (ps : List RtcpPacket) → IsHeardAs n before after → is_rtcp before ≡ true → ReadsRtcp before ps
    → ReadsRtcp after (map (heard_packet n) ps)
heard_reads n before after ps is rtcp reads = reads_as (heard_packet n) (heard_keeps n) before after ps (is.rtcp rtcp) reads

pub heard_refuses : (n : Names) (before after : List ℕ) (fault : RtcpFault) → IsHeardAs n before after → is_rtcp before ≡ true → Refuses before fault
    → Refuses after fault
heard_refuses n before after fault is rtcp refuses =
    let P : List ℕ → Type 0 = λ d. Refuses d fault in
    subst P (sym ((is.rtcp rtcp).refused fault refuses)) refuses
