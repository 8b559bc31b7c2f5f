-- What is spelled is said.
use Rattle.std.proofs.Common.{◌≡◌, ◌∙◌, ℕ, zero, suc, ◌+◌, ◌/◌, ◌^◌, ◌<◌, ◌≤◌, Bool, true, false, List, [], ◌∷◌, ◌++◌, length, map, replicate, Option, None, Some, Ok, Err, refl, sym, ap, subst, arith, append-nil}
use Rattle.std.specs.Prelude.{◌==◌, cond, slice_index}
use Rattle.std.specs.List.{flat_map, All, last_or}
use Rattle.std.specs.Option.{option_to_list}
use Rattle.std.proofs.lemmas.List.{length-take}
use Rattle.std.proofs.lemmas.List.Elements.{All-nil, All-cons}
use Rattle.std.proofs.lemmas.Bool.{both_ways, eq-eqb, eqb-true}
use Rattle.std.proofs.lemmas.Bool.Decides.{nat_tests}
use Rattle.rtcp_compound.specs.Content.{Content, packet_content, sender_report, receiver_report, goodbye, feedback}
use Rattle.rtcp_compound.specs.Fault.{AreUnpadded}
use Rattle.rtcp_compound.specs.Grammar.{RtcpPacket, IsPacket, packet_bytes}
use Rattle.rtcp_compound.specs.Mux.{is_rtcp}
use Rattle.rtcp_compound.specs.Report.{IsReportBlock}
use Rattle.rtcp_compound.specs.Written.{Appends, bye_packet, plain_packet, rr_packet, sr_packet}
use Rattle.rtcp_compound.proofs.LawLemmas.{reads_alone}
use Rattle.rtcp_compound.proofs.WriterLemmas.{appended, bye_written, rr_written, sr_written}
use Rattle.rtcp_feedback.specs.Grammar.{IsEntry, IsNack, Message, pli}
use Rattle.rtcp_feedback.specs.Writing.{IsReadAs, pli_body}
use Rattle.rtcp_feedback.specs.declared.tmmb.TmmbrEntry.{TmmbrEntry}
use Rattle.rtcp_feedback.proofs.NackWriteLemmas.{nack_again}
use Rattle.rtcp_feedback.proofs.WriteLemmas.{tmmbn_again, tmmbr_again}
use Rattle.events.specs.declared.output.Refusal.{Refusal}
use Rattle.datagram.specs.declared.reading.Ask.{Ask}
use Rattle.datagram.specs.declared.reading.Ask.TheVariants.{Rate, Resend, Picture}
use Rattle.datagram.specs.declared.reading.Control.{Control}
use Rattle.datagram.specs.declared.reading.What.{What}
use Rattle.datagram.specs.declared.reading.What.TheVariants.{Media, Goodbye, Control as Controls, Refused}
use Rattle.datagram.specs.declared.reading.Reading.{Reading}
use Rattle.datagram.specs.Reads.{IsReadUpTo, IsSaidIn, ReadsBy, asks_of, first_asks, what_of}
use Rattle.datagram.specs.declared.reading.Media.{Media as Packet}
use Rattle.datagram.proofs.PacketLemmas.{media_said}
use Rattle.datagram.specs.Saying.{Gist, JoinsPackets, PacketSays, PacketsSay, Said, Says, control, empty_gist, gist_of, joint_gist, leaves, media, said_by, sent_by, speaker_of}
use Rattle.datagram.specs.Spelling.{IsAsHeard, IsAskInRange, IsHeardInRange, IsReportInRange, ask_packet, control_packets, notice_packet, speaking_packet, spelling}

-- ---- each packet

-- a whole packet without padding that says this
record SaysAlone (p : RtcpPacket) (g : Gist) : Type 0 where
  whole : IsPacket p
  no_padding : p.padding ≡ []
  says : PacketSays (packet_content p) (Ok g)

says_alone : (old new : List ℕ) (p : RtcpPacket) (c : Content) (g : Gist) → Appends old new p c → PacketSays c (Ok g) → SaysAlone p g
says_alone old new p c g a says = record {
  whole = a.whole;
  no_padding = a.no_padding;
  says = subst (λ (x : Content). PacketSays x (Ok g)) (sym a.says) says;
}

-- what a report says
abbrev reporting : ℕ → Option (ℕ × ℕ) → Gist
reporting speaker report =
    record (sent_by speaker) { clocks = map (λ _. speaker) (option_to_list report); reports = option_to_list report }

report_says : (speaker : ℕ) (report : Option (ℕ × ℕ)) → speaker < 2 ^ 32 → IsReportInRange report
    → SaysAlone (speaking_packet speaker report) (reporting speaker report)
report_says speaker None fits within =
    says_alone [] _ (rr_packet speaker []) (receiver_report speaker []) _
    (rr_written [] _ speaker 0 1 [] refl (omega arith) refl fits (All-nil IsReportBlock) refl) refl
report_says speaker (Some report) fits within =
    says_alone [] _ (sr_packet speaker report.0 report.1 0 0 []) (sender_report speaker report.0 report.1 0 0 []) _
    (sr_written [] _ speaker report.0 report.1 0 0 0 6 [] refl (omega arith) refl fits within.0 within.1 (omega arith) (omega arith) (All-nil IsReportBlock) refl) refl

bye_says : (own : ℕ) → own < 2 ^ 32 → SaysAlone (bye_packet (own ∷ [])) (record empty_gist { goodbyes = own ∷ [] })
bye_says own fits =
    says_alone [] _ (bye_packet (own ∷ [])) (goodbye (own ∷ [])) _
    (bye_written [] _ 1 1 (own ∷ []) refl (omega arith) refl (All-cons (λ s. s < 2 ^ 32) own [] fits (All-nil (λ s. s < 2 ^ 32))) refl) refl

shows_205 : (fmt : ℕ) (body : List ℕ) → packet_content (plain_packet fmt 205 body) ≡ feedback fmt 205 body
unfolding packet_content
shows_205 fmt body = refl

shows_206 : (fmt : ℕ) (body : List ℕ) → packet_content (plain_packet fmt 206 body) ≡ feedback fmt 206 body
unfolding packet_content
shows_206 fmt body = refl

feedback_says : (fmt kind : ℕ) (body : List ℕ) (m : Message) → 203 < kind → packet_content (plain_packet fmt kind body) ≡ feedback fmt kind body
    → IsReadAs fmt kind body m → SaysAlone (plain_packet fmt kind body) (gist_of m)
feedback_says fmt kind body m above shows is =
    let words = is.words in
    let fits = is.length_fits in
    says_alone [] _ (plain_packet fmt kind body) (feedback fmt kind body) (gist_of m)
    (appended [] _ fmt fmt kind (length body / 4) body (feedback fmt kind body) refl is.fmt_fits fits (omega arith)
    (record { reports = record { sender_report = λ k. absurd (omega arith); receiver_report = λ k. absurd (omega arith) }; description = λ k. absurd (omega arith); goodbye = λ k. absurd (omega arith) })
    shows refl)
    (m, is.reads, refl)

pli_is : (sender source : ℕ) → sender < 2 ^ 32 → source < 2 ^ 32 → IsReadAs 1 206 (pli_body sender source) (pli sender source)
pli_is sender source fits source_fits = record {
  fmt_fits = omega arith;
  kind_fits = omega arith;
  words = refl;
  length_fits = omega arith;
  reads = (refl, refl, ([], record { sender_fits = fits; media_fits = source_fits; bytes_are = refl }));
}

ask_says : (speaker : ℕ) (ask : Ask) → speaker < 2 ^ 32 → IsAskInRange ask → SaysAlone (ask_packet speaker ask) (record (sent_by speaker) { asks = ask ∷ [] })
ask_says speaker (Rate source word) fits within =
    let entry : TmmbrEntry = record { ssrc = source; word = word } in
    feedback_says 3 205 _ _ (omega arith) (shows_205 3 _) (tmmbr_again speaker (entry ∷ []) fits (All-cons IsEntry entry [] within (All-nil IsEntry)) (omega arith))
ask_says speaker (Resend source n) fits within =
    feedback_says 1 205 _ _ (omega arith) (shows_205 1 _) (nack_again speaker source.0 (n ∷ []) fits within.0 (All-cons IsNack n [] within.1 (All-nil IsNack)) (omega arith))
ask_says speaker (Picture source) fits within = feedback_says 1 206 _ _ (omega arith) (shows_206 1 _) (pli_is speaker source.0 fits within)

notice_says : (speaker : ℕ) → speaker < 2 ^ 32 → SaysAlone (notice_packet speaker) (record (sent_by speaker) { tmmbns = 1 })
notice_says speaker fits = feedback_says 4 205 _ _ (omega arith) (shows_205 4 _) (tmmbn_again speaker [] fits (All-nil IsEntry) (omega arith))

-- ---- packets together

-- such packets, which say this together
abbrev SayTogether : List RtcpPacket → Gist → Type 0
SayTogether [] g = g ≡ empty_gist
SayTogether (p ∷ ps) g = (first : Gist) × (others : Gist) × SaysAlone p first × SayTogether ps others × (g ≡ joint_gist first others)

unpadded : (ps : List RtcpPacket) (g : Gist) → SayTogether ps g → AreUnpadded ps
unpadded [] g say = tt
unpadded (p ∷ ps) g (first, others, one, rest, is) = (one.whole, one.no_padding, unpadded ps others rest)

say_so : (ps : List RtcpPacket) (g : Gist) → SayTogether ps g → PacketsSay (map packet_content ps) (Ok g)
say_so [] g say = ap Ok say
say_so (p ∷ ps) g (first, others, one, rest, is) = (first, others, one.says, say_so ps others rest, is)

-- their bytes are a datagram that says this
joins : (p : RtcpPacket) (ps : List RtcpPacket) (g : Gist) → SayTogether (p ∷ ps) g → JoinsPackets (flat_map packet_bytes (p ∷ ps)) (Ok g)
joins p ps g say = record {
  packets = p ∷ ps;
  joins = reads_alone (p ∷ ps) (unpadded (p ∷ ps) g say) (omega arith);
  say = say_so (p ∷ ps) g say;
}

-- what asks say
abbrev asking : ℕ → List Ask → Gist
asking speaker asks = record { senders = replicate (length asks) speaker; clocks = []; goodbyes = []; reports = []; tmmbns = 0; asks = asks }

asks_say : (speaker : ℕ) (asks : List Ask) → speaker < 2 ^ 32 → All IsAskInRange asks → SayTogether (map (ask_packet speaker) asks) (asking speaker asks)
asks_say speaker [] fits within = refl
asks_say speaker (a ∷ asks) fits within = (
  record (sent_by speaker) { asks = a ∷ [] },
  asking speaker asks,
  ask_says speaker a fits (within 0 a (omega arith)),
  asks_say speaker asks fits (λ k d lt. within (suc k) d (omega arith)),
  refl,
)

-- what so many TMMBNs say before that
abbrev noticing : ℕ → ℕ → Gist → Gist
noticing speaker n g = record { senders = replicate n speaker ++ g.senders; clocks = g.clocks; goodbyes = g.goodbyes; reports = g.reports; tmmbns = n + g.tmmbns; asks = g.asks }

notices_say : (speaker n : ℕ) (rest : List RtcpPacket) (g : Gist) → speaker < 2 ^ 32 → SayTogether rest g
    → SayTogether (replicate n (notice_packet speaker) ++ rest) (noticing speaker n g)
notices_say speaker zero rest g fits say =
    let none : g.tmmbns ≡ 0 + g.tmmbns = omega arith in
    subst (λ (n : ℕ). SayTogether rest (record g { tmmbns = n })) none say
notices_say speaker (suc n) rest g fits say = (
  record (sent_by speaker) { tmmbns = 1 },
  noticing speaker n g,
  notice_says speaker fits,
  notices_say speaker n rest g fits say,
  let more : suc n + g.tmmbns ≡ 1 + (n + g.tmmbns) = omega arith in ap (λ (m : ℕ). record (noticing speaker (suc n) g) { tmmbns = m }) more,
)

-- what all packets of a value say
abbrev gist_spelled : ℕ → Option (ℕ × ℕ) → ℕ → List Ask → Gist
gist_spelled speaker report n asks = joint_gist (reporting speaker report) (noticing speaker n (asking speaker asks))

-- ---- who speaks

-- each is this
abbrev AreJust : ℕ → List ℕ → Type 0
AreJust s [] = Unit {0}
AreJust s (x ∷ xs) = (x ≡ s) × AreJust s xs

just_both : (s : ℕ) (xs ys : List ℕ) → AreJust s xs → AreJust s ys → AreJust s (xs ++ ys)
just_both s [] ys hx hy = hy
just_both s (x ∷ xs) ys hx hy = (hx.0, just_both s xs ys hx.1 hy)

just_so_many : (s n : ℕ) → AreJust s (replicate n s)
just_so_many s zero = tt
just_so_many s (suc n) = (refl, just_so_many s n)

-- nobody but the endpoint's own source speaks
own_speaks : (own : ℕ) (xs : List ℕ) → AreJust own xs → speaker_of own xs ≡ own
own_speaks own [] just = refl
own_speaks own (x ∷ xs) just =
    let same : (x == own) ≡ true = eq-eqb x own just.0 in
    let rest = own_speaks own xs just.1 in
    rw same rest

one_speaks : (own s : ℕ) (xs : List ℕ) → AreJust s xs → speaker_of own (s ∷ xs) ≡ s
one_speaks own s xs just = cases (s == own) refl
  where
    cases : (b : Bool) → (s == own) ≡ b → speaker_of own (s ∷ xs) ≡ s
    cases true e =
        let is : s ≡ own = eqb-true s own e in
        let none : AreJust own xs = subst (λ (x : ℕ). AreJust x xs) is just in
        rw e (own_speaks own xs none ∙ sym is)
    cases false e = rw e refl

-- ---- values

shows_rtcp : (datagram : List ℕ) → 1 < length datagram → 192 ≤ slice_index datagram 1 → slice_index datagram 1 ≤ 223 → is_rtcp datagram ≡ true
shows_rtcp datagram long low high = grind (arith, nat_tests, long, low, high)

shows_packets : (p : RtcpPacket) (ps : List RtcpPacket) → 192 ≤ p.kind → p.kind ≤ 223 → is_rtcp (flat_map packet_bytes (p ∷ ps)) ≡ true
shows_packets p ps low high = shows_rtcp (flat_map packet_bytes (p ∷ ps)) (omega arith) low high

report_kind : (speaker : ℕ) (report : Option (ℕ × ℕ)) → (192 ≤ (speaking_packet speaker report).kind) × ((speaking_packet speaker report).kind ≤ 223)
unfolding rr_packet sr_packet
report_kind speaker None = (omega arith, omega arith)
report_kind speaker (Some report) = (omega arith, omega arith)

bye_shows : (own : ℕ) → is_rtcp (packet_bytes (bye_packet (own ∷ []))) ≡ true
unfolding bye_packet
bye_shows own = shows_rtcp (packet_bytes (bye_packet (own ∷ []))) (omega arith) (omega arith) (omega arith)

last_report : (report : Option (ℕ × ℕ)) → last_or None (option_to_list report ++ []) ≡ report
last_report None = refl
last_report (Some report) = refl

control_spelled : (own : ℕ) (c : Control) (asks : List Ask) (came : List ℕ) → IsHeardInRange own (Controls c) → All IsAskInRange asks
    → ReadsBy (Says own (spelling own (Controls c) asks came)) asks (Controls c)
unfolding spelling
control_spelled own c asks came (fits, report) each =
    let speaker = c.speaker.0 in
    let gist = gist_spelled speaker c.report c.tmmbns asks in
    let behind = replicate c.tmmbns (notice_packet speaker) ++ map (ask_packet speaker) asks in
    let says : SayTogether (control_packets c asks) gist = (
      reporting speaker c.report,
      noticing speaker c.tmmbns (asking speaker asks),
      report_says speaker c.report fits report,
      notices_say speaker c.tmmbns _ _ fits (asks_say speaker asks fits each),
      refl,
    ) in
    let kind = report_kind speaker c.report in
    let rtcp : is_rtcp (flat_map packet_bytes (control_packets c asks)) ≡ true = shows_packets (speaking_packet speaker c.report) behind kind.0 kind.1 in
    let speaks : speaker_of own gist.senders ≡ speaker =
    one_speaks own speaker _ (just_both speaker (replicate c.tmmbns speaker) (replicate (length asks) speaker) (just_so_many speaker c.tmmbns) (just_so_many speaker (length asks))) in
    let count : gist.tmmbns ≡ c.tmmbns = omega arith in (
      said_by own gist,
      (λ _. (gist, joins (speaking_packet speaker c.report) behind gist says, refl), λ not. absurd (both_ways _ not rtcp)),
      (λ i. Controls (record { speaker = record { 0 = sym speaks i }; report = sym (last_report c.report) i; tmmbns = sym count i })),
      refl,
    )

goodbye_spelled : (own : ℕ) (came : List ℕ) → own < 2 ^ 32 → ReadsBy (Says own (spelling own Goodbye [] came)) [] Goodbye
unfolding spelling
goodbye_spelled own came fits =
    let gist : Gist = record empty_gist { goodbyes = own ∷ [] } in
    let one = bye_says own fits in
    let joined : JoinsPackets (flat_map packet_bytes (bye_packet (own ∷ []) ∷ [])) (Ok gist) = joins (bye_packet (own ∷ [])) [] gist (gist, empty_gist, one, refl, refl) in
    let same : (own == own) ≡ true = eq-eqb own own refl in
    let leaves_it : ◌≡◌ {A = Said} leaves (said_by own gist) = rw same refl in (
      leaves,
      (λ _. (gist, subst (λ (y : List ℕ). JoinsPackets y (Ok gist)) (append-nil (packet_bytes (bye_packet (own ∷ [])))) joined, leaves_it), λ not. absurd (both_ways _ not (bye_shows own))),
      refl,
      refl,
    )

no_media : (b : Bool) (speaker n source number timestamp octets : ℕ) (reports : List (ℕ × ℕ)) (asks : List Ask)
    → ◌≡◌ {A = Said} (media source number timestamp octets) (cond b leaves (control speaker reports n asks)) → ⊥
no_media true speaker n source number timestamp octets reports asks e = cc
no_media false speaker n source number timestamp octets reports asks e = cc

packet_spelled : (own : ℕ) (m : Packet) (came : List ℕ)
    → Says own came (Ok (media m.ssrc.0 m.parts.sequence_number m.timestamp m.parts.octets))
    → ReadsBy (Says own (spelling own (Media m) [] came)) [] (Media m)
unfolding spelling
packet_spelled own m came says = (
  media m.ssrc.0 m.parts.sequence_number m.timestamp m.parts.octets,
  (λ is. let (g, joined, e) = says.0 is in absurd (no_media _ _ _ _ _ _ _ _ _ e), says.1),
  refl,
  refl,
)

refused_spelled : (own : ℕ) (refusal : Refusal) (asks : List Ask) (came : List ℕ) → asks ≡ [] → Says own came (Err refusal)
    → ReadsBy (Says own (spelling own (Refused refusal) asks came)) asks (Refused refusal)
unfolding spelling
refused_spelled own refusal asks came none says = (says, none)

pub spelling_said : (own : ℕ) (what : What) (asks : List Ask) (came : List ℕ) → IsAsHeard own what asks came → IsHeardInRange own what → All IsAskInRange asks
    → ReadsBy (Says own (spelling own what asks came)) asks what
spelling_said own (Media m) asks came (none, says) within each =
    subst (λ (a : List Ask). ReadsBy (Says own (spelling own (Media m) a came)) a (Media m)) (sym none) (packet_spelled own m came says)
spelling_said own Goodbye asks came none within each =
    subst (λ (a : List Ask). ReadsBy (Says own (spelling own Goodbye a came)) a Goodbye) (sym none) (goodbye_spelled own came within)
spelling_said own (Controls c) asks came as_heard within each = control_spelled own c asks came within each
spelling_said own (Refused refusal) asks came (none, says) within each = refused_spelled own refusal asks came none says

-- ---- what is read may be spelled

no_asks : (said : Said) → Goodbye ≡ what_of said → asks_of said ≡ []
no_asks (media s q p n) e = refl
no_asks leaves e = refl
no_asks (control speaker reports tmmbns asks) e = absurd (cc)

pub as_heard : (own : ℕ) (what : What) (asks : List Ask) (came : List ℕ) → IsSaidIn own came (record { what = what; asks = asks })
    → IsAsHeard own what asks came
as_heard own (Media m) asks came (said, says, is, more) =
    let e = media_said m said is in
    (more ∙ ap asks_of e, subst (λ (x : Said). Says own came (Ok x)) e says)
as_heard own Goodbye asks came (said, says, is, more) = more ∙ no_asks said is
as_heard own (Controls c) asks came reads = tt
as_heard own (Refused refusal) asks came (says, none) = (none, says)

fewer_none : (asks fewer : List Ask) → length fewer ≤ length asks → asks ≡ [] → fewer ≡ []
fewer_none asks [] less none = refl
fewer_none asks (a ∷ fewer) less none = let count : length asks ≡ 0 = ap length none in absurd (omega arith)

pub fewer_heard : (own : ℕ) (what : What) (asks fewer : List Ask) (came : List ℕ) → IsAsHeard own what asks came
    → length fewer ≤ length asks → IsAsHeard own what fewer came
fewer_heard own (Media m) asks fewer came (none, says) less = (fewer_none asks fewer less none, says)
fewer_heard own Goodbye asks fewer came none less = fewer_none asks fewer less none
fewer_heard own (Controls c) asks fewer came h less = tt
fewer_heard own (Refused refusal) asks fewer came (none, says) less = (fewer_none asks fewer less none, says)

-- also what was read up to so many asks
pub read_up_to : (own : ℕ) (came : List ℕ) (most : Option ℕ) (r : Reading) → IsReadUpTo own came most r → IsAsHeard own r.what r.asks.items came
read_up_to own came most r read =
    subst (λ (asks : List Ask). IsAsHeard own r.what asks came) (sym read.listed)
    (fewer_heard own r.what read.asks (first_asks most read.asks) came (as_heard own r.what read.asks came read.says) (no_more most read.asks))
  where
    no_more : (most : Option ℕ) (asks : List Ask) → length (first_asks most asks) ≤ length asks
    no_more None asks = omega arith
    no_more (Some most) asks = let kept = length-take most asks in omega arith
