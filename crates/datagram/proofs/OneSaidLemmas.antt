-- A datagram says one thing.
use Rattle.std.proofs.Common.{◌≡◌, ◌∙◌, ℕ, inl, inr, List, [], ◌∷◌, length, map, Result, Ok, Err, refl, sym, ap, ap₂, subst, arith}
use Rattle.std.proofs.lemmas.Bool.{cases_Bool}
use Rattle.rtp_packet.specs.Grammar.{RtpPacket}
use Rattle.rtp_packet.proofs.PacketLemmas.{exact_fault, no_fault, one_packet}
use Rattle.rtcp_compound.specs.Content.{Content, packet_content, sender_report, receiver_report, description, goodbye, feedback, other}
use Rattle.rtcp_compound.specs.Grammar.{RtcpPacket}
use Rattle.rtcp_compound.specs.Mux.{is_rtcp}
use Rattle.rtcp_compound.proofs.DatagramLemmas.{reads_only, refuses_none, refuses_one}
use Rattle.rtcp_feedback.specs.declared.fault.FbFault.{FbFault}
use Rattle.rtcp_feedback.specs.declared.fault.FbFault.TheVariants.{Short, OddFci}
use Rattle.rtcp_feedback.specs.Fault.{HasOddFci}
use Rattle.rtcp_feedback.specs.Grammar.{Message, ReadsFeedback, nack, pli, tmmbr, tmmbn, unknown}
use Rattle.rtcp_feedback.proofs.EntryLemmas.{length-entries, length-nacks}
use Rattle.rtcp_feedback.proofs.MessageLemmas.{again, reads_long}
use Rattle.events.specs.declared.output.Refusal.{Refusal}
use Rattle.events.specs.declared.output.Refusal.TheVariants.{Rtp, Rtcp, Feedback, Room, Desk}
use Rattle.datagram.specs.Saying.{FeedbackSays, Gist, JoinsPackets, PacketSays, PacketsSay, Said, Says, SaysRtcp, SaysRtp, gist_of, joint_gist, media, said_by}

same_ok : {A E : Type 0} (x y : A) → ◌≡◌ {A = Result A E} (Ok x) (Ok y) → x ≡ y
same_ok x y e = cc

same_err : {A E : Type 0} (x y : E) → ◌≡◌ {A = Result A E} (Err x) (Err y) → x ≡ y
same_err x y e = cc

apart : {A E : Type 0} (x : A) (y : E) → ◌≡◌ {A = Result A E} (Ok x) (Err y) → ⊥
apart x y e = cc

-- ---- packets

-- what is read ends where an entry ends
not_odd : (fmt kind : ℕ) (body : List ℕ) (m : Message) → ReadsFeedback fmt kind body m → HasOddFci fmt kind body → ⊥
not_odd fmt kind body (nack s m es) (k, f, fit, b) (long, k', inl (f', odd)) =
    let size = ap length b.bytes_are in let entries = length-nacks es in odd (omega arith)
not_odd fmt kind body (nack s m es) (k, f, fit, b) (long, k', inr (inl f', odd)) = omega arith
not_odd fmt kind body (nack s m es) (k, f, fit, b) (long, k', inr (inr f', odd)) = omega arith
not_odd fmt kind body (pli s m) (k, f, b) (long, k', odd) = omega arith
not_odd fmt kind body (tmmbr s es) (k, f, fit, (m, b)) (long, k', inl (f', odd)) = omega arith
not_odd fmt kind body (tmmbr s es) (k, f, fit, (m, b)) (long, k', inr (f', odd)) =
    let size = ap length b.bytes_are in let entries = length-entries es in odd (omega arith)
not_odd fmt kind body (tmmbn s es) (k, f, fit, (m, b)) (long, k', inl (f', odd)) = omega arith
not_odd fmt kind body (tmmbn s es) (k, f, fit, (m, b)) (long, k', inr (f', odd)) =
    let size = ap length b.bytes_are in let entries = length-entries es in odd (omega arith)
not_odd fmt kind body (unknown s) (unlike, b) (long, k, inl (f, odd)) = unlike (inl (k, inl f))
not_odd fmt kind body (unknown s) (unlike, b) (long, k, inr (inl f, odd)) = unlike (inl (k, inr (inl f)))
not_odd fmt kind body (unknown s) (unlike, b) (long, k, inr (inr f, odd)) = unlike (inl (k, inr (inr f)))

feedback_one : (fmt kind : ℕ) (body : List ℕ) (a b : Result Gist FbFault) → FeedbackSays fmt kind body a → FeedbackSays fmt kind body b → a ≡ b
feedback_one fmt kind body (Ok g) (Ok h) (m, reads, is) (n, reads', is') =
    let same : m ≡ n = same_ok {E = FbFault} m n (sym (again fmt kind body m reads) ∙ again fmt kind body n reads') in
    ap Ok (is ∙ ap gist_of same ∙ sym is')
feedback_one fmt kind body (Ok g) (Err Short) (m, reads, is) short = let long = reads_long fmt kind body m reads in absurd (omega arith)
feedback_one fmt kind body (Ok g) (Err OddFci) (m, reads, is) odd = absurd (not_odd fmt kind body m reads odd)
feedback_one fmt kind body (Err Short) (Ok g) short (m, reads, is) = let long = reads_long fmt kind body m reads in absurd (omega arith)
feedback_one fmt kind body (Err Short) (Err Short) short short' = refl
feedback_one fmt kind body (Err Short) (Err OddFci) short odd = let long = odd.0 in absurd (omega arith)
feedback_one fmt kind body (Err OddFci) (Ok g) odd (m, reads, is) = absurd (not_odd fmt kind body m reads odd)
feedback_one fmt kind body (Err OddFci) (Err Short) odd short = let long = odd.0 in absurd (omega arith)
feedback_one fmt kind body (Err OddFci) (Err OddFci) odd odd' = refl

packet_one : (c : Content) (a b : Result Gist FbFault) → PacketSays c a → PacketSays c b → a ≡ b
packet_one (sender_report sender ntp rtp packets octets blocks) a b x y = x ∙ sym y
packet_one (receiver_report sender blocks) a b x y = x ∙ sym y
packet_one (description count chunks) a b x y = x ∙ sym y
packet_one (goodbye sources) a b x y = x ∙ sym y
packet_one (feedback fmt kind body) a b x y = feedback_one fmt kind body a b x y
packet_one (other count kind body) a b x y = x ∙ sym y

packets_one : (cs : List Content) (a b : Result Gist FbFault) → PacketsSay cs a → PacketsSay cs b → a ≡ b
packets_one [] a b x y = x ∙ sym y
packets_one (c ∷ cs) (Ok g) (Ok h) (f, o, one, rest, is) (f', o', one', rest', is') =
    let first : f ≡ f' = same_ok {E = FbFault} f f' (packet_one c (Ok f) (Ok f') one one') in
    let others : o ≡ o' = same_ok {E = FbFault} o o' (packets_one cs (Ok o) (Ok o') rest rest') in
    ap Ok (is ∙ ap₂ joint_gist first others ∙ sym is')
packets_one (c ∷ cs) (Ok g) (Err e) (f, o, one, rest, is) (inl fault) = absurd (apart f e (packet_one c (Ok f) (Err e) one fault))
packets_one (c ∷ cs) (Ok g) (Err e) (f, o, one, rest, is) (inr (f', one', fault)) = absurd (apart o e (packets_one cs (Ok o) (Err e) rest fault))
packets_one (c ∷ cs) (Err e) (Ok g) (inl fault) (f, o, one, rest, is) = absurd (apart f e (packet_one c (Ok f) (Err e) one fault))
packets_one (c ∷ cs) (Err e) (Ok g) (inr (f', one', fault)) (f, o, one, rest, is) = absurd (apart o e (packets_one cs (Ok o) (Err e) rest fault))
packets_one (c ∷ cs) (Err e) (Err e') (inl fault) (inl fault') = packet_one c (Err e) (Err e') fault fault'
packets_one (c ∷ cs) (Err e) (Err e') (inl fault) (inr (f, one, fault')) = absurd (apart f e (packet_one c (Ok f) (Err e) one fault))
packets_one (c ∷ cs) (Err e) (Err e') (inr (f, one, fault)) (inl fault') = absurd (apart f e' (packet_one c (Ok f) (Err e') one fault'))
packets_one (c ∷ cs) (Err e) (Err e') (inr (f, one, fault)) (inr (f', one', fault')) = packets_one cs (Err e) (Err e') fault fault'

-- ---- datagrams

joins_one : (datagram : List ℕ) (a b : Result Gist FbFault) → JoinsPackets datagram a → JoinsPackets datagram b → a ≡ b
joins_one datagram a b x y =
    let same : x.packets ≡ y.packets = sym (reads_only datagram x.packets x.joins) ∙ reads_only datagram y.packets y.joins in
    let P : List RtcpPacket → Type 0 = λ ps. PacketsSay (map packet_content ps) a in
    packets_one (map packet_content y.packets) a b (subst P same x.say) y.say

rtcp_one : (own : ℕ) (datagram : List ℕ) (a b : Result Said Refusal) → SaysRtcp own datagram a → SaysRtcp own datagram b → a ≡ b
rtcp_one own datagram (Ok s) (Ok t) (g, joins, is) (h, joins', is') =
    let same : g ≡ h = same_ok {E = FbFault} g h (joins_one datagram (Ok g) (Ok h) joins joins') in
    ap Ok (is ∙ ap (said_by own) same ∙ sym is')
rtcp_one own datagram (Ok s) (Err (Rtp e)) x y = absurd y
rtcp_one own datagram (Ok s) (Err (Rtcp e)) (g, joins, is) y = absurd (refuses_none datagram joins.packets e y joins.joins)
rtcp_one own datagram (Ok s) (Err (Feedback e)) (g, joins, is) y = absurd (apart g e (joins_one datagram (Ok g) (Err e) joins y))
rtcp_one own datagram (Ok s) (Err (Room e)) x y = absurd y
rtcp_one own datagram (Ok s) (Err (Desk e)) x y = absurd y
rtcp_one own datagram (Err (Rtp e)) b x y = absurd x
rtcp_one own datagram (Err (Room e)) b x y = absurd x
rtcp_one own datagram (Err (Desk e)) b x y = absurd x
rtcp_one own datagram (Err (Rtcp e)) (Ok s) x (g, joins, is) = absurd (refuses_none datagram joins.packets e x joins.joins)
rtcp_one own datagram (Err (Rtcp e)) (Err (Rtp f)) x y = absurd y
rtcp_one own datagram (Err (Rtcp e)) (Err (Rtcp f)) x y = ap (λ z. Err (Rtcp z)) (refuses_one datagram e f x y)
rtcp_one own datagram (Err (Rtcp e)) (Err (Feedback f)) x y = absurd (refuses_none datagram y.packets e x y.joins)
rtcp_one own datagram (Err (Rtcp e)) (Err (Room f)) x y = absurd y
rtcp_one own datagram (Err (Rtcp e)) (Err (Desk f)) x y = absurd y
rtcp_one own datagram (Err (Feedback e)) (Ok s) x (g, joins, is) = absurd (apart g e (joins_one datagram (Ok g) (Err e) joins x))
rtcp_one own datagram (Err (Feedback e)) (Err (Rtp f)) x y = absurd y
rtcp_one own datagram (Err (Feedback e)) (Err (Rtcp f)) x y = absurd (refuses_none datagram x.packets f y x.joins)
rtcp_one own datagram (Err (Feedback e)) (Err (Feedback f)) x y =
    ap (λ z. Err (Feedback z)) (same_err {A = Gist} e f (joins_one datagram (Err e) (Err f) x y))
rtcp_one own datagram (Err (Feedback e)) (Err (Room f)) x y = absurd y
rtcp_one own datagram (Err (Feedback e)) (Err (Desk f)) x y = absurd y

rtp_one : (datagram : List ℕ) (a b : Result Said Refusal) → SaysRtp datagram a → SaysRtp datagram b → a ≡ b
rtp_one datagram (Ok s) (Ok t) (p, reads, is) (q, reads', is') =
    ap Ok (is ∙ ap (λ (x : RtpPacket). media x.ssrc x.sequence_number x.timestamp (length x.payload)) (one_packet datagram p q reads reads') ∙ sym is')
rtp_one datagram (Ok s) (Err (Rtp e)) (p, reads, is) y = absurd (no_fault datagram p e reads y)
rtp_one datagram (Ok s) (Err (Rtcp e)) x y = absurd y
rtp_one datagram (Ok s) (Err (Feedback e)) x y = absurd y
rtp_one datagram (Ok s) (Err (Room e)) x y = absurd y
rtp_one datagram (Ok s) (Err (Desk e)) x y = absurd y
rtp_one datagram (Err (Rtp e)) (Ok s) x (p, reads, is) = absurd (no_fault datagram p e reads x)
rtp_one datagram (Err (Rtp e)) (Err (Rtp f)) x y =
    ap (λ z. Err (Rtp z)) (same_err {A = Said} e f (exact_fault {T = Said} datagram (Err e) e refl x f y))
rtp_one datagram (Err (Rtp e)) (Err (Rtcp f)) x y = absurd y
rtp_one datagram (Err (Rtp e)) (Err (Feedback f)) x y = absurd y
rtp_one datagram (Err (Rtp e)) (Err (Room f)) x y = absurd y
rtp_one datagram (Err (Rtp e)) (Err (Desk f)) x y = absurd y
rtp_one datagram (Err (Rtcp e)) b x y = absurd x
rtp_one datagram (Err (Feedback e)) b x y = absurd x
rtp_one datagram (Err (Room e)) b x y = absurd x
rtp_one datagram (Err (Desk e)) b x y = absurd x

-- ---- any datagram

pub says_one : (own : ℕ) (datagram : List ℕ) (a b : Result Said Refusal) → Says own datagram a → Says own datagram b → a ≡ b
says_one own datagram a b x y =
    elim (cases_Bool (is_rtcp datagram)) [
      | inl is ↦ rtcp_one own datagram a b (x.0 is) (y.0 is)
      | inr unlike ↦ rtp_one datagram a b (x.1 unlike) (y.1 unlike)
    ]
