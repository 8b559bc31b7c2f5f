-- What a client says under its own names is said so under its seat's.
use Rattle.std.proofs.Common.{◌≡◌, ◌∙◌, ◌⊎◌, inl, inr, ℕ, zero, suc, ◌+◌, ◌*◌, ◌/◌, ◌%◌, ◌^◌, ◌<◌, ◌≤◌, ◌||◌, Bool, Some, nat_lt, true, false, not, List, [], ◌∷◌, ◌++◌, length, map, take, drop, slice_index, cond, Result, Ok, refl, sym, ap, ap₂, subst, arith, append_assoc}
use Rattle.std.specs.Prelude.{◌==◌, min, unwrap_or, if◌then◌else◌}
use Rattle.std.specs.List.{filter, find, flat_map, list_any}
use Rattle.std.proofs.lemmas.Bool.{cond-true, cond-false, cases_Bool, cases_lt, eq-eqb, eqb-true, false≢true}
use Rattle.std.proofs.lemmas.List.{drop-drop, drop-take, drop_all, get_or-append-add, get_or-drop, get_or_append_left, get_or_past, length-drop, length-take-le, map-append}
use Rattle.std.proofs.lemmas.List.Elements.{filter-append}
use Rattle.byteorder.specs.Endian.{big_bytes, big_number}
use Rattle.byteorder.specs.Numbers.{big_from-take, big_number-reads_back, big_from-lt}
use Rattle.rtcp_compound.specs.Content.{Content, packet_content, sources_in, other}
use Rattle.rtcp_compound.specs.Grammar.{AreJoined, IsPacket, RtcpPacket, packet_bytes}
use Rattle.rtcp_compound.specs.Mux.{is_rtcp}
use Rattle.rtcp_compound.proofs.EntryLemmas.{sources_more, sources_none}
use Rattle.rtcp_feedback.specs.declared.fault.FbFault.{FbFault}
use Rattle.rtcp_feedback.specs.Grammar.{IsBody as IsFeedbackBody, Message, ReadsFeedback, nack, pli, tmmbr, tmmbn, unknown}
use Rattle.rtcp_feedback.proofs.MessageLemmas.{reads_long}
use Rattle.tmmbr_tuple.specs.declared.ssrc.Ssrc.{Ssrc}
use Rattle.datagram.specs.declared.reading.Ask.{Ask}
use Rattle.datagram.specs.Saying.{FeedbackSays, Gist, JoinsPackets, PacketSays, PacketsSay, clocked_by, control, empty_gist, gist_of, joint_gist, leaves, said_by, sent_by, speaker_of}
use Rattle.seats.specs.Exchange.{IsHeardAs}
use Rattle.seats.specs.Names.{exchanged, leaves_as, renamed, sends_as}
use Rattle.seats.specs.Places.{body_as, entries_as, heard_packet, places_at, word_as}
use Rattle.seats.specs.Reread.{AreFit, AreOctets, IsHeardOf, heard_said}
use Rattle.seats.specs.declared.names.Names.{Names}
use Rattle.seats.specs.declared.names.Renaming.{Renaming}
use Rattle.seats.specs.declared.names.Renaming.TheVariants.{Exchange, Put}
use Rattle.seats.specs.declared.places.Places.{Places}
use Rattle.seats.proofs.NameLemmas.{to_one}
use Rattle.seats.proofs.WholeLemmas.{heard_reads}

-- ---- names

eq_sym_by : (a b : ℕ) (x y : Bool) → (a == b) ≡ x → (b == a) ≡ y → x ≡ y
eq_sym_by a b true y p q = sym (sym q ∙ eq-eqb b a (sym (eqb-true a b p)))
eq_sym_by a b false true p q = absurd (false≢true (sym p ∙ eq-eqb a b (sym (eqb-true b a q))))
eq_sym_by a b false false p q = refl

eq_sym : (a b : ℕ) → (a == b) ≡ (b == a)
eq_sym a b = eq_sym_by a b (a == b) (b == a) refl refl

-- what becomes of a name is the one just if it was the another
same_by : (one another s : ℕ) (a b : Bool) → (s == one) ≡ a → (s == another) ≡ b → (exchanged one another s == one) ≡ (s == another)
same_by one another s true b is_one is_other =
    let becomes : exchanged one another s ≡ another = cond-true (s == one) _ _ is_one in
    ap (λ (x : ℕ). x == one) becomes ∙ eq_sym another one ∙ ap (λ (x : ℕ). x == another) (sym (eqb-true s one is_one))
same_by one another s false true apart is_other =
    let becomes : exchanged one another s ≡ one = cond-false (s == one) _ _ apart ∙ cond-true (s == another) _ _ is_other in
    ap (λ (x : ℕ). x == one) becomes ∙ eq-eqb one one refl ∙ sym is_other
same_by one another s false false apart unlike =
    let becomes : exchanged one another s ≡ s = cond-false (s == one) _ _ apart ∙ cond-false (s == another) _ _ unlike in
    ap (λ (x : ℕ). x == one) becomes ∙ apart ∙ sym unlike

same_test : (one another s : ℕ) → (exchanged one another s == one) ≡ (s == another)
same_test one another s = same_by one another s (s == one) (s == another) refl refl

fits_by : (one another s : ℕ) (a b : Bool) → (s == one) ≡ a → (s == another) ≡ b → one < 2 ^ 32 → another < 2 ^ 32 → s < 2 ^ 32 → exchanged one another s < 2 ^ 32
fits_by one another s true b is_one is_other fits_one fits_other fits =
    subst (λ (x : ℕ). x < 2 ^ 32) (sym (cond-true (s == one) _ _ is_one)) fits_other
fits_by one another s false true apart is_other fits_one fits_other fits =
    subst (λ (x : ℕ). x < 2 ^ 32) (sym (cond-false (s == one) _ _ apart ∙ cond-true (s == another) _ _ is_other)) fits_one
fits_by one another s false false apart unlike fits_one fits_other fits =
    subst (λ (x : ℕ). x < 2 ^ 32) (sym (cond-false (s == one) _ _ apart ∙ cond-false (s == another) _ _ unlike)) fits

fits_as : (one another s : ℕ) → one < 2 ^ 32 → another < 2 ^ 32 → s < 2 ^ 32 → exchanged one another s < 2 ^ 32
fits_as one another s = fits_by one another s (s == one) (s == another) refl refl

-- ---- those who aren't the endpoint's own

abbrev others : ℕ → List ℕ → List ℕ
others own senders = filter (λ s. not (s == own)) senders

abbrev first_or : ℕ → List ℕ → ℕ
first_or own [] = own
first_or own (s ∷ senders) = s

found_by : (own s : ℕ) (senders : List ℕ) (b : Bool) → (s == own) ≡ b → speaker_of own senders ≡ first_or own (others own senders)
    → speaker_of own (s ∷ senders) ≡ first_or own (others own (s ∷ senders))
found_by own s senders true is rest =
    ap (λ (b : Bool). unwrap_or (cond (not b) (Some s) (find (λ x. not (x == own)) senders)) own) is ∙ rest
    ∙ sym (ap (λ (b : Bool). first_or own (cond (not b) (s ∷ others own senders) (others own senders))) is)
found_by own s senders false unlike rest =
    ap (λ (b : Bool). unwrap_or (cond (not b) (Some s) (find (λ x. not (x == own)) senders)) own) unlike
    ∙ sym (ap (λ (b : Bool). first_or own (cond (not b) (s ∷ others own senders) (others own senders))) unlike)

speaker_is : (own : ℕ) (senders : List ℕ) → speaker_of own senders ≡ first_or own (others own senders)
speaker_is own [] = refl
speaker_is own (s ∷ senders) = found_by own s senders (s == own) refl (speaker_is own senders)

first_as : (one another : ℕ) (names : List ℕ) → exchanged one another another ≡ one → first_or one (map (exchanged one another) names) ≡ exchanged one another (first_or another names)
first_as one another [] own = sym own
first_as one another (s ∷ names) own = refl

-- ---- what packets say under both names

-- What is said to a seat, if its client says that: who speaks of others, who leaves, and all else.
record IsHeardGist (n : Names) (g h : Gist) : Type 0 where
  senders : others n.seat.0 h.senders ≡ map (exchanged n.seat.0 (sends_as n).0) (others (sends_as n).0 g.clocks)
  goodbyes : h.goodbyes ≡ map (exchanged n.seat.0 (leaves_as n).0) g.goodbyes
  reports : h.reports ≡ g.reports
  tmmbns : h.tmmbns ≡ g.tmmbns
  asks : h.asks ≡ g.asks

heard_nothing : (n : Names) → IsHeardGist n empty_gist empty_gist
heard_nothing n = record { senders = refl; goodbyes = refl; reports = refl; tmmbns = refl; asks = refl }

heard_both : (n : Names) (a b c d : Gist) → IsHeardGist n a c → IsHeardGist n b d → IsHeardGist n (joint_gist a b) (joint_gist c d)
heard_both n a b c d x y =
    let ex = exchanged n.seat.0 (sends_as n).0 in
    let test : ℕ → Bool = λ s. not (s == n.seat.0) in
    let own : ℕ → Bool = λ s. not (s == (sends_as n).0) in
    record {
      senders =
          filter-append test c.senders d.senders ∙ ap₂ (λ (u v : List ℕ). u ++ v) x.senders y.senders
          ∙ sym (map-append ex (others (sends_as n).0 a.clocks) (others (sends_as n).0 b.clocks))
          ∙ ap (map ex) (sym (filter-append own a.clocks b.clocks));
      goodbyes = ap₂ (λ (u v : List ℕ). u ++ v) x.goodbyes y.goodbyes ∙ sym (map-append (exchanged n.seat.0 (leaves_as n).0) a.goodbyes b.goodbyes);
      reports = ap₂ (λ (u v : List (ℕ × ℕ)). u ++ v) x.reports y.reports;
      tmmbns = ap₂ (λ (u v : ℕ). u + v) x.tmmbns y.tmmbns;
      asks = ap₂ (λ (u v : List Ask). u ++ v) x.asks y.asks;
    }

-- a packet says this to a seat, of whose client's packet it is made
abbrev HeardOne : Names → Gist → Content → Type 0
HeardOne n g c = (h : Gist) × PacketSays c (Ok h) × IsHeardGist n g h

-- ---- the word at the front of a body

-- whoever stands there, this one does then
first_word : (by : Renaming) (body : List ℕ) → 4 ≤ length body
    → body_as (places_at by 0 4 1) body ≡ big_bytes 4 (renamed by (big_number 4 body)) ++ drop 4 body
first_word by body long =
    let part : length (take 4 body) ≡ 4 = length-take-le 4 body long in
    let none : drop 4 (take 4 body) ≡ [] = drop_all 4 (take 4 body) (omega arith) in
    ap (λ (l : List ℕ). (big_bytes 4 (renamed by (big_number 4 (take 4 body))) ++ l) ++ drop 4 body) none
    ∙ ap (λ (x : ℕ). big_bytes 4 (renamed by x) ++ drop 4 body) (big_from-take 0 4 4 body (omega arith))

same_gist : (g h : Gist) → ◌≡◌ {A = Result Gist FbFault} (Ok g) (Ok h) → g ≡ h
same_gist g h e = cc

-- the sender of a report or of feedback is in the first word
word_fits : (bytes : List ℕ) → AreOctets bytes → big_number 4 bytes < 2 ^ 32
word_fits bytes octets = big_from-lt 0 4 bytes octets

lone_by : (n : Names) (s : ℕ) (b : Bool) → (s == (sends_as n).0) ≡ b
    → others n.seat.0 (exchanged n.seat.0 (sends_as n).0 s ∷ []) ≡ map (exchanged n.seat.0 (sends_as n).0) (others (sends_as n).0 (s ∷ []))
lone_by n s true is =
    let ex = exchanged n.seat.0 (sends_as n).0 in
    ap (λ (b : Bool). cond (not b) (ex s ∷ []) []) (same_test n.seat.0 (sends_as n).0 s ∙ is)
    ∙ sym (ap (λ (b : Bool). map ex (cond (not b) (s ∷ []) [])) is)
lone_by n s false unlike =
    let ex = exchanged n.seat.0 (sends_as n).0 in
    ap (λ (b : Bool). cond (not b) (ex s ∷ []) []) (same_test n.seat.0 (sends_as n).0 s ∙ unlike)
    ∙ sym (ap (λ (b : Bool). map ex (cond (not b) (s ∷ []) [])) unlike)

own_alone : (own : ℕ) → others own (own ∷ []) ≡ []
own_alone own = ap (λ (b : Bool). cond (not b) (own ∷ []) []) (eq-eqb own own refl)

-- ---- each kind of packet

abbrev packet_of : ℕ → ℕ → List ℕ → List ℕ → RtcpPacket
packet_of count kind body padding = record { count = count; kind = kind; body = body; padding = padding }

clocked_in : List ℕ → Gist
clocked_in body = clocked_by (big_number 4 body) (big_number 8 (drop 4 body), big_number 4 (drop 12 body))

sr_heard : (n : Names) (count : ℕ) (body padding : List ℕ) (g : Gist) → AreFit n → AreOctets body → 24 ≤ length body
    → PacketSays (packet_content (packet_of count 200 body padding)) (Ok g) → HeardOne n g (packet_content (heard_packet n (packet_of count 200 body padding)))
unfolding packet_content clocked_in
sr_heard n count body padding g fit octets long says =
    let sender = big_number 4 body in
    let ex = exchanged n.seat.0 (sends_as n).0 in
    let word = first_word (Exchange n.seat (sends_as n)) body (omega arith) in
    let fits : ex sender < 2 ^ 32 = fits_as n.seat.0 (sends_as n).0 sender fit.seat fit.sends (word_fits body octets) in
    let new = big_bytes 4 (ex sender) ++ drop 4 body in
    let times : ℕ × ℕ = (big_number 8 (drop 4 body), big_number 4 (drop 12 body)) in
    let is : g ≡ clocked_by sender times = same_gist g (clocked_by sender times) says in
    let H : Gist → Type 0 = λ x. IsHeardGist n x (clocked_by (ex sender) times) in (
      clocked_by (ex sender) times,
      sym (ap (λ (b : List ℕ). Ok (clocked_in b)) word
          ∙ ap₂ (λ (s t : ℕ). Ok (clocked_by s (big_number 8 (drop 4 body), t))) (big_number-reads_back 4 (ex sender) (drop 4 body) fits)
          (ap (big_number 4) (drop-drop 8 4 body))),
      subst H (sym is) (record {
        senders = lone_by n sender (sender == (sends_as n).0) refl;
        goodbyes = refl;
        reports = refl;
        tmmbns = refl;
        asks = refl;
      }),
    )

rr_heard : (n : Names) (count : ℕ) (body padding : List ℕ) (g : Gist) → AreFit n → 4 ≤ length body
    → PacketSays (packet_content (packet_of count 201 body padding)) (Ok g) → HeardOne n g (packet_content (heard_packet n (packet_of count 201 body padding)))
unfolding packet_content
rr_heard n count body padding g fit long says =
    let sender = big_number 4 body in
    let word = first_word (Put n.seat) body long in
    let is : g ≡ sent_by sender = same_gist g (sent_by sender) says in
    let H : Gist → Type 0 = λ x. IsHeardGist n x (sent_by n.seat.0) in (
      sent_by n.seat.0,
      sym (ap (λ (b : List ℕ). Ok (sent_by (big_number 4 b))) word ∙ ap (λ (s : ℕ). Ok (sent_by s)) (big_number-reads_back 4 n.seat.0 (drop 4 body) fit.seat)),
      subst H (sym is) (record { senders = own_alone n.seat.0; goodbyes = refl; reports = refl; tmmbns = refl; asks = refl }),
    )

-- feedback under the seat's name
abbrev under : ℕ → Message → Message
under seat (nack sender media entries) = nack seat media entries
under seat (pli sender media) = pli seat media
under seat (tmmbr sender entries) = tmmbr seat entries
under seat (tmmbn sender entries) = tmmbn seat entries
under seat (unknown sender) = unknown seat

body_under : (seat sender media : ℕ) (body fci : List ℕ) → seat < 2 ^ 32 → IsFeedbackBody body sender media fci
    → IsFeedbackBody (big_bytes 4 seat ++ drop 4 body) seat media fci
body_under seat sender media body fci fits is = record {
  sender_fits = fits;
  media_fits = is.media_fits;
  bytes_are = ap (λ (b : List ℕ). big_bytes 4 seat ++ drop 4 b) is.bytes_are;
}

reads_under : (seat fmt kind : ℕ) (body : List ℕ) (m : Message) → seat < 2 ^ 32 → ReadsFeedback fmt kind body m
    → ReadsFeedback fmt kind (big_bytes 4 seat ++ drop 4 body) (under seat m)
reads_under seat fmt kind body (nack s m es) fits (k, f, each, b) = (k, f, each, body_under seat s m body _ fits b)
reads_under seat fmt kind body (pli s m) fits (k, f, (fci, b)) = (k, f, (fci, body_under seat s m body fci fits b))
reads_under seat fmt kind body (tmmbr s es) fits (k, f, each, (m, b)) = (k, f, each, (m, body_under seat s m body _ fits b))
reads_under seat fmt kind body (tmmbn s es) fits (k, f, each, (m, b)) = (k, f, each, (m, body_under seat s m body _ fits b))
reads_under seat fmt kind body (unknown s) fits (unlike, (m, fci, b)) = (unlike, (m, fci, body_under seat s m body fci fits b))

heard_under : (n : Names) (m : Message) → IsHeardGist n (gist_of m) (gist_of (under n.seat.0 m))
heard_under n (nack s m es) = record { senders = own_alone n.seat.0; goodbyes = refl; reports = refl; tmmbns = refl; asks = refl }
heard_under n (pli s m) = record { senders = own_alone n.seat.0; goodbyes = refl; reports = refl; tmmbns = refl; asks = refl }
heard_under n (tmmbr s es) = record { senders = own_alone n.seat.0; goodbyes = refl; reports = refl; tmmbns = refl; asks = refl }
heard_under n (tmmbn s es) = record { senders = own_alone n.seat.0; goodbyes = refl; reports = refl; tmmbns = refl; asks = refl }
heard_under n (unknown s) = record { senders = own_alone n.seat.0; goodbyes = refl; reports = refl; tmmbns = refl; asks = refl }

feedback_heard : (n : Names) (fmt kind : ℕ) (body : List ℕ) (g : Gist) → AreFit n → FeedbackSays fmt kind body (Ok g)
    → (h : Gist) × FeedbackSays fmt kind (body_as (places_at (Put n.seat) 0 4 (min (length body / 4) 1)) body) (Ok h) × IsHeardGist n g h
feedback_heard n fmt kind body g fit (m, reads, is) =
    let long = reads_long fmt kind body m reads in
    let one : min (length body / 4) 1 ≡ 1 = omega arith in
    let word : body_as (places_at (Put n.seat) 0 4 (min (length body / 4) 1)) body ≡ big_bytes 4 n.seat.0 ++ drop 4 body =
    ap (λ (k : ℕ). body_as (places_at (Put n.seat) 0 4 k) body) one ∙ first_word (Put n.seat) body (omega arith) in
    let R : List ℕ → Type 0 = λ b. ReadsFeedback fmt kind b (under n.seat.0 m) in
    let H : Gist → Type 0 = λ x. IsHeardGist n x (gist_of (under n.seat.0 m)) in (
      gist_of (under n.seat.0 m),
      (under n.seat.0 m, subst R (sym word) (reads_under n.seat.0 fmt kind body m fit.seat reads), refl),
      subst H (sym is) (heard_under n m),
    )

rtpfb_heard : (n : Names) (count : ℕ) (body padding : List ℕ) (g : Gist) → AreFit n
    → PacketSays (packet_content (packet_of count 205 body padding)) (Ok g) → HeardOne n g (packet_content (heard_packet n (packet_of count 205 body padding)))
unfolding packet_content
rtpfb_heard n count body padding g fit says = feedback_heard n count 205 body g fit says

psfb_heard : (n : Names) (count : ℕ) (body padding : List ℕ) (g : Gist) → AreFit n
    → PacketSays (packet_content (packet_of count 206 body padding)) (Ok g) → HeardOne n g (packet_content (heard_packet n (packet_of count 206 body padding)))
unfolding packet_content
psfb_heard n count body padding g fit says = feedback_heard n count 206 body g fit says

-- the sources of a BYE, one by one
sources_taken : (n : ℕ) (body : List ℕ) → 4 + 4 * n ≤ length body
    → sources_in (take (4 * suc n) body) ≡ big_number 4 body ∷ sources_in (take (4 * n) (drop 4 body))
sources_taken n body long =
    let all : 4 * suc n ≡ 4 + 4 * n = omega arith in
    let part : length (take (4 + 4 * n) body) ≡ 4 + 4 * n = length-take-le (4 + 4 * n) body long in
    ap (λ (m : ℕ). sources_in (take m body)) all
    ∙ sources_more (take (4 + 4 * n) body) (omega arith)
    ∙ ap₂ (λ (x : ℕ) (xs : List ℕ). x ∷ xs) (big_from-take 0 4 (4 + 4 * n) body (omega arith)) (ap sources_in (drop-take 4 (4 * n) body))

octets_behind : (k : ℕ) (bytes : List ℕ) → AreOctets bytes → AreOctets (drop k bytes)
octets_behind k bytes octets i = subst (λ (x : ℕ). x < 256) (sym (get_or-drop k bytes i 0)) (octets (k + i))

sources_as : (one another : Ssrc) (count : ℕ) (body : List ℕ) → one.0 < 2 ^ 32 → another.0 < 2 ^ 32 → AreOctets body → 4 * count ≤ length body
    → sources_in (take (4 * count) (entries_as (renamed (Exchange one another)) 4 count body)) ≡ map (exchanged one.0 another.0) (sources_in (take (4 * count) body))
sources_as one another zero body fits_one fits_other octets fits =
    sources_none [] (omega arith) ∙ sym (ap (map (exchanged one.0 another.0)) (sources_none [] (omega arith)))
sources_as one another (suc n) body fits_one fits_other octets fits =
    let ex = exchanged one.0 another.0 in
    let all : 4 * suc n ≡ suc (suc (suc (suc (4 * n)))) = omega arith in
    let long : 4 + 4 * n ≤ length body = omega arith in
    let behind = length-drop 4 body in
    let source = big_number 4 body in
    let part : length (take 4 body) ≡ 4 = length-take-le 4 body (omega arith) in
    let none : drop 4 (take 4 body) ≡ [] = drop_all 4 (take 4 body) (omega arith) in
    let others_as = entries_as (renamed (Exchange one another)) 4 n (drop 4 body) in
    let first : word_as ex (take 4 body) ≡ big_bytes 4 (ex source) =
    ap (λ (l : List ℕ). big_bytes 4 (ex (big_number 4 (take 4 body))) ++ l) none
    ∙ ap (λ (x : ℕ). big_bytes 4 (ex x)) (big_from-take 0 4 4 body (omega arith)) in
    let front : take (4 * suc n) (word_as ex (take 4 body) ++ others_as) ≡ big_bytes 4 (ex source) ++ take (4 * n) others_as =
    ap₂ (λ (m : ℕ) (w : List ℕ). take m (w ++ others_as)) all first in
    let fits_here : ex source < 2 ^ 32 = fits_as one.0 another.0 source fits_one fits_other (word_fits body octets) in
    ap sources_in front
    ∙ sources_more (big_bytes 4 (ex source) ++ take (4 * n) others_as) (omega arith)
    ∙ ap₂ (λ (x : ℕ) (xs : List ℕ). x ∷ xs) (big_number-reads_back 4 (ex source) (take (4 * n) others_as) fits_here)
    (sources_as one another n (drop 4 body) fits_one fits_other (octets_behind 4 body octets) (omega arith))
    ∙ sym (ap (map ex) (sources_taken n body long))

bye_heard : (n : Names) (count : ℕ) (body padding : List ℕ) (g : Gist) → AreFit n → AreOctets body → 4 * count ≤ length body
    → PacketSays (packet_content (packet_of count 203 body padding)) (Ok g) → HeardOne n g (packet_content (heard_packet n (packet_of count 203 body padding)))
unfolding packet_content
bye_heard n count body padding g fit octets fits says =
    let sources = sources_in (take (4 * count) body) in
    let new = sources_in (take (4 * count) (entries_as (renamed (Exchange n.seat (leaves_as n))) 4 count body)) in
    let is : g ≡ record empty_gist { goodbyes = sources } = same_gist g (record empty_gist { goodbyes = sources }) says in
    let H : Gist → Type 0 = λ x. IsHeardGist n x (record empty_gist { goodbyes = new }) in (
      record empty_gist { goodbyes = new },
      refl,
      subst H (sym is) (record {
        senders = refl;
        goodbyes = sources_as n.seat (leaves_as n) count body fit.seat fit.leaves octets fits;
        reports = refl;
        tmmbns = refl;
        asks = refl;
      }),
    )

-- a description says nothing, and stays
sdes_heard : (n : Names) (count : ℕ) (body padding : List ℕ) (g : Gist)
    → PacketSays (packet_content (packet_of count 202 body padding)) (Ok g) → HeardOne n g (packet_content (heard_packet n (packet_of count 202 body padding)))
unfolding packet_content
sdes_heard n count body padding g says =
    let H : Gist → Type 0 = λ x. IsHeardGist n x empty_gist in
    (empty_gist, refl, subst H (sym (same_gist g empty_gist says)) (heard_nothing n))

-- so does a packet of another type
record IsOther (kind : ℕ) : Type 0 where
  sr : (kind == 200) ≡ false
  rr : (kind == 201) ≡ false
  sdes : (kind == 202) ≡ false
  bye : (kind == 203) ≡ false
  feedback : ((kind == 205) || (kind == 206)) ≡ false

other_content : (count kind : ℕ) (body padding : List ℕ) → IsOther kind → packet_content (packet_of count kind body padding) ≡ other count kind body
unfolding packet_content
other_content count kind body padding h =
    cond-false (kind == 200) _ _ h.sr ∙ cond-false (kind == 201) _ _ h.rr ∙ cond-false (kind == 202) _ _ h.sdes
    ∙ cond-false (kind == 203) _ _ h.bye ∙ cond-false ((kind == 205) || (kind == 206)) _ _ h.feedback

other_stays : (n : Names) (count kind : ℕ) (body padding : List ℕ) → IsOther kind
    → heard_packet n (packet_of count kind body padding) ≡ packet_of count kind body padding
other_stays n count kind body padding h =
    ap (λ (p : Places). packet_of count kind (body_as p body) padding)
    (cond-false (kind == 200) _ _ h.sr ∙ cond-false (kind == 201) _ _ h.rr ∙ cond-false (kind == 203) _ _ h.bye
    ∙ cond-false ((kind == 205) || (kind == 206)) _ _ h.feedback)

other_heard : (n : Names) (count kind : ℕ) (body padding : List ℕ) (g : Gist) → IsOther kind
    → PacketSays (packet_content (packet_of count kind body padding)) (Ok g) → HeardOne n g (packet_content (heard_packet n (packet_of count kind body padding)))
other_heard n count kind body padding g h says =
    let S : Content → Type 0 = λ c. PacketSays c (Ok g) in
    let H : Gist → Type 0 = λ x. IsHeardGist n x empty_gist in
    let O : Content → Type 0 = λ c. HeardOne n g c in
    let nothing : g ≡ empty_gist = same_gist g empty_gist (subst S (other_content count kind body padding h) says) in
    subst O (sym (ap packet_content (other_stays n count kind body padding h) ∙ other_content count kind body padding h))
    (empty_gist, refl, subst H (sym nothing) (heard_nothing n))

-- any packet
abbrev IsHeardSo : Names → Gist → RtcpPacket → ℕ → Type 0
IsHeardSo n g p kind =
    PacketSays (packet_content (packet_of p.count kind p.body p.padding)) (Ok g) → HeardOne n g (packet_content (heard_packet n (packet_of p.count kind p.body p.padding)))

one_heard : (n : Names) (p : RtcpPacket) (g : Gist) → AreFit n → IsPacket p → AreOctets p.body → IsHeardSo n g p p.kind
one_heard n p g fit h octets =
    let P : ℕ → Type 0 = IsHeardSo n g p in
    elim (cases_Bool (p.kind == 200)) [
      | inl is ↦
          let room : 24 + 24 * p.count ≤ length p.body = h.body.reports.sender_report (eqb-true _ _ is) in
          subst P (sym (eqb-true _ _ is)) (sr_heard n p.count p.body p.padding g fit octets (omega (arith, room)))
      | inr no_sr ↦ elim (cases_Bool (p.kind == 201)) [
        | inl is ↦
            let room : 4 + 24 * p.count ≤ length p.body = h.body.reports.receiver_report (eqb-true _ _ is) in
            subst P (sym (eqb-true _ _ is)) (rr_heard n p.count p.body p.padding g fit (omega (arith, room)))
        | inr no_rr ↦ elim (cases_Bool (p.kind == 202)) [
          | inl is ↦ subst P (sym (eqb-true _ _ is)) (sdes_heard n p.count p.body p.padding g)
          | inr no_sdes ↦ elim (cases_Bool (p.kind == 203)) [
            | inl is ↦ subst P (sym (eqb-true _ _ is)) (bye_heard n p.count p.body p.padding g fit octets (h.body.goodbye (eqb-true _ _ is)).0)
            | inr no_bye ↦ elim (cases_Bool (p.kind == 205)) [
              | inl is ↦ subst P (sym (eqb-true _ _ is)) (rtpfb_heard n p.count p.body p.padding g fit)
              | inr no_rtpfb ↦ elim (cases_Bool (p.kind == 206)) [
                | inl is ↦ subst P (sym (eqb-true _ _ is)) (psfb_heard n p.count p.body p.padding g fit)
                | inr no_psfb ↦ other_heard n p.count p.kind p.body p.padding g (record {
                  sr = no_sr;
                  rr = no_rr;
                  sdes = no_sdes;
                  bye = no_bye;
                  feedback = ap₂ (λ (x y : Bool). x || y) no_rtpfb no_psfb;
                })
              ]
            ]
          ]
        ]
      ]
    ]

-- ---- all packets

in_body_by : (front body behind : List ℕ) (i : ℕ) → AreOctets (front ++ (body ++ behind)) → (i < length body) ⊎ (length body ≤ i) → slice_index body i < 256
in_body_by front body behind i octets (inl below) =
    subst (λ (x : ℕ). x < 256) (get_or-append-add front (body ++ behind) i 0 ∙ get_or_append_left body behind 0 i below) (octets (length front + i))
in_body_by front body behind i octets (inr past) = subst (λ (x : ℕ). x < 256) (sym (get_or_past body i 0 past)) (omega arith)

in_body : (front body behind : List ℕ) → AreOctets (front ++ (body ++ behind)) → AreOctets body
in_body front body behind octets i = in_body_by front body behind i octets (cases_lt i (length body))

octets_first : (p : RtcpPacket) (rest : List ℕ) → AreOctets (packet_bytes p ++ rest) → AreOctets p.body
octets_first p rest octets =
    let front : List ℕ =
    (128 + (if nat_lt 0 (length p.padding) then 32 else 0) + p.count) ∷ (p.kind
    ∷ (((length p.body + length p.padding) / 4 / 256) ∷ (((length p.body + length p.padding) / 4 % 256) ∷ []))) in
    let same : packet_bytes p ++ rest ≡ front ++ (p.body ++ (p.padding ++ rest)) = ap (λ (l : List ℕ). front ++ l) (append_assoc p.body p.padding rest) in
    in_body front p.body (p.padding ++ rest) (subst AreOctets same octets)

octets_others : (first rest : List ℕ) → AreOctets (first ++ rest) → AreOctets rest
octets_others first rest octets i = subst (λ (x : ℕ). x < 256) (get_or-append-add first rest i 0) (octets (length first + i))

parted : (p : RtcpPacket) (ps : List RtcpPacket) → AreJoined (p ∷ ps) → IsPacket p × AreJoined ps
parted p [] h = (h, tt)
parted p (q ∷ ps) h = (h.0, h.2)

all_heard : (n : Names) (ps : List RtcpPacket) (g : Gist) → AreFit n → AreJoined ps → AreOctets (flat_map packet_bytes ps)
    → PacketsSay (map packet_content ps) (Ok g)
    → (h : Gist) × PacketsSay (map packet_content (map (heard_packet n) ps)) (Ok h) × IsHeardGist n g h
all_heard n [] g fit joined octets says =
    let H : Gist → Type 0 = λ x. IsHeardGist n x empty_gist in
    (empty_gist, refl, subst H (sym (same_gist g empty_gist says)) (heard_nothing n))
all_heard n (p ∷ ps) g fit joined octets (first, others, one, rest, is) =
    let parts = parted p ps joined in
    let here = one_heard n p first fit parts.0 (octets_first p (flat_map packet_bytes ps) octets) one in
    let behind = all_heard n ps others fit parts.1 (octets_others (packet_bytes p) (flat_map packet_bytes ps) octets) rest in
    let H : Gist → Type 0 = λ x. IsHeardGist n x (joint_gist here.0 behind.0) in (
      joint_gist here.0 behind.0,
      (here.0, behind.0, here.1, behind.1, refl),
      subst H (sym is) (heard_both n first others here.0 behind.0 here.2 behind.2),
    )

-- ---- what is heard of them

leaves_as_well : (one another : ℕ) (sources : List ℕ) → list_any (λ s. s == one) (map (exchanged one another) sources) ≡ list_any (λ s. s == another) sources
leaves_as_well one another [] = refl
leaves_as_well one another (s ∷ sources) = ap₂ (λ (a b : Bool). a || b) (same_test one another s) (leaves_as_well one another sources)

said_same : (n : Names) (g h : Gist) → IsHeardGist n g h → heard_said n g ≡ said_by n.seat.0 h
said_same n g h is =
    let ex = exchanged n.seat.0 (sends_as n).0 in
    let gone : list_any (λ s. s == (leaves_as n).0) g.goodbyes ≡ list_any (λ s. s == n.seat.0) h.goodbyes =
    sym (ap (list_any (λ s. s == n.seat.0)) is.goodbyes ∙ leaves_as_well n.seat.0 (leaves_as n).0 g.goodbyes) in
    let own : ex (sends_as n).0 ≡ n.seat.0 = to_one n.seat.0 (sends_as n).0 in
    let speaks : ex (speaker_of (sends_as n).0 g.clocks) ≡ speaker_of n.seat.0 h.senders =
    ap ex (speaker_is (sends_as n).0 g.clocks)
    ∙ sym (first_as n.seat.0 (sends_as n).0 (others (sends_as n).0 g.clocks) own)
    ∙ ap (first_or n.seat.0) (sym is.senders)
    ∙ sym (speaker_is n.seat.0 h.senders) in
    ap₂ (λ (b : Bool) (s : ℕ). cond b leaves (control s g.reports g.tmmbns g.asks)) gone speaks
    ∙ ap₂ (λ (r : List (ℕ × ℕ)) (t : ℕ). cond (list_any (λ s. s == n.seat.0) h.goodbyes) leaves (control (speaker_of n.seat.0 h.senders) r t g.asks)) (sym is.reports) (sym is.tmmbns)
    ∙ ap (λ (a : List Ask). cond (list_any (λ s. s == n.seat.0) h.goodbyes) leaves (control (speaker_of n.seat.0 h.senders) h.reports h.tmmbns a)) (sym is.asks)

pub is_heard : (n : Names) (before after : List ℕ) (g : Gist) → AreFit n → AreOctets before → IsHeardAs n before after → is_rtcp before ≡ true
    → JoinsPackets before (Ok g) → IsHeardOf n g after
is_heard n before after g fit octets is rtcp joins =
    let ps = joins.packets in
    let all = all_heard n ps g fit joins.joins.joined (subst AreOctets joins.joins.bytes_are octets) joins.say in (
      all.0,
      record {
        packets = map (heard_packet n) ps;
        joins = heard_reads n before after ps is rtcp joins.joins;
        say = all.1;
      },
      said_same n g all.0 all.2,
    )
