-- A packet that is read stands at the front, and one that stands at the front is read.
use Rattle.std.proofs.Common.{◌≡◌, ◌∙◌, ℕ, ◌+◌, ◌-◌, ◌*◌, ◌/◌, ◌%◌, ◌<◌, ◌≤◌, inl, inr, Bool, true, false, not, List, [], ◌∷◌, ◌++◌, length, take, drop, get_or, slice_index, Option, Some, None, Result, Ok, Err, cond, nat_lt, refl, sym, ap, ap₂, subst, arith, length-append}
use Rattle.std.specs.Prelude.{◌==◌}
use Rattle.std.specs.Option.{is_some}
use Rattle.std.proofs.lemmas.Bool.{cond-true, cond-false, cond_both, cases_Bool, eq-eqb, ne_eqb, eqb-true, eqb-false, ltb-false, ltb-true, lt-ltb, le-ltb, not-true, and_parts, and_from, or_cases, or_left, or_right, false≢true, true_from_ne_false}
use Rattle.std.proofs.lemmas.List.{take-append-drop, length-take, length-drop, take_at, drop_at, get_or-drop, nil_from_length, get_or-append_right}
use Rattle.rtcp_compound.specs.declared.fault.RtcpFault.{RtcpFault}
use Rattle.rtcp_compound.specs.declared.fault.RtcpFault.TheVariants.{Short}
use Rattle.rtcp_compound.specs.Grammar.{RtcpPacket, packet_bytes, IsPacket, IsBody, HasChunks, HasReports, HasSources, sources_end}
use Rattle.rtcp_compound.specs.declared.packet.TheConstants.{SR, RR, SDES, BYE}
use Rattle.rtcp_compound.specs.Reading.{◌>>=◌, content_at, padding_in, is_padded, fault_in, fits_bye, after_chunks, unless, packet_at}
use Rattle.rtcp_compound.proofs.HeaderLemmas.{bind_ok, same_ok, unless_ok, HasContent, content_takes, content_again, HasPadding, padding_takes, padding_again}
use Rattle.rtcp_compound.proofs.ChunkLemmas.{chunks_take, chunks_again}

-- ---- bodies

pub guard_none : (b : Bool) (f : RtcpFault) → cond b (Some f) None ≡ None → b ≡ false
guard_none true f e = cc
guard_none false f e = refl

pub wanted : (b : Bool) (f : RtcpFault) → cond b None (Some f) ≡ None → b ≡ true
wanted true f e = refl
wanted false f e = cc

some_of : (o : Option (List ℕ)) → is_some o ≡ true → (x : List ℕ) × (o ≡ Some x)
some_of (Some x) e = (x, refl)
some_of None e = absurd (false≢true e)

bye_takes : (count : ℕ) (body : List ℕ) → fits_bye count body ≡ true → HasSources count body
bye_takes count body e =
    let parts = and_parts _ _ e in (
      ltb-false _ _ (not-true _ parts.0),
      elim (or_cases _ _ parts.1) [ inl ends ↦ inl (eqb-true _ _ ends) | inr reason ↦ inr (ltb-false _ _ (not-true _ reason)) ],
    )

bye_again : (count : ℕ) (body : List ℕ) → HasSources count body → fits_bye count body ≡ true
bye_again count body h =
    and_from _ _ (ap not (le-ltb (length body) (sources_end count) h.0))
    (elim h.1 [
      | inl ends ↦ or_left _ _ (eq-eqb (length body) (sources_end count) ends)
      | inr reason ↦ or_right _ _ (ap not (le-ltb (length body) (sources_end count + 1 + slice_index body (sources_end count)) reason))
    ])

-- the blocks of a report stand within a body that has no fault
pub reports_fit : (kind count : ℕ) (body : List ℕ) → fault_in kind count body ≡ None → HasReports kind count body
unfolding fault_in
reports_fit kind count body e =
    let at : (k : ℕ) → kind ≡ k → fault_in k count body ≡ None = λ k is. subst (λ (j : ℕ). fault_in j count body ≡ None) is e in
    record {
      sender_report = λ is. ltb-false _ _ (guard_none _ _ (at SR is));
      receiver_report = λ is. ltb-false _ _ (guard_none _ _ (at RR is));
    }

pub body_takes : (kind count : ℕ) (body : List ℕ) → length body % 4 ≡ 0 → fault_in kind count body ≡ None → IsBody kind count body
unfolding fault_in
body_takes kind count body whole e =
    let at : (k : ℕ) → kind ≡ k → fault_in k count body ≡ None = λ k is. subst (λ (j : ℕ). fault_in j count body ≡ None) is e in
    record {
      reports = reports_fit kind count body e;
      description = λ is. let found = some_of (after_chunks count body) (wanted _ _ (at SDES is)) in chunks_take count body found.0 whole found.1;
      goodbye = λ is. bye_takes count body (wanted _ _ (at BYE is));
    }

chunks_found : (count : ℕ) (body : List ℕ) → length body % 4 ≡ 0 → HasChunks count body → is_some (after_chunks count body) ≡ true
chunks_found count body whole h =
    let again = chunks_again h.chunks h.extension h.each (ap (λ y. length y % 4) (sym h.bytes_are) ∙ whole) in
    ap is_some (ap₂ after_chunks (sym h.count) h.bytes_are ∙ again)

pub body_again : (kind count : ℕ) (body : List ℕ) → length body % 4 ≡ 0 → IsBody kind count body → fault_in kind count body ≡ None
unfolding fault_in
body_again kind count body whole h =
    let P : Option RtcpFault → Type 0 = λ o. o ≡ None in
    cond_both (kind == 200) _ _ P (λ is. cond-false _ _ _ (le-ltb _ _ (h.reports.sender_report (eqb-true _ _ is)))) (λ _.
    cond_both (kind == 201) _ _ P (λ is. cond-false _ _ _ (le-ltb _ _ (h.reports.receiver_report (eqb-true _ _ is)))) (λ _.
    cond_both (kind == 202) _ _ P (λ is. cond-true _ _ _ (chunks_found count body whole (h.description (eqb-true _ _ is)))) (λ _.
    cond_both (kind == 203) _ _ P (λ is. cond-true _ _ _ (bye_again count body (h.goodbye (eqb-true _ _ is)))) (λ _. refl))))

-- ---- packets

-- the packet stands at the front, before the rest
pub record Takes (p : RtcpPacket) (bytes rest : List ℕ) : Type 0 where
  pub packet : IsPacket p
  pub bytes_are : bytes ≡ packet_bytes p ++ rest
  pub last : 0 < length p.padding → rest ≡ []

first_padded : (b : ℕ) → b / 64 ≡ 2 → b / 32 % 2 ≡ 1 → 128 + 32 + b % 32 ≡ b
first_padded b version padded = omega arith

first_unpadded : (b : ℕ) → b / 64 ≡ 2 → (b / 32 % 2 ≡ 1 → ⊥) → 128 + 0 + b % 32 ≡ b
first_unpadded b version unpadded = omega arith

first_byte : (b n : ℕ) → b / 64 ≡ 2 → ((b / 32 % 2 == 1) ≡ true → 0 < n) → ((b / 32 % 2 == 1) ≡ false → n ≡ 0) → 128 + cond (nat_lt 0 n) 32 0 + b % 32 ≡ b
first_byte b n version some none = elim (cases_Bool (b / 32 % 2 == 1)) [
  | inl padded ↦ ap (λ f. 128 + f + b % 32) (cond-true (nat_lt 0 n) 32 0 (lt-ltb 0 n (some padded))) ∙ first_padded b version (eqb-true _ _ padded)
  | inr unpadded ↦ ap (λ f. 128 + f + b % 32) (cond-false (nat_lt 0 n) 32 0 (le-ltb 0 n (omega (arith, none unpadded)))) ∙ first_unpadded b version (eqb-false _ _ unpadded)
]

high_byte : (m a b : ℕ) → m ≡ 4 * (a * 256 + (b * 1 + 0)) → b < 256 → m / 4 / 256 ≡ a
high_byte m a b e h = omega arith

low_byte : (m a b : ℕ) → m ≡ 4 * (a * 256 + (b * 1 + 0)) → b < 256 → m / 4 % 256 ≡ b
low_byte m a b e h = omega arith

-- what is made of a content and its padding
made : ℕ → ℕ → List ℕ → ℕ → RtcpPacket
made b0 b1 content n = record { count = b0 % 32; kind = b1; body = take (length content - n) content; padding = drop (length content - n) content }

-- the header of that packet, before these bytes
abbrev packet_front : ℕ → ℕ → List ℕ → ℕ → List ℕ → List ℕ
packet_front b0 b1 content n y =
    (128 + cond (nat_lt 0 (length (drop (length content - n) content))) 32 0 + b0 % 32) ∷ (b1
    ∷ (((length (take (length content - n) content) + length (drop (length content - n) content)) / 4 / 256)
    ∷ (((length (take (length content - n) content) + length (drop (length content - n) content)) / 4 % 256) ∷ y)))

padded_since : (b0 : ℕ) (content : List ℕ) (n : ℕ) → HasPadding (b0 / 32 % 2 == 1) content n → 0 < n → (b0 / 32 % 2 == 1) ≡ true
padded_since b0 content n pad some = true_from_ne_false _ (λ f. absurd (omega (arith, pad.none f)))

last_of : (content : List ℕ) (n : ℕ) (padded : Bool) → HasPadding padded content n → slice_index (drop (length content - n) content) (length (drop (length content - n) content) - 1) ≡ n
last_of content n true pad =
    let within : n ≤ length content = pad.within in
    let some : 0 < n = pad.some refl in
    let at : length content - n + (length (drop (length content - n) content) - 1) ≡ length content - 1 = simp length-drop (omega arith) in
    get_or-drop (length content - n) content _ 0 ∙ ap (λ i. get_or content i 0) at ∙ pad.last refl
last_of content n false pad =
    let none : n ≡ 0 = pad.none refl in
    let empty : drop (length content - n) content ≡ [] = nil_from_length _ (simp length-drop (omega arith)) in
    ap (λ (y : List ℕ). slice_index y (length y - 1)) empty ∙ sym none

packet_made : (b0 b1 b2 b3 : ℕ) (tail content rest : List ℕ) (n : ℕ) → b2 < 256 → b3 < 256
    → HasContent (b0 ∷ (b1 ∷ (b2 ∷ (b3 ∷ tail)))) content rest
    → HasPadding (b0 / 32 % 2 == 1) content n
    → fault_in b1 (b0 % 32) (take (length content - n) content) ≡ None
    → Takes (made b0 b1 content n) (b0 ∷ (b1 ∷ (b2 ∷ (b3 ∷ tail)))) rest
unfolding made
packet_made b0 b1 b2 b3 tail content rest n high low h pad fits =
    let within : n ≤ length content = pad.within in
    let pad_whole : n % 4 ≡ 0 = pad.whole in
    let long : length content ≡ 4 * (b2 * 256 + (b3 * 1 + 0)) = h.length_is in
    let body_length : length (take (length content - n) content) ≡ length content - n = simp length-take (omega arith) in
    let padding_length : length (drop (length content - n) content) ≡ n = simp length-drop (omega arith) in
    let joined : take (length content - n) content ++ drop (length content - n) content ≡ content = take-append-drop (length content - n) content in
    let all : length (take (length content - n) content) + length (drop (length content - n) content) ≡ length content = omega arith in
    let body_whole : length (take (length content - n) content) % 4 ≡ 0 = omega arith in
    record {
      packet = record {
        count = omega arith;
        words = omega arith;
        length_fits = omega arith;
        padding = ap (λ (m : ℕ). m % 4) padding_length ∙ pad_whole;
        padding_length = last_of content n (b0 / 32 % 2 == 1) pad ∙ sym padding_length;
        body = body_takes b1 (b0 % 32) (take (length content - n) content) body_whole fits;
      };
      bytes_are =
          ap₂ (λ (x y : ℕ). x ∷ (b1 ∷ y ∷ (b3 ∷ tail)))
          (sym (first_byte b0 (length (drop (length content - n) content)) h.version (λ p. omega (arith, pad.some p)) (λ p. omega (arith, pad.none p)))) refl
          ∙ ap₂ (λ (y z : ℕ). (128 + cond (nat_lt 0 (length (drop (length content - n) content))) 32 0 + b0 % 32) ∷ (b1 ∷ (y ∷ (z ∷ tail))))
          (sym (ap (λ (m : ℕ). m / 4 / 256) all ∙ high_byte (length content) b2 b3 long low)) (sym (ap (λ (m : ℕ). m / 4 % 256) all ∙ low_byte (length content) b2 b3 long low))
          ∙ ap (λ y. packet_front b0 b1 content n y) (h.bytes_are ∙ ap (λ y. y ++ rest) (sym joined));
      last = λ some. h.last (padded_since b0 content n pad (omega arith));
    }

-- a list of bytes
abbrev pub IsBytes : List ℕ → Type 0
IsBytes bytes = (i : ℕ) → get_or bytes i 0 < 256

takes_made : (bytes content rest : List ℕ) (n : ℕ) → IsBytes bytes → HasContent bytes content rest → HasPadding (is_padded bytes) content n
    → fault_in (slice_index bytes 1) (slice_index bytes 0 % 32) (take (length content - n) content) ≡ None
    → Takes (made (slice_index bytes 0) (slice_index bytes 1) content n) bytes rest
takes_made [] content rest n fit h pad fits = let header : 4 ≤ 0 = h.header in absurd (omega arith)
takes_made (b0 ∷ []) content rest n fit h pad fits = let header : 4 ≤ 1 = h.header in absurd (omega arith)
takes_made (b0 ∷ (b1 ∷ [])) content rest n fit h pad fits = let header : 4 ≤ 2 = h.header in absurd (omega arith)
takes_made (b0 ∷ (b1 ∷ (b2 ∷ []))) content rest n fit h pad fits = let header : 4 ≤ 3 = h.header in absurd (omega arith)
takes_made (b0 ∷ (b1 ∷ (b2 ∷ (b3 ∷ tail)))) content rest n fit h pad fits = packet_made b0 b1 b2 b3 tail content rest n (fit 2) (fit 3) h pad fits

-- reading goes on after the content, and after the padding
abbrev pub ends_with : ℕ → ℕ → List ℕ → List ℕ → List ℕ → Result (RtcpPacket × List ℕ) RtcpFault
ends_with kind count body padding rest =
    unless (fault_in kind count body) (record { count = count; kind = kind; body = body; padding = padding }) >>= λ p. Ok (p, rest)

abbrev pub after_padding : List ℕ → List ℕ × List ℕ → ℕ → Result (RtcpPacket × List ℕ) RtcpFault
after_padding bytes c n = ends_with (slice_index bytes 1) (slice_index bytes 0 % 32) (take (length c.0 - n) c.0) (drop (length c.0 - n) c.0) c.1

abbrev pub after_content : List ℕ → List ℕ × List ℕ → Result (RtcpPacket × List ℕ) RtcpFault
after_content bytes c = padding_in (is_padded bytes) c.0 >>= λ n. after_padding bytes c n

pub packet_short : (bytes : List ℕ) → length bytes < 4 → packet_at bytes ≡ Err Short
unfolding packet_at content_at
packet_short bytes h = ap (λ r. r >>= after_content bytes) (cond-true (nat_lt (length bytes) 4) (Err Short) _ (lt-ltb _ _ h))

pub packet_takes : (bytes : List ℕ) (x : RtcpPacket × List ℕ) → IsBytes bytes → packet_at bytes ≡ Ok x → Takes x.0 bytes x.1
unfolding packet_at made
packet_takes bytes x fit e =
    let c = bind_ok (content_at bytes) (after_content bytes) x e in
    let n = bind_ok (padding_in (is_padded bytes) c.0.0) (after_padding bytes c.0) x c.2 in
    let b0 = slice_index bytes 0 in
    let b1 = slice_index bytes 1 in
    let p = bind_ok (unless (fault_in b1 (b0 % 32) (take (length c.0.0 - n.0) c.0.0)) (made b0 b1 c.0.0 n.0)) (λ (q : RtcpPacket). Ok (q, c.0.1)) x n.2 in
    let u = unless_ok (fault_in b1 (b0 % 32) (take (length c.0.0 - n.0) c.0.0)) (made b0 b1 c.0.0 n.0) p.0 p.1 in
    let Q : RtcpPacket → Type 0 = λ q. Takes q bytes c.0.1 in
    let R : RtcpPacket × List ℕ → Type 0 = λ y. Takes y.0 bytes y.1 in
    let same : ◌≡◌ {A = Result (RtcpPacket × List ℕ) RtcpFault} (Ok (p.0, c.0.1)) (Ok x) = p.2 in
    let first = takes_made bytes c.0.0 c.0.1 n.0 fit (content_takes bytes c.0 c.1) (padding_takes (is_padded bytes) c.0.0 n.0 n.1) u.0 in
    subst R (same_ok (p.0, c.0.1) x same) (subst Q u.1 first)

pub packet_shorter : (bytes : List ℕ) (x : RtcpPacket × List ℕ) → packet_at bytes ≡ Ok x → length x.1 + 4 ≤ length bytes
unfolding packet_at
packet_shorter bytes x e =
    let c = bind_ok (content_at bytes) (after_content bytes) x e in
    let n = bind_ok (padding_in (is_padded bytes) c.0.0) (after_padding bytes c.0) x c.2 in
    let b0 = slice_index bytes 0 in
    let b1 = slice_index bytes 1 in
    let p = bind_ok (unless (fault_in b1 (b0 % 32) (take (length c.0.0 - n.0) c.0.0)) (record { count = b0 % 32; kind = b1; body = take (length c.0.0 - n.0) c.0.0; padding = drop (length c.0.0 - n.0) c.0.0 })) (λ (q : RtcpPacket). Ok (q, c.0.1)) x n.2 in
    let same : ◌≡◌ {A = Result (RtcpPacket × List ℕ) RtcpFault} (Ok (p.0, c.0.1)) (Ok x) = p.2 in
    let h = content_takes bytes c.0 c.1 in
    let header : 4 ≤ length bytes = h.header in
    let all : length bytes - 4 ≡ length c.0.0 + length c.0.1 = sym (length-drop 4 bytes) ∙ ap length h.bytes_are ∙ length-append c.0.0 c.0.1 in
    let R : RtcpPacket × List ℕ → Type 0 = λ y. length y.1 + 4 ≤ length bytes in
    let here : length c.0.1 + 4 ≤ length bytes = omega arith in
    subst R (same_ok (p.0, c.0.1) x same) here

first_fields : (padded : Bool) (count : ℕ) → count < 32
    → ((128 + cond padded 32 0 + count) / 64 ≡ 2) × ((128 + cond padded 32 0 + count) % 32 ≡ count) × (((128 + cond padded 32 0 + count) / 32 % 2 == 1) ≡ padded)
first_fields true count h =
    let bit : (128 + 32 + count) / 32 % 2 ≡ 1 = omega arith in
    (omega arith, omega arith, eq-eqb _ _ bit)
first_fields false count h =
    let bit : (128 + 0 + count) / 32 % 2 ≡ 1 → ⊥ = λ z. absurd (omega arith) in
    (omega arith, omega arith, ne_eqb _ _ bit)

words_read : (m k : ℕ) → k ≡ m → m % 4 ≡ 0 → k ≡ 4 * (m / 4 / 256 * 256 + (m / 4 % 256 * 1 + 0))
words_read m k e h = omega arith

last_read : (body padding : List ℕ) → 0 < length padding → slice_index padding (length padding - 1) ≡ length padding
    → slice_index (body ++ padding) (length (body ++ padding) - 1) ≡ length padding
last_read body padding some is =
    let at : length (body ++ padding) - 1 - length body ≡ length padding - 1 = simp length-append (omega arith) in
    let behind : length body ≤ length (body ++ padding) - 1 = simp length-append (omega arith) in
    get_or-append_right body padding (length body) (length (body ++ padding) - 1) 0 refl behind ∙ ap (λ i. get_or padding i 0) at ∙ is

body_whole : (a b : ℕ) → (a + b) % 4 ≡ 0 → b % 4 ≡ 0 → a % 4 ≡ 0
body_whole a b e f = omega arith

pub packet_again : (p : RtcpPacket) (rest : List ℕ) → IsPacket p → (0 < length p.padding → rest ≡ []) → packet_at (packet_bytes p ++ rest) ≡ Ok (p, rest)
unfolding packet_at
packet_again p rest h last =
    let bytes = packet_bytes p ++ rest in
    let content = p.body ++ p.padding in
    let n = length p.padding in
    let fields = first_fields (nat_lt 0 n) p.count h.count in
    let padded : is_padded bytes ≡ nat_lt 0 n = fields.2 in
    let joined : length content ≡ length p.body + n = length-append p.body p.padding in
    let found : content_at bytes ≡ Ok (content, rest) = content_again bytes content rest (record {
      header = omega arith;
      version = fields.0;
      length_is = words_read (length p.body + n) (length content) joined h.words;
      bytes_are = refl;
      last = λ t. last (ltb-true 0 n (sym padded ∙ t));
    }) in
    let pad : padding_in (is_padded bytes) content ≡ Ok n = padding_again (is_padded bytes) content n (record {
      within = omega arith;
      whole = h.padding;
      some = λ t. ltb-true 0 n (sym padded ∙ t);
      none = λ f. let low : n ≤ 0 = ltb-false 0 n (sym padded ∙ f) in omega arith;
      last = λ t. last_read p.body p.padding (ltb-true 0 n (sym padded ∙ t)) h.padding_length;
    }) in
    let at : length p.body ≡ length content - n = omega arith in
    let front : take (length content - n) content ≡ p.body = take_at p.body p.padding (length content - n) at in
    let behind : drop (length content - n) content ≡ p.padding = drop_at p.body p.padding (length content - n) at in
    let fits = body_again p.kind p.count p.body (body_whole (length p.body) n h.words h.padding) h.body in
    ap (λ r. r >>= after_content bytes) found
    ∙ ap (λ r. r >>= after_padding bytes (content, rest)) pad
    ∙ ap (λ k. ends_with p.kind k (take (length content - n) content) (drop (length content - n) content) rest) fields.1
    ∙ ap₂ (λ (x y : List ℕ). ends_with p.kind p.count x y rest) front behind
    ∙ ap (λ o. unless o p >>= λ q. Ok (q, rest)) fits
