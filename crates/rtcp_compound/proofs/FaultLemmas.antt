-- What reading refuses has the fault that it names, and what has a fault is refused by it.
use Rattle.std.proofs.Common.{◌≡◌, ◌∙◌, ℕ, ◌+◌, ◌-◌, ◌*◌, ◌/◌, ◌%◌, ◌<◌, ◌≤◌, ◌⊎◌, inl, inr, Bool, true, false, not, ◌&&◌, List, [], ◌++◌, length, take, drop, slice_index, min, Option, Some, None, Result, Ok, Err, cond, nat_lt, refl, sym, ap, subst, arith, length-append}
use Rattle.std.specs.Prelude.{◌==◌}
use Rattle.std.proofs.lemmas.Bool.{cond-true, cond-false, cases_Bool, eq-eqb, ne_eqb, eqb-true, eqb-false, ltb-false, ltb-true, lt-ltb, le-ltb, not-true, not-false, and_parts, and_from}
use Rattle.std.proofs.lemmas.List.{take-append-drop, length-take, length-drop, take_at, drop_all, append-nil, nil_from_length}
use Rattle.byteorder.specs.Endian.{big_number}
use Rattle.rtcp_compound.specs.declared.fault.RtcpFault.{RtcpFault}
use Rattle.rtcp_compound.specs.declared.fault.RtcpFault.TheVariants.{Short, Version, Length, PaddingNotLast, Padding, CountOver, SdesUnended}
use Rattle.rtcp_compound.specs.Fault.{HasRtcpFault, HasFrame, IsWithin, SaysPadded, IsNoBody, ends_in_padding, size_of}
use Rattle.rtcp_compound.specs.Grammar.{RtcpPacket, IsBody, last_byte}
use Rattle.rtcp_compound.specs.Reading.{◌>>=◌, content_at, padding_in, is_padded, fault_in, unless, packet_at}
use Rattle.rtcp_compound.proofs.HeaderLemmas.{guard_ok, same_ok, HasContent, content_takes, content_again, HasPadding, padding_takes, padding_again}
use Rattle.rtcp_compound.proofs.PacketLemmas.{ends_with, after_padding, after_content, packet_short, body_takes, body_again}

-- ---- refusals step by step

same_err : {A : Type 0} (d f : RtcpFault) → ◌≡◌ {A = Result A RtcpFault} (Err d) (Err f) → d ≡ f
same_err d f e = cc

ok_or_err : {A : Type 0} (x : A) (f : RtcpFault) → ◌≡◌ {A = Result A RtcpFault} (Ok x) (Err f) → ⊥
ok_or_err x f e = cc

bind_err : {A B : Type 0} (r : Result A RtcpFault) (g : A → Result B RtcpFault) (f : RtcpFault) → (r >>= g) ≡ Err f → (r ≡ Err f) ⊎ ((x : A) × (r ≡ Ok x) × (g x ≡ Err f))
bind_err (Ok x) g f e = inr (x, refl, e)
bind_err (Err d) g f e = inl (ap Err (same_err d f e))

guard_err : {A : Type 0} (b : Bool) (d f : RtcpFault) (r : Result A RtcpFault) → cond b (Err d) r ≡ Err f → ((b ≡ true) × (d ≡ f)) ⊎ ((b ≡ false) × (r ≡ Err f))
guard_err true d f r e = inl (refl, same_err d f e)
guard_err false d f r e = inr (refl, e)

unless_err : (o : Option RtcpFault) (p : RtcpPacket) (f : RtcpFault) → unless o p ≡ Err f → o ≡ Some f
unless_err None p f e = absurd (ok_or_err p f e)
unless_err (Some d) p f e = ap Some (same_err d f e)

content_refused : (bytes : List ℕ) (f : RtcpFault) → content_at bytes ≡ Err f → HasRtcpFault bytes f
unfolding content_at
content_refused bytes f e =
    let behind : Result (List ℕ × List ℕ) RtcpFault = Ok (take (size_of bytes - 4) (drop 4 bytes), drop (size_of bytes) bytes) in
    let early = cond (is_padded bytes && nat_lt (size_of bytes) (length bytes)) (Err PaddingNotLast) behind in
    let beyond = cond (nat_lt (length bytes) (size_of bytes)) (Err Length) early in
    let other = cond (not (slice_index bytes 0 / 64 == 2)) (Err Version) beyond in
    let P : RtcpFault → Type 0 = λ g. HasRtcpFault bytes g in
    elim (guard_err (nat_lt (length bytes) 4) Short f other e) [
      | inl s ↦ subst P s.1 (ltb-true _ _ s.0)
      | inr s ↦
          let header : 4 ≤ length bytes = ltb-false _ _ s.0 in
          elim (guard_err (not (slice_index bytes 0 / 64 == 2)) Version f beyond s.1) [
            | inl v ↦ subst P v.1 (header, eqb-false _ _ (not-true _ v.0))
            | inr v ↦
                let version : slice_index bytes 0 / 64 ≡ 2 = eqb-true _ _ (not-false _ v.0) in
                elim (guard_err (nat_lt (length bytes) (size_of bytes)) Length f early v.1) [
                  | inl l ↦ subst P l.1 ((header, version), ltb-true _ _ l.0)
                  | inr l ↦
                      let fits : size_of bytes ≤ length bytes = ltb-false _ _ l.0 in
                      elim (guard_err (is_padded bytes && nat_lt (size_of bytes) (length bytes)) PaddingNotLast f behind l.1) [
                        | inl p ↦ let parts = and_parts _ _ p.0 in subst P p.1 (((header, version), fits), eqb-true _ _ parts.0, ltb-true _ _ parts.1)
                        | inr p ↦ absurd (ok_or_err _ f p.1)
                      ]
                ]
          ]
    ]

padding_refused : (padded : Bool) (content : List ℕ) (f : RtcpFault) → padding_in padded content ≡ Err f → (padded ≡ true) × (Padding ≡ f) × (ends_in_padding content ≡ false)
unfolding padding_in
padding_refused false content f e = absurd (ok_or_err _ f e)
padding_refused true content f e = elim (cases_Bool (ends_in_padding content)) [
  | inl ends ↦ absurd (ok_or_err (last_byte content) f (sym (cond-true (ends_in_padding content) _ _ ends) ∙ e))
  | inr bad ↦ (refl, same_err {A = ℕ} Padding f (sym (cond-false (ends_in_padding content) _ _ bad) ∙ e), bad)
]

-- ---- what a body lacks

count_over : (b : Bool) (d f : RtcpFault) → cond b (Some d) None ≡ Some f → d ≡ f
count_over true d f e = cc
count_over false d f e = cc

unended : (b : Bool) (d f : RtcpFault) → cond b None (Some d) ≡ Some f → d ≡ f
unended true d f e = cc
unended false d f e = cc

none_apart : (f : RtcpFault) → ◌≡◌ {A = Option RtcpFault} None (Some f) → ⊥
none_apart f e = cc

-- the fault of a body, by the packet's type
fault_kind : (kind count : ℕ) (body : List ℕ) (f : RtcpFault) → fault_in kind count body ≡ Some f → ((kind ≡ 202) × (SdesUnended ≡ f)) ⊎ ((kind ≡ 202 → ⊥) × (CountOver ≡ f))
unfolding fault_in
fault_kind kind count body f e = elim (cases_Bool (kind == 200)) [
  | inl a ↦ let is : kind ≡ 200 = eqb-true _ _ a in inr (λ k. absurd (omega arith), count_over _ _ f (sym (cond-true (kind == 200) _ _ a) ∙ e))
  | inr a ↦ let e1 = sym (cond-false (kind == 200) _ _ a) ∙ e in elim (cases_Bool (kind == 201)) [
    | inl b ↦ let is : kind ≡ 201 = eqb-true _ _ b in inr (λ k. absurd (omega arith), count_over _ _ f (sym (cond-true (kind == 201) _ _ b) ∙ e1))
    | inr b ↦ let e2 = sym (cond-false (kind == 201) _ _ b) ∙ e1 in elim (cases_Bool (kind == 202)) [
      | inl c ↦ inl (eqb-true _ _ c, unended _ _ f (sym (cond-true (kind == 202) _ _ c) ∙ e2))
      | inr c ↦ let e3 = sym (cond-false (kind == 202) _ _ c) ∙ e2 in elim (cases_Bool (kind == 203)) [
        | inl d ↦ inr (eqb-false _ _ c, unended _ _ f (sym (cond-true (kind == 203) _ _ d) ∙ e3))
        | inr d ↦ absurd (none_apart f (sym (cond-false (kind == 203) _ _ d) ∙ e3))
      ]
    ]
  ]
]

-- ---- what is refused has the fault

content_is : (bytes : List ℕ) (c : List ℕ × List ℕ) → content_at bytes ≡ Ok c → take (size_of bytes - 4) (drop 4 bytes) ≡ c.0
unfolding content_at
content_is bytes c e =
    let behind : Result (List ℕ × List ℕ) RtcpFault = Ok (take (size_of bytes - 4) (drop 4 bytes), drop (size_of bytes) bytes) in
    let early = cond (is_padded bytes && nat_lt (size_of bytes) (length bytes)) (Err PaddingNotLast) behind in
    let beyond = cond (nat_lt (length bytes) (size_of bytes)) (Err Length) early in
    let other = cond (not (slice_index bytes 0 / 64 == 2)) (Err Version) beyond in
    let long = guard_ok (nat_lt (length bytes) 4) Short other c e in
    let version = guard_ok (not (slice_index bytes 0 / 64 == 2)) Version beyond c long.1 in
    let fits = guard_ok (nat_lt (length bytes) (size_of bytes)) Length early c version.1 in
    let last = guard_ok (is_padded bytes && nat_lt (size_of bytes) (length bytes)) PaddingNotLast behind c fits.1 in
    let first = λ (x : List ℕ × List ℕ). x.0 in
    ap first (same_ok (take (size_of bytes - 4) (drop 4 bytes), drop (size_of bytes) bytes) c last.1)

content_within : (bytes content rest : List ℕ) → HasContent bytes content rest → IsWithin bytes
content_within bytes content rest h =
    let header : 4 ≤ length bytes = h.header in
    let all : length bytes - 4 ≡ length content + length rest = sym (length-drop 4 bytes) ∙ ap length h.bytes_are ∙ length-append content rest in
    let long : length content ≡ 4 * big_number 2 (drop 2 bytes) = h.length_is in
    ((header, h.version), omega arith)

content_last : (bytes content rest : List ℕ) → HasContent bytes content rest → is_padded bytes ≡ true → (size_of bytes ≡ length bytes) × (drop 4 bytes ≡ content)
content_last bytes content rest h padded =
    let header : 4 ≤ length bytes = h.header in
    let none : rest ≡ [] = h.last padded in
    let same : drop 4 bytes ≡ content = h.bytes_are ∙ ap (λ y. content ++ y) none ∙ append-nil content in
    let all : length bytes - 4 ≡ length content = sym (length-drop 4 bytes) ∙ ap length same in
    let long : length content ≡ 4 * big_number 2 (drop 2 bytes) = h.length_is in
    (omega arith, same)

framed : (bytes content rest : List ℕ) (n : ℕ) → take (size_of bytes - 4) (drop 4 bytes) ≡ content → HasContent bytes content rest → HasPadding (is_padded bytes) content n
    → HasFrame bytes (take (length content - n) content)
framed bytes content rest n is h pad =
    let within : n ≤ length content = pad.within in
    let padding = drop (length content - n) content in
    let long : length padding ≡ n = length-drop (length content - n) content ∙ omega arith in
    let joined : take (length content - n) content ++ padding ≡ content = take-append-drop (length content - n) content in
    let yes_padded : SaysPadded bytes → is_padded bytes ≡ true = λ s. eq-eqb _ _ s in
    record {
      within = content_within bytes content rest h;
      padding = padding;
      content = is ∙ sym joined;
      none = λ s. nil_from_length padding (long ∙ pad.none (ne_eqb _ _ s));
      last = λ s. (content_last bytes content rest h (yes_padded s)).0;
      some = λ s. let some : 0 < n = pad.some (yes_padded s) in omega arith;
      whole = ap (λ (m : ℕ). m % 4) long ∙ pad.whole;
      count = λ s. ap last_byte joined ∙ pad.last (yes_padded s) ∙ sym long;
    }

body_refused : (bytes content rest : List ℕ) (n : ℕ) (f : RtcpFault) → take (size_of bytes - 4) (drop 4 bytes) ≡ content → HasContent bytes content rest → HasPadding (is_padded bytes) content n
    → fault_in (slice_index bytes 1) (slice_index bytes 0 % 32) (take (length content - n) content) ≡ Some f → HasRtcpFault bytes f
body_refused bytes content rest n f is h pad e =
    let P : RtcpFault → Type 0 = λ g. HasRtcpFault bytes g in
    let within : n ≤ length content = pad.within in
    let whole : n % 4 ≡ 0 = pad.whole in
    let long : length content ≡ 4 * big_number 2 (drop 2 bytes) = h.length_is in
    let body_length : length (take (length content - n) content) ≡ length content - n = length-take (length content - n) content ∙ omega arith in
    let body_whole : length (take (length content - n) content) % 4 ≡ 0 = omega arith in
    let lacks : IsNoBody bytes (take (length content - n) content) = λ b. none_apart f (sym (body_again _ _ _ body_whole b) ∙ e) in
    elim (fault_kind _ _ _ f e) [
      | inl k ↦ subst P k.1 (take (length content - n) content, framed bytes content rest n is h pad, k.0, lacks)
      | inr k ↦ subst P k.1 (take (length content - n) content, framed bytes content rest n is h pad, k.0, lacks)
    ]

pub packet_refused : (bytes : List ℕ) (f : RtcpFault) → packet_at bytes ≡ Err f → HasRtcpFault bytes f
unfolding packet_at
packet_refused bytes f e = elim (bind_err (content_at bytes) (after_content bytes) f e) [
  | inl c ↦ content_refused bytes f c
  | inr c ↦
      let h = content_takes bytes c.0 c.1 in
      elim (bind_err (padding_in (is_padded bytes) c.0.0) (after_padding bytes c.0) f c.2) [
        | inl p ↦
            let P : RtcpFault → Type 0 = λ g. HasRtcpFault bytes g in
            let Q : List ℕ → Type 0 = λ y. ends_in_padding y ≡ false in
            let bad = padding_refused (is_padded bytes) c.0.0 f p in
            let last = content_last bytes c.0.0 c.0.1 h bad.0 in
            subst P bad.1 (content_within bytes c.0.0 c.0.1 h, eqb-true _ _ bad.0, last.0, subst Q (sym last.1) bad.2)
        | inr n ↦
            let o = fault_in (slice_index bytes 1) (slice_index bytes 0 % 32) (take (length c.0.0 - n.0) c.0.0) in
            let read : RtcpPacket = record { count = slice_index bytes 0 % 32; kind = slice_index bytes 1; body = take (length c.0.0 - n.0) c.0.0; padding = drop (length c.0.0 - n.0) c.0.0 } in
            elim (bind_err (unless o read) (λ (p : RtcpPacket). Ok (p, c.0.1)) f n.2) [
              | inl u ↦ body_refused bytes c.0.0 c.0.1 n.0 f (content_is bytes c.0 c.1) h (padding_takes (is_padded bytes) c.0.0 n.0 n.1) (unless_err o read f u)
              | inr u ↦ absurd (ok_or_err _ f u.2)
            ]
      ]
]

-- ---- what has the fault is refused

content_version : (bytes : List ℕ) → HasRtcpFault bytes Version → content_at bytes ≡ Err Version
unfolding content_at
content_version bytes h = cond-false (nat_lt (length bytes) 4) _ _ (le-ltb _ _ h.0) ∙ cond-true (not (slice_index bytes 0 / 64 == 2)) _ _ (ap not (ne_eqb _ _ h.1))

content_beyond : (bytes : List ℕ) → HasRtcpFault bytes Length → content_at bytes ≡ Err Length
unfolding content_at
content_beyond bytes h =
    cond-false (nat_lt (length bytes) 4) _ _ (le-ltb _ _ h.0.0) ∙ cond-false (not (slice_index bytes 0 / 64 == 2)) _ _ (ap not (eq-eqb _ _ h.0.1))
    ∙ cond-true (nat_lt (length bytes) (size_of bytes)) _ _ (lt-ltb _ _ h.1)

content_early : (bytes : List ℕ) → HasRtcpFault bytes PaddingNotLast → content_at bytes ≡ Err PaddingNotLast
unfolding content_at
content_early bytes h =
    cond-false (nat_lt (length bytes) 4) _ _ (le-ltb _ _ h.0.0.0) ∙ cond-false (not (slice_index bytes 0 / 64 == 2)) _ _ (ap not (eq-eqb _ _ h.0.0.1))
    ∙ cond-false (nat_lt (length bytes) (size_of bytes)) _ _ (le-ltb _ _ h.0.1)
    ∙ cond-true (is_padded bytes && nat_lt (size_of bytes) (length bytes)) _ _ (and_from _ _ (eq-eqb _ _ h.1) (lt-ltb _ _ h.2))

no_padding : (content : List ℕ) → ends_in_padding content ≡ false → padding_in true content ≡ Err Padding
unfolding padding_in
no_padding content bad = cond-false (ends_in_padding content) _ _ bad

padding_again_err : (bytes : List ℕ) → HasRtcpFault bytes Padding → packet_at bytes ≡ Err Padding
unfolding packet_at
padding_again_err bytes h =
    let header : 4 ≤ length bytes = h.0.0.0 in
    let padded : is_padded bytes ≡ true = eq-eqb _ _ h.1 in
    let all : size_of bytes ≡ length bytes = h.2 in
    let found : content_at bytes ≡ Ok (drop 4 bytes, []) = content_again bytes (drop 4 bytes) [] (record {
      header = header;
      version = h.0.0.1;
      length_is = length-drop 4 bytes ∙ omega arith;
      bytes_are = sym (append-nil (drop 4 bytes));
      last = λ _. refl;
    }) in
    ap (λ r. r >>= after_content bytes) found
    ∙ ap (λ b. padding_in b (drop 4 bytes) >>= after_padding bytes (drop 4 bytes, [])) padded
    ∙ ap (λ r. r >>= after_padding bytes (drop 4 bytes, [])) (no_padding (drop 4 bytes) h.3)

option_cases : (o : Option RtcpFault) → (o ≡ None) ⊎ ((f : RtcpFault) × (o ≡ Some f))
option_cases None = inl refl
option_cases (Some f) = inr (f, refl)

-- the body within the frame is looked at, and what it lacks is the fault
frame_again : (bytes body : List ℕ) (f : RtcpFault) → HasFrame bytes body → fault_in (slice_index bytes 1) (slice_index bytes 0 % 32) body ≡ Some f → packet_at bytes ≡ Err f
unfolding packet_at
frame_again bytes body f h e =
    let size = size_of bytes in
    let header : 4 ≤ length bytes = h.within.0.0 in
    let fits : size ≤ length bytes = h.within.1 in
    let content = body ++ h.padding in
    let n = length h.padding in
    let rest = drop (size - 4) (drop 4 bytes) in
    let joined : drop 4 bytes ≡ content ++ rest = sym (take-append-drop (size - 4) (drop 4 bytes)) ∙ ap (λ y. y ++ rest) h.content in
    let long : length content ≡ size - 4 = sym (ap length h.content) ∙ length-take (size - 4) (drop 4 bytes) ∙ ap (λ (m : ℕ). min (size - 4) m) (length-drop 4 bytes) ∙ omega arith in
    let says : is_padded bytes ≡ true → SaysPadded bytes = λ t. eqb-true _ _ t in
    let denies : is_padded bytes ≡ false → SaysPadded bytes → ⊥ = λ t. eqb-false _ _ t in
    let parts : length content ≡ length body + n = length-append body h.padding in
    let found : content_at bytes ≡ Ok (content, rest) = content_again bytes content rest (record {
      header = header;
      version = h.within.0.1;
      length_is = omega arith;
      bytes_are = joined;
      last = λ t. let ends : size ≡ length bytes = h.last (says t) in drop_all (size - 4) (drop 4 bytes) (omega (arith, length-drop 4 bytes));
    }) in
    let pad : padding_in (is_padded bytes) content ≡ Ok n = padding_again (is_padded bytes) content n (record {
      within = omega arith;
      whole = h.whole;
      some = λ t. h.some (says t);
      none = λ t. ap length (h.none (denies t));
      last = λ t. h.count (says t);
    }) in
    let at : length body ≡ length content - n = omega arith in
    let front : take (length content - n) content ≡ body = take_at body h.padding (length content - n) at in
    let kind = slice_index bytes 1 in
    let count = slice_index bytes 0 % 32 in
    ap (λ r. r >>= after_content bytes) found
    ∙ ap (λ r. r >>= after_padding bytes (content, rest)) pad
    ∙ ap (λ y. ends_with kind count y (drop (length content - n) content) rest) front
    ∙ ap (λ o. unless o (record { count = count; kind = kind; body = body; padding = drop (length content - n) content }) >>= λ p. Ok (p, rest)) e

-- a body that lacks something has the fault of its type
lacks_by_kind : (kind count : ℕ) (body : List ℕ) → length body % 4 ≡ 0 → (IsBody kind count body → ⊥)
    → ((kind ≡ 202) × (fault_in kind count body ≡ Some SdesUnended)) ⊎ ((kind ≡ 202 → ⊥) × (fault_in kind count body ≡ Some CountOver))
lacks_by_kind kind count body whole lacks = elim (option_cases (fault_in kind count body)) [
  | inl none ↦ absurd (lacks (body_takes kind count body whole none))
  | inr some ↦ elim (fault_kind kind count body some.0 some.1) [
    | inl k ↦ inl (k.0, some.1 ∙ ap Some (sym k.1))
    | inr k ↦ inr (k.0, some.1 ∙ ap Some (sym k.1))
  ]
]

frame_whole : (bytes body : List ℕ) → HasFrame bytes body → length body % 4 ≡ 0
frame_whole bytes body h =
    let size = size_of bytes in
    let header : 4 ≤ length bytes = h.within.0.0 in
    let fits : size ≤ length bytes = h.within.1 in
    let long : length (body ++ h.padding) ≡ size - 4 = sym (ap length h.content) ∙ length-take (size - 4) (drop 4 bytes) ∙ ap (λ (m : ℕ). min (size - 4) m) (length-drop 4 bytes) ∙ omega arith in
    let parts : length (body ++ h.padding) ≡ length body + length h.padding = length-append body h.padding in
    let whole : length h.padding % 4 ≡ 0 = h.whole in
    omega arith

pub fault_again : (bytes : List ℕ) (f : RtcpFault) → HasRtcpFault bytes f → packet_at bytes ≡ Err f
unfolding packet_at
fault_again bytes Short h = packet_short bytes h
fault_again bytes Version h = ap (λ r. r >>= after_content bytes) (content_version bytes h)
fault_again bytes Length h = ap (λ r. r >>= after_content bytes) (content_beyond bytes h)
fault_again bytes PaddingNotLast h = ap (λ r. r >>= after_content bytes) (content_early bytes h)
fault_again bytes Padding h = padding_again_err bytes h
fault_again bytes CountOver h = elim (lacks_by_kind _ _ h.0 (frame_whole bytes h.0 h.1) h.3) [
  | inl k ↦ absurd (h.2 k.0)
  | inr k ↦ frame_again bytes h.0 CountOver h.1 k.1
]
fault_again bytes SdesUnended h = elim (lacks_by_kind _ _ h.0 (frame_whole bytes h.0 h.1) h.3) [
  | inl k ↦ frame_again bytes h.0 SdesUnended h.1 k.1
  | inr k ↦ absurd (k.0 h.2)
]
