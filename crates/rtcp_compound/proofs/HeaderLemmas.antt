-- What a header and a padding say, read both ways.
use Rattle.std.proofs.Common.{◌≡◌, ◌∙◌, ℕ, ◌+◌, ◌-◌, ◌*◌, ◌/◌, ◌%◌, ◌<◌, ◌≤◌, ◌&&◌, inl, inr, Bool, true, false, not, List, [], ◌++◌, length, take, drop, slice_index, Option, Some, None, Result, Ok, Err, cond, nat_lt, refl, sym, ap, ap₂, subst, arith, length-append}
use Rattle.std.specs.Prelude.{◌==◌}
use Rattle.std.proofs.lemmas.Bool.{cond-true, cond-false, cases_Bool, eq-eqb, eqb-true, ltb-true, ltb-false, leb-true, lt-ltb, le-ltb, le-leb, not-false, and_parts, and_from, and_cases, and_left, and_right, both_ways, false≢true, true≢false}
use Rattle.std.proofs.lemmas.List.{take-append-drop, length-take, length-drop, take_at, drop_at, drop-drop, drop_all}
use Rattle.byteorder.specs.Endian.{big_number}
use Rattle.rtcp_compound.specs.declared.fault.RtcpFault.{RtcpFault}
use Rattle.rtcp_compound.specs.Grammar.{RtcpPacket, last_byte}
use Rattle.rtcp_compound.specs.Fault.{ends_in_padding, size_of}
use Rattle.rtcp_compound.specs.Reading.{◌>>=◌, content_at, padding_in, is_padded, unless}

-- ---- reading in steps

pub bind_ok : {A B : Type 0} (r : Result A RtcpFault) (f : A → Result B RtcpFault) (y : B) → (r >>= f) ≡ Ok y → (x : A) × (r ≡ Ok x) × (f x ≡ Ok y)
bind_ok (Ok x) f y e = (x, refl, e)
bind_ok (Err d) f y e = cc

pub guard_ok : {A : Type 0} (b : Bool) (d : RtcpFault) (r : Result A RtcpFault) (y : A) → cond b (Err d) r ≡ Ok y → (b ≡ false) × (r ≡ Ok y)
guard_ok true d r y e = cc
guard_ok false d r y e = (refl, e)

otherwise_ok : {A : Type 0} (b : Bool) (d : RtcpFault) (r : Result A RtcpFault) (y : A) → cond b r (Err d) ≡ Ok y → (b ≡ true) × (r ≡ Ok y)
otherwise_ok true d r y e = (refl, e)
otherwise_ok false d r y e = cc

pub same_ok : {A : Type 0} (x y : A) → ◌≡◌ {A = Result A RtcpFault} (Ok x) (Ok y) → x ≡ y
same_ok x y e = cc

pub unless_ok : (o : Option RtcpFault) (p q : RtcpPacket) → unless o p ≡ Ok q → (o ≡ None) × (p ≡ q)
unless_ok None p q e = (refl, same_ok p q e)
unless_ok (Some f) p q e = cc

-- ---- the content after a header

pub record HasContent (bytes content rest : List ℕ) : Type 0 where
  pub header : 4 ≤ length bytes
  pub version : slice_index bytes 0 / 64 ≡ 2
  pub length_is : length content ≡ 4 * big_number 2 (drop 2 bytes)
  pub bytes_are : drop 4 bytes ≡ content ++ rest
  pub last : is_padded bytes ≡ true → rest ≡ []

split_content : (bytes : List ℕ) (m : ℕ) → drop 4 bytes ≡ take (4 * (m + 1) - 4) (drop 4 bytes) ++ drop (4 * (m + 1)) bytes
split_content bytes m =
    let four : 4 + (4 * (m + 1) - 4) ≡ 4 * (m + 1) = omega arith in
    sym (take-append-drop (4 * (m + 1) - 4) (drop 4 bytes)) ∙ ap (λ r. take (4 * (m + 1) - 4) (drop 4 bytes) ++ r) (drop-drop (4 * (m + 1) - 4) 4 bytes ∙ ap (λ n. drop n bytes) four)

padded_last : (bytes : List ℕ) (size : ℕ) → is_padded bytes ≡ true → (is_padded bytes && nat_lt size (length bytes)) ≡ false → drop size bytes ≡ []
padded_last bytes size padded last = elim (and_cases _ _ last) [ inl unpadded ↦ absurd (both_ways _ unpadded padded) | inr ends ↦ drop_all size bytes (ltb-false _ _ ends) ]

pub content_takes : (bytes : List ℕ) (x : List ℕ × List ℕ) → content_at bytes ≡ Ok x → HasContent bytes x.0 x.1
unfolding content_at
content_takes bytes x e =
    let m = big_number 2 (drop 2 bytes) in
    let short = guard_ok _ _ _ _ e in
    let version = guard_ok _ _ _ _ short.1 in
    let long = guard_ok _ _ _ _ version.1 in
    let last = guard_ok _ _ _ _ long.1 in
    let header : 4 ≤ length bytes = ltb-false _ _ short.0 in
    let fits : 4 * (m + 1) ≤ length bytes = ltb-false _ _ long.0 in
    let P : List ℕ × List ℕ → Type 0 = λ y. HasContent bytes y.0 y.1 in
    subst P (same_ok _ _ last.1) (record {
      header = header;
      version = eqb-true _ _ (not-false _ version.0);
      length_is = simp (length-take, length-drop) (omega arith);
      bytes_are = split_content bytes m;
      last = λ padded. padded_last bytes (4 * (m + 1)) padded last.0;
    })

pub content_again : (bytes content rest : List ℕ) → HasContent bytes content rest → content_at bytes ≡ Ok (content, rest)
unfolding content_at
content_again bytes content rest h =
    let m = big_number 2 (drop 2 bytes) in
    let header : 4 ≤ length bytes = h.header in
    let all : length bytes - 4 ≡ length content + length rest = sym (length-drop 4 bytes) ∙ ap length h.bytes_are ∙ length-append content rest in
    let content_is : length content ≡ 4 * (m + 1) - 4 = omega (arith, h.length_is) in
    let fits : 4 * (m + 1) ≤ length bytes = omega (arith, h.length_is) in
    let four : 4 + (4 * (m + 1) - 4) ≡ 4 * (m + 1) = omega arith in
    let front : take (4 * (m + 1) - 4) (drop 4 bytes) ≡ content = ap (take (4 * (m + 1) - 4)) h.bytes_are ∙ take_at content rest _ content_is in
    let behind : drop (4 * (m + 1)) bytes ≡ rest =
    sym (drop-drop (4 * (m + 1) - 4) 4 bytes ∙ ap (λ n. drop n bytes) four) ∙ ap (drop (4 * (m + 1) - 4)) h.bytes_are ∙ drop_at content rest _ content_is in
    let last : (is_padded bytes && nat_lt (4 * (m + 1)) (length bytes)) ≡ false =
    elim (cases_Bool (is_padded bytes)) [
      | inl padded ↦ and_right _ _ (le-ltb (4 * (m + 1)) (length bytes) (omega (arith, ap length (h.last padded), h.length_is)))
      | inr unpadded ↦ and_left _ _ unpadded
    ] in
    cond-false (nat_lt (length bytes) 4) _ _ (le-ltb _ _ header)
    ∙ cond-false (not (slice_index bytes 0 / 64 == 2)) _ _ (ap not (eq-eqb _ _ h.version))
    ∙ cond-false (nat_lt (length bytes) (size_of bytes)) _ _ (le-ltb _ _ fits)
    ∙ cond-false (is_padded bytes && nat_lt (size_of bytes) (length bytes)) _ _ last
    ∙ ap₂ (λ (x y : List ℕ). Ok (x, y)) front behind

-- ---- the padding that ends a content

pub record HasPadding (padded : Bool) (content : List ℕ) (n : ℕ) : Type 0 where
  pub within : n ≤ length content
  pub whole : n % 4 ≡ 0
  pub some : padded ≡ true → 0 < n
  pub none : padded ≡ false → n ≡ 0
  pub last : padded ≡ true → slice_index content (length content - 1) ≡ n

pub padding_takes : (padded : Bool) (content : List ℕ) (n : ℕ) → padding_in padded content ≡ Ok n → HasPadding padded content n
unfolding padding_in
padding_takes false content n e =
    let P : ℕ → Type 0 = λ m. HasPadding false content m in
    subst P (same_ok _ _ e) (record {
      within = omega arith;
      whole = refl;
      some = λ f. absurd (false≢true f);
      none = λ _. refl;
      last = λ f. absurd (false≢true f);
    })
padding_takes true content n e =
    let found = otherwise_ok (ends_in_padding content) _ _ _ e in
    let parts = and_parts _ _ found.0 in
    let counts = and_parts _ _ parts.0 in
    let P : ℕ → Type 0 = λ m. HasPadding true content m in
    subst P (same_ok _ _ found.1) (record {
      within = leb-true _ _ parts.1;
      whole = eqb-true _ _ counts.1;
      some = λ _. ltb-true _ _ counts.0;
      none = λ f. absurd (true≢false f);
      last = λ _. refl;
    })

pub padding_again : (padded : Bool) (content : List ℕ) (n : ℕ) → HasPadding padded content n → padding_in padded content ≡ Ok n
unfolding padding_in
padding_again false content n h = ap Ok (sym (h.none refl))
padding_again true content n h =
    let last = last_byte content in
    let is : last ≡ n = h.last refl in
    let below : 0 < n = h.some refl in
    let some : 0 < last = omega arith in
    let whole : last % 4 ≡ 0 = ap (λ (m : ℕ). m % 4) is ∙ h.whole in
    let within : last ≤ length content = omega (arith, h.within) in
    let ends : ends_in_padding content ≡ true = and_from _ _ (and_from _ _ (lt-ltb _ _ some) (eq-eqb _ _ whole)) (le-leb _ _ within) in
    cond-true (ends_in_padding content) _ _ ends ∙ ap Ok is
