-- What is read is what the grammar says, and what the grammar says is read.
use Rattle.std.proofs.Common.{◌≡◌, ◌∙◌, ℕ, zero, suc, ◌-◌, ◌%◌, ◌≤◌, ◌⊎◌, inl, inr, true, false, List, [], ◌∷◌, ◌++◌, length, take, drop, Result, Ok, Err, refl, sym, ap, ap₂, subst, arith, length-drop}
use Rattle.std.specs.Prelude.{◌==◌, ◌&&◌, ◌↔◌, IfOk, IsOkAnd, IsErrOf}
use Rattle.std.specs.List.{flat_map, All}
use Rattle.std.proofs.lemmas.Bool.{cond-true, cond-false, cond_both, eq-eqb, ne_eqb, eqb-true, eqb-false, and_parts, and_from, both_ways, false_from_ne_true}
use Rattle.std.proofs.lemmas.List.{take_rest}
use Rattle.byteorder.specs.Endian.{big_bytes, big_number}
use Rattle.rtcp_feedback.specs.declared.fault.FbFault.{FbFault}
use Rattle.rtcp_feedback.specs.declared.fault.FbFault.TheVariants.{Short, OddFci}
use Rattle.rtcp_feedback.specs.declared.feedback.Feedback.{Feedback}
use Rattle.rtcp_feedback.specs.declared.nack.Nack.{Nack}
use Rattle.rtcp_feedback.specs.declared.tmmb.TmmbrEntry.{TmmbrEntry}
use Rattle.rtcp_feedback.specs.Grammar.{Message, nack, pli, tmmbr, tmmbn, unknown, IsNack, IsEntry, nack_bytes, entry_bytes, IsBody, IsKnown, ReadsFeedback}
use Rattle.rtcp_feedback.specs.Fault.{HasOddFci}
use Rattle.rtcp_feedback.specs.Reading.{nacks_in, entries_in, message_of, message_at, Gives}
use Rattle.rtcp_feedback.proofs.NumberLemmas.{IsBytes, four_bytes, four_fit, four_again}
use Rattle.rtcp_feedback.proofs.EntryLemmas.{nacks_bytes, nacks_fit, nacks_again, length-nacks, entries_bytes, entries_fit, entries_again, length-entries}

-- ---- bodies

body_again : (body : List ℕ) → 8 ≤ length body → IsBytes body → IsBody body (big_number 4 body) (big_number 4 (drop 4 body)) (drop 8 body)
body_again [] long fit = absurd (omega arith)
body_again (a ∷ []) long fit = absurd (omega arith)
body_again (a ∷ (b ∷ [])) long fit = absurd (omega arith)
body_again (a ∷ (b ∷ (c ∷ []))) long fit = absurd (omega arith)
body_again (a ∷ (b ∷ (c ∷ (d ∷ [])))) long fit = absurd (omega arith)
body_again (a ∷ (b ∷ (c ∷ (d ∷ (e ∷ []))))) long fit = absurd (omega arith)
body_again (a ∷ (b ∷ (c ∷ (d ∷ (e ∷ (f ∷ [])))))) long fit = absurd (omega arith)
body_again (a ∷ (b ∷ (c ∷ (d ∷ (e ∷ (f ∷ (g ∷ []))))))) long fit = absurd (omega arith)
body_again (a ∷ (b ∷ (c ∷ (d ∷ (e ∷ (f ∷ (g ∷ (h ∷ xs)))))))) long fit =
    record {
      sender_fits = four_fit a b c d (fit 0) (fit 1) (fit 2) (fit 3);
      media_fits = four_fit e f g h (fit 4) (fit 5) (fit 6) (fit 7);
      bytes_are = sym (ap₂ (λ (y z : List ℕ). y ++ (z ++ xs)) (four_bytes a b c d (fit 0) (fit 1) (fit 2) (fit 3)) (four_bytes e f g h (fit 4) (fit 5) (fit 6) (fit 7)));
    }

pub record HasParts (body : List ℕ) (s m : ℕ) (fci : List ℕ) : Type 0 where
  pub long : 8 ≤ length body
  pub sender_is : big_number 4 body ≡ s
  pub media_is : big_number 4 (drop 4 body) ≡ m
  pub fci_is : drop 8 body ≡ fci

body_parts : (body : List ℕ) (s m : ℕ) (fci : List ℕ) → IsBody body s m fci → HasParts body s m fci
body_parts body s m fci h = record {
  long = omega (arith, ap length h.bytes_are);
  sender_is = ap (big_number 4) h.bytes_are ∙ four_again s (big_bytes 4 m ++ fci) h.sender_fits;
  media_is = ap (λ (y : List ℕ). big_number 4 (drop 4 y)) h.bytes_are ∙ four_again m fci h.media_fits;
  fci_is = ap (drop 8) h.bytes_are;
}

drop_bytes : (n : ℕ) (xs : List ℕ) → IsBytes xs → IsBytes (drop n xs)
drop_bytes zero xs fit = fit
drop_bytes (suc n) [] fit = λ k. omega arith
drop_bytes (suc n) (x ∷ xs) fit = drop_bytes n xs (λ k. fit (suc k))

-- ---- what an FMT and a type mean

same_ok : (x y : Message) → ◌≡◌ {A = Result Message FbFault} (Ok x) (Ok y) → x ≡ y
same_ok x y e = cc

same_err : (x y : FbFault) → ◌≡◌ {A = Result Message FbFault} (Err x) (Err y) → x ≡ y
same_err x y e = cc

apart : (x : FbFault) (y : Message) → ◌≡◌ {A = Result Message FbFault} (Err x) (Ok y) → ⊥
apart x y e = cc

is_test : (kind k fmt f : ℕ) → ((kind == k) && (fmt == f)) ≡ true → (kind ≡ k) × (fmt ≡ f)
is_test kind k fmt f e = let parts = and_parts _ _ e in (eqb-true _ _ parts.0, eqb-true _ _ parts.1)

not_test : (kind k fmt f : ℕ) → ((kind == k) && (fmt == f)) ≡ false → kind ≡ k → fmt ≡ f → ⊥
not_test kind k fmt f e is fm = both_ways _ e (and_from _ _ (eq-eqb kind k is) (eq-eqb fmt f fm))

no_test : (kind k fmt f : ℕ) → (kind ≡ k → fmt ≡ f → ⊥) → ((kind == k) && (fmt == f)) ≡ false
no_test kind k fmt f h = false_from_ne_true _ (λ e. let is = is_test kind k fmt f e in h is.0 is.1)

not_known : (fmt kind : ℕ) → ((kind == 205) && (fmt == 1)) ≡ false → ((kind == 205) && (fmt == 3)) ≡ false → ((kind == 205) && (fmt == 4)) ≡ false
    → ((kind == 206) && (fmt == 1)) ≡ false → IsKnown fmt kind → ⊥
not_known fmt kind a b c d (inl (is, inl fm)) = not_test kind 205 fmt 1 a is fm
not_known fmt kind a b c d (inl (is, inr (inl fm))) = not_test kind 205 fmt 3 b is fm
not_known fmt kind a b c d (inl (is, inr (inr fm))) = not_test kind 205 fmt 4 c is fm
not_known fmt kind a b c d (inr (is, fm)) = not_test kind 206 fmt 1 d is fm

-- ---- what is read is what the grammar says

takes : (fmt kind s m : ℕ) (fci body : List ℕ) → IsBody body s m fci → IsBytes fci
    → (msg : Message) → message_at fmt kind s m fci ≡ Ok msg → ReadsFeedback fmt kind body msg
unfolding message_at
takes fmt kind s m fci body is fit =
    let P : Result Message FbFault → Type 0 = λ r. (msg : Message) → r ≡ Ok msg → ReadsFeedback fmt kind body msg in
    let holds : (x : Message) → ReadsFeedback fmt kind body x → P (Ok x) = λ x here msg e. subst (λ (y : Message). ReadsFeedback fmt kind body y) (same_ok x msg e) here in
    let never : P (Err OddFci) = λ msg e. absurd (apart OddFci msg e) in
    let of_nacks : length fci % 4 ≡ 0 → IsBody body s m (flat_map nack_bytes (nacks_in fci)) = λ whole. subst (λ (y : List ℕ). IsBody body s m y) (sym (nacks_bytes fci whole fit)) is in
    let of_entries : length fci % 8 ≡ 0 → IsBody body s m (flat_map entry_bytes (entries_in fci)) = λ whole. subst (λ (y : List ℕ). IsBody body s m y) (sym (entries_bytes fci whole fit)) is in
    cond_both ((kind == 205) && (fmt == 1)) _ _ P
    (λ t. let k = is_test kind 205 fmt 1 t in
    cond_both (length fci % 4 == 0) _ _ P (λ whole. holds (nack s m (nacks_in fci)) (k.0, k.1, nacks_fit fci fit, of_nacks (eqb-true _ _ whole))) (λ _. never))
    (λ a. cond_both ((kind == 205) && (fmt == 3)) _ _ P
    (λ t. let k = is_test kind 205 fmt 3 t in
    cond_both (length fci % 8 == 0) _ _ P (λ whole. holds (tmmbr s (entries_in fci)) (k.0, k.1, entries_fit fci fit, (m, of_entries (eqb-true _ _ whole)))) (λ _. never))
    (λ b. cond_both ((kind == 205) && (fmt == 4)) _ _ P
    (λ t. let k = is_test kind 205 fmt 4 t in
    cond_both (length fci % 8 == 0) _ _ P (λ whole. holds (tmmbn s (entries_in fci)) (k.0, k.1, entries_fit fci fit, (m, of_entries (eqb-true _ _ whole)))) (λ _. never))
    (λ c. cond_both ((kind == 206) && (fmt == 1)) _ _ P
    (λ t. let k = is_test kind 206 fmt 1 t in holds (pli s m) (k.0, k.1, (fci, is)))
    (λ d. holds (unknown s) (not_known fmt kind a b c d, (m, fci, is))))))

-- ---- what the grammar says is read

-- what a body's bytes are read fm
abbrev pub message_in : ℕ → ℕ → List ℕ → Result Message FbFault
message_in fmt kind body = message_at fmt kind (big_number 4 body) (big_number 4 (drop 4 body)) (drop 8 body)

at_parts : (fmt kind f k : ℕ) (body : List ℕ) (s m : ℕ) (fci : List ℕ) → fmt ≡ f → kind ≡ k → HasParts body s m fci → message_in fmt kind body ≡ message_at f k s m fci
at_parts fmt kind f k body s m fci is fm h =
    ap₂ (λ (x y : ℕ). message_in x y body) is fm
    ∙ ap₂ (λ (x y : ℕ). message_at f k x y (drop 8 body)) h.sender_is h.media_is
    ∙ ap (message_at f k s m) h.fci_is

again_nack : (s m : ℕ) (es : List Nack) → All IsNack es → message_at 1 205 s m (flat_map nack_bytes es) ≡ Ok (nack s m es)
unfolding message_at
again_nack s m es fit =
    let whole : length (flat_map nack_bytes es) % 4 ≡ 0 = omega (arith, length-nacks es) in
    cond-true (length (flat_map nack_bytes es) % 4 == 0) _ _ (eq-eqb _ _ whole) ∙ ap (λ ns. Ok (nack s m ns)) (nacks_again es fit)

again_tmmbr : (s m : ℕ) (es : List TmmbrEntry) → All IsEntry es → message_at 3 205 s m (flat_map entry_bytes es) ≡ Ok (tmmbr s es)
unfolding message_at
again_tmmbr s m es fit =
    let whole : length (flat_map entry_bytes es) % 8 ≡ 0 = omega (arith, length-entries es) in
    cond-true (length (flat_map entry_bytes es) % 8 == 0) _ _ (eq-eqb _ _ whole) ∙ ap (λ ns. Ok (tmmbr s ns)) (entries_again es fit)

again_tmmbn : (s m : ℕ) (es : List TmmbrEntry) → All IsEntry es → message_at 4 205 s m (flat_map entry_bytes es) ≡ Ok (tmmbn s es)
unfolding message_at
again_tmmbn s m es fit =
    let whole : length (flat_map entry_bytes es) % 8 ≡ 0 = omega (arith, length-entries es) in
    cond-true (length (flat_map entry_bytes es) % 8 == 0) _ _ (eq-eqb _ _ whole) ∙ ap (λ ns. Ok (tmmbn s ns)) (entries_again es fit)

again_pli : (s m : ℕ) (fci : List ℕ) → message_at 1 206 s m fci ≡ Ok (pli s m)
unfolding message_at
again_pli s m fci = refl

again_unknown : (fmt kind s m : ℕ) (fci : List ℕ) → (IsKnown fmt kind → ⊥) → message_at fmt kind s m fci ≡ Ok (unknown s)
unfolding message_at
again_unknown fmt kind s m fci other =
    cond-false ((kind == 205) && (fmt == 1)) _ _ (no_test kind 205 fmt 1 (λ is fm. other (inl (is, inl fm))))
    ∙ cond-false ((kind == 205) && (fmt == 3)) _ _ (no_test kind 205 fmt 3 (λ is fm. other (inl (is, inr (inl fm)))))
    ∙ cond-false ((kind == 205) && (fmt == 4)) _ _ (no_test kind 205 fmt 4 (λ is fm. other (inl (is, inr (inr fm)))))
    ∙ cond-false ((kind == 206) && (fmt == 1)) _ _ (no_test kind 206 fmt 1 (λ is fm. other (inr (is, fm))))

pub reads_long : (fmt kind : ℕ) (body : List ℕ) (msg : Message) → ReadsFeedback fmt kind body msg → 8 ≤ length body
reads_long fmt kind body (nack s m es) (is, fm, fit, b) = (body_parts body s m (flat_map nack_bytes es) b).long
reads_long fmt kind body (pli s m) (is, fm, (fci, b)) = (body_parts body s m fci b).long
reads_long fmt kind body (tmmbr s es) (is, fm, fit, (m, b)) = (body_parts body s m (flat_map entry_bytes es) b).long
reads_long fmt kind body (tmmbn s es) (is, fm, fit, (m, b)) = (body_parts body s m (flat_map entry_bytes es) b).long
reads_long fmt kind body (unknown s) (other, (m, fci, b)) = (body_parts body s m fci b).long

pub again : (fmt kind : ℕ) (body : List ℕ) (msg : Message) → ReadsFeedback fmt kind body msg → message_in fmt kind body ≡ Ok msg
again fmt kind body (nack s m es) (is, fm, fit, b) = at_parts fmt kind 1 205 body s m _ fm is (body_parts body s m _ b) ∙ again_nack s m es fit
again fmt kind body (pli s m) (is, fm, (fci, b)) = at_parts fmt kind 1 206 body s m fci fm is (body_parts body s m fci b) ∙ again_pli s m fci
again fmt kind body (tmmbr s es) (is, fm, fit, (m, b)) = at_parts fmt kind 3 205 body s m _ fm is (body_parts body s m _ b) ∙ again_tmmbr s m es fit
again fmt kind body (tmmbn s es) (is, fm, fit, (m, b)) = at_parts fmt kind 4 205 body s m _ fm is (body_parts body s m _ b) ∙ again_tmmbn s m es fit
again fmt kind body (unknown s) (other, (m, fci, b)) = at_parts fmt kind fmt kind body s m fci refl refl (body_parts body s m fci b) ∙ again_unknown fmt kind s m fci other

-- ---- odd lengths

-- an FCI of this length ends within an entry
abbrev pub IsOdd : ℕ → ℕ → ℕ → Type 0
IsOdd fmt kind n = (kind ≡ 205) × (((fmt ≡ 1) × (n % 4 ≡ 0 → ⊥)) ⊎ (((fmt ≡ 3) ⊎ (fmt ≡ 4)) × (n % 8 ≡ 0 → ⊥)))

odd_takes : (fmt kind s m : ℕ) (fci : List ℕ) → (f : FbFault) → message_at fmt kind s m fci ≡ Err f → (f ≡ OddFci) × IsOdd fmt kind (length fci)
unfolding message_at
odd_takes fmt kind s m fci =
    let P : Result Message FbFault → Type 0 = λ r. (f : FbFault) → r ≡ Err f → (f ≡ OddFci) × IsOdd fmt kind (length fci) in
    let never : (x : Message) → P (Ok x) = λ x f e. absurd (apart f x (sym e)) in
    let odd : IsOdd fmt kind (length fci) → P (Err OddFci) = λ here f e. (same_err f OddFci (sym e), here) in
    cond_both ((kind == 205) && (fmt == 1)) _ _ P
    (λ t. let k = is_test kind 205 fmt 1 t in
    cond_both (length fci % 4 == 0) _ _ P (λ _. never _) (λ other. odd (k.0, inl (k.1, eqb-false _ _ other))))
    (λ a. cond_both ((kind == 205) && (fmt == 3)) _ _ P
    (λ t. let k = is_test kind 205 fmt 3 t in
    cond_both (length fci % 8 == 0) _ _ P (λ _. never _) (λ other. odd (k.0, inr (inl k.1, eqb-false _ _ other))))
    (λ b. cond_both ((kind == 205) && (fmt == 4)) _ _ P
    (λ t. let k = is_test kind 205 fmt 4 t in
    cond_both (length fci % 8 == 0) _ _ P (λ _. never _) (λ other. odd (k.0, inr (inr k.1, eqb-false _ _ other))))
    (λ c. cond_both ((kind == 206) && (fmt == 1)) _ _ P (λ _. never _) (λ _. never _))))

odd_again : (fmt kind s m : ℕ) (fci : List ℕ) → IsOdd fmt kind (length fci) → message_at fmt kind s m fci ≡ Err OddFci
unfolding message_at
odd_again fmt kind s m fci (is, inl (fm, other)) =
    ap₂ (λ (x y : ℕ). message_at x y s m fci) fm is ∙ cond-false (length fci % 4 == 0) _ _ (ne_eqb _ _ other)
odd_again fmt kind s m fci (is, inr (inl fm, other)) =
    ap₂ (λ (x y : ℕ). message_at x y s m fci) fm is ∙ cond-false (length fci % 8 == 0) _ _ (ne_eqb _ _ other)
odd_again fmt kind s m fci (is, inr (inr fm, other)) =
    ap₂ (λ (x y : ℕ). message_at x y s m fci) fm is ∙ cond-false (length fci % 8 == 0) _ _ (ne_eqb _ _ other)

has_odd : (fmt kind : ℕ) (body : List ℕ) → 8 ≤ length body → IsOdd fmt kind (length (drop 8 body)) → HasOddFci fmt kind body
has_odd fmt kind body long h =
    let h2 : IsOdd fmt kind (length body - 8) = subst (λ (n : ℕ). IsOdd fmt kind n) (length-drop 8 body) h in
    (long, h2.0, h2.1)

is_odd : (fmt kind : ℕ) (body : List ℕ) → HasOddFci fmt kind body → IsOdd fmt kind (length (drop 8 body))
is_odd fmt kind body h = subst (λ (n : ℕ). IsOdd fmt kind n) (sym (length-drop 8 body)) (h.1, h.2)

-- ---- the answers of a call that gives what is read

gives_ok : (r : Result Feedback FbFault) (read : Result Message FbFault) (msg : Message) → Gives message_of r read → read ≡ Ok msg → IsOkAnd r (λ found. message_of found ≡ msg)
gives_ok (Ok x) read msg g e = same_ok _ _ (sym g ∙ e)
gives_ok (Err f) read msg g e = absurd (apart f msg (sym g ∙ e))

gives_err : (r : Result Feedback FbFault) (read : Result Message FbFault) (f : FbFault) → Gives message_of r read → read ≡ Err f → r ≡ Err f
gives_err (Ok x) read f g e = absurd (apart f _ (sym e ∙ g))
gives_err (Err d) read f g e = ap Err (same_err d f (sym g ∙ e))

gives_back : (r : Result Feedback FbFault) (read : Result Message FbFault) (f : FbFault) → Gives message_of r read → r ≡ Err f → read ≡ Err f
gives_back r read f g e = let G : Result Feedback FbFault → Type 0 = λ x. Gives message_of x read in subst G e g

-- the bytes of a body are read, and this is given
pub record IsRead (fmt kind : ℕ) (body : List ℕ) (r : Result Feedback FbFault) : Type 0 where
  pub long : 8 ≤ length body
  pub fit : IsBytes body
  pub gives : Gives message_of r (message_in fmt kind body)

pub is_read : (fmt kind s m : ℕ) (body fci : List ℕ) (r : Result Feedback FbFault) → 8 ≤ length body → IsBytes body → s ≡ big_number 4 body
    → m ≡ big_number 4 (take (length body - 4) (drop 4 body)) → fci ≡ take (length body - 8) (drop 8 body)
    → Gives message_of r (message_at fmt kind s m fci) → IsRead fmt kind body r
is_read fmt kind s m body fci r long fit hs hm hf gives =
    let parts : HasParts body s m fci = record {
      long = long;
      sender_is = sym hs;
      media_is = sym (hm ∙ ap (big_number 4) (take_rest body 4));
      fci_is = sym (hf ∙ take_rest body 8);
    } in
    let G : Result Message FbFault → Type 0 = λ read. Gives message_of r read in
    record { long = long; fit = fit; gives = subst G (sym (at_parts fmt kind fmt kind body s m fci refl refl parts)) gives }

pub read_all : (fmt kind : ℕ) (body : List ℕ) (r : Result Feedback FbFault) → IsRead fmt kind body r → IfOk r (λ found. ReadsFeedback fmt kind body (message_of found))
read_all fmt kind body (Ok x) h =
    takes fmt kind (big_number 4 body) (big_number 4 (drop 4 body)) (drop 8 body) body (body_again body h.long h.fit) (drop_bytes 8 body h.fit) (message_of x) h.gives
read_all fmt kind body (Err f) h = tt

pub read_every : (fmt kind : ℕ) (body : List ℕ) (r : Result Feedback FbFault) → IsRead fmt kind body r → (msg : Message) → ReadsFeedback fmt kind body msg → IsOkAnd r (λ found. message_of found ≡ msg)
read_every fmt kind body r h msg says = gives_ok r _ msg h.gives (again fmt kind body msg says)

odd_only : (fmt kind : ℕ) (body : List ℕ) (r : Result Feedback FbFault) (f : FbFault) → IsRead fmt kind body r → r ≡ Err f → (f ≡ OddFci) × IsOdd fmt kind (length (drop 8 body))
odd_only fmt kind body r f h e = odd_takes fmt kind (big_number 4 body) (big_number 4 (drop 4 body)) (drop 8 body) f (gives_back r _ f h.gives e)

short_odd : Short ≡ OddFci → ⊥
short_odd e = cc

pub never_short : (fmt kind : ℕ) (body : List ℕ) (r : Result Feedback FbFault) → IsRead fmt kind body r → IsErrOf r Short → ⊥
never_short fmt kind body r h e = short_odd (odd_only fmt kind body r Short h e).0

pub odd_exactly : (fmt kind : ℕ) (body : List ℕ) (r : Result Feedback FbFault) → IsRead fmt kind body r → IsErrOf r OddFci ↔ HasOddFci fmt kind body
odd_exactly fmt kind body r h = (
  λ e. has_odd fmt kind body h.long (odd_only fmt kind body r OddFci h e).1,
  λ odd. gives_err r _ OddFci h.gives (odd_again fmt kind (big_number 4 body) (big_number 4 (drop 4 body)) (drop 8 body) (is_odd fmt kind body odd)),
)
