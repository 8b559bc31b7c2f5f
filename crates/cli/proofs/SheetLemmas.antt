-- What one entry more adds to the requests and to the certificate.
use Rattle.std.proofs.Common.{◌≡◌, ◌∙◌, ◌<◌, ◌+◌, ℕ, true, length, map, drop, get_or, refl, sym, ap, subst, arith, inl, inr, Bor, List, [], ◌∷◌, ◌++◌, Option, Some, None, Result, Ok, Err, IfErr, IsOk, OnOk, nat_lt}
use Rattle.std.proofs.lemmas.Bool.{cond-true, lt-ltb}
use Rattle.std.proofs.lemmas.List.{append-nil, length-map}
use Rattle.tmmbr_tuple.specs.declared.ssrc.Ssrc.{Ssrc}
use Rattle.tmmbr_tuple.specs.declared.pair.Pair.{Pair}
use Rattle.rate_cert.specs.declared.request.Request.{Request}
use Rattle.rate_cert.specs.declared.certificate.Kept.{Kept as KeptEntry}
use Rattle.rate_cert.specs.declared.certificate.Implied.{Implied as ImpliedEntry}
use Rattle.rate_cert.specs.declared.certificate.TheConstants.{MAX_REQUESTS}
use Rattle.rate_cert.specs.declared.fault.CertFault.{CertFault}
use Rattle.rate_cert.specs.Certificate.{MeetsConditions, places_of}
use Rattle.rate_cert.specs.Choice.{IsSmallest}
use Rattle.rate_cert.specs.Fault.{FailsFirst}
use Rattle.request_text.specs.declared.bound.Refusal.{Refusal}
use Rattle.request_text.specs.declared.bound.Refusal.TheVariants.{NoMemory, Line}
use Rattle.request_text.specs.declared.entry.Claim.{Claim}
use Rattle.request_text.specs.declared.entry.Entry.{Entry}
use Rattle.request_text.specs.declared.entry.Entry.TheVariants.{Live, Kept, Implied}
use Rattle.request_text.specs.declared.entry.Reading.TheVariants.{Entry as AnEntry}
use Rattle.request_text.specs.declared.entry.TheConstants.{MAX_LINES}
use Rattle.request_text.specs.CheckFile.{FileSpells, IsCheckAnswer, LineAdds, LinesSpell, claims_from, has_room, implied_by, implied_of, kept_from, kept_of, entry_request, requests_of, entries_after}
use Rattle.cli.specs.Sheet.{IsSheetOf, RefusesAt, RefusesSheet}
use Rattle.request_text.proofs.LineLemmas.{at_line}

asked_more : (xs : List Entry) (e : Entry) → requests_of (xs ++ e ∷ []) ≡ requests_of xs ++ entry_request e ∷ []
asked_more [] e = refl
asked_more (x ∷ xs) e = ap (λ rs. entry_request x ∷ rs) (asked_more xs e)

kept_more : (n m : ℕ) (xs : List Entry) (e : Entry) → m ≡ n + length xs → kept_from n (xs ++ e ∷ []) ≡ kept_from n xs ++ kept_from m (e ∷ [])
kept_more n m [] e is =
    let same : n ≡ m = omega (arith, is) in
    ap (λ (k : ℕ). kept_from k (e ∷ [])) same
kept_more n m (Live r ∷ xs) e is =
    let next : m ≡ n + 1 + length xs = omega (arith, is) in
    kept_more (n + 1) m xs e next
kept_more n m (Kept r pair ∷ xs) e is =
    let next : m ≡ n + 1 + length xs = omega (arith, is) in
    ap (λ (ks : List (Ssrc × KeptEntry)). (r.owner, record { place = n; pair = pair }) ∷ ks) (kept_more (n + 1) m xs e next)
kept_more n m (Implied r claim ∷ xs) e is =
    let next : m ≡ n + 1 + length xs = omega (arith, is) in
    kept_more (n + 1) m xs e next

claims_more : (n m : ℕ) (xs : List Entry) (e : Entry) → m ≡ n + length xs → claims_from n (xs ++ e ∷ []) ≡ claims_from n xs ++ claims_from m (e ∷ [])
claims_more n m [] e is =
    let same : n ≡ m = omega (arith, is) in
    ap (λ (k : ℕ). claims_from k (e ∷ [])) same
claims_more n m (Live r ∷ xs) e is =
    let next : m ≡ n + 1 + length xs = omega (arith, is) in
    claims_more (n + 1) m xs e next
claims_more n m (Kept r pair ∷ xs) e is =
    let next : m ≡ n + 1 + length xs = omega (arith, is) in
    claims_more (n + 1) m xs e next
claims_more n m (Implied r claim ∷ xs) e is =
    let next : m ≡ n + 1 + length xs = omega (arith, is) in
    ap (λ (cs : List (ℕ × Claim)). (n, claim) ∷ cs) (claims_more (n + 1) m xs e next)

count : (xs : List Entry) (requests : List Request) → requests ≡ requests_of xs → length requests ≡ length xs
count xs requests is = ap length is ∙ length-map xs entry_request

abbrev Left : Option (List Entry) → List Request → List (Ssrc × KeptEntry) → List (ℕ × Claim) → Type 0
Left next requests kepts claims = (entries : List Entry) × (next ≡ Some entries) × IsSheetOf entries requests kepts claims

room : (xs : List Entry) (e : Entry) → has_room xs e ≡ true → entries_after xs (AnEntry e) ≡ Some (xs ++ e ∷ [])
room xs e is = cond-true (has_room xs e) (Some (xs ++ e ∷ [])) None is

pub takes_live : (xs : List Entry) (r : Request) (requests : List Request) (kepts : List (Ssrc × KeptEntry)) (claims : List (ℕ × Claim)) → IsSheetOf xs requests kepts claims
    → length requests < MAX_LINES → Left (entries_after xs (AnEntry (Live r))) (requests ++ r ∷ []) kepts claims
takes_live xs r requests kepts claims is below =
    let many = count xs requests is.asked in
    let fits : nat_lt (length xs) MAX_LINES ≡ true = rw (sym many) (lt-ltb (length requests) MAX_LINES below) in
    let here : length requests ≡ 0 + length xs = omega (arith, many) in (
      xs ++ Live r ∷ [],
      room xs (Live r) fits,
      record {
        asked = ap (λ (rs : List Request). rs ++ r ∷ []) is.asked ∙ sym (asked_more xs (Live r));
        kept = is.kept ∙ sym (append-nil (kept_from 0 xs)) ∙ sym (kept_more 0 (length requests) xs (Live r) here);
        implied = is.implied ∙ sym (append-nil (claims_from 0 xs)) ∙ sym (claims_more 0 (length requests) xs (Live r) here);
      },
    )

pub takes_kept : (xs : List Entry) (r : Request) (pair : Pair) (requests : List Request) (kepts : List (Ssrc × KeptEntry)) (claims : List (ℕ × Claim))
    → IsSheetOf xs requests kepts claims → length requests < MAX_LINES → length kepts < MAX_REQUESTS
    → Left (entries_after xs (AnEntry (Kept r pair))) (requests ++ r ∷ []) (kepts ++ (r.owner, record { place = length requests; pair = pair }) ∷ []) claims
takes_kept xs r pair requests kepts claims is below few =
    let many = count xs requests is.asked in
    let fits : nat_lt (length xs) MAX_LINES ≡ true = rw (sym many) (lt-ltb (length requests) MAX_LINES below) in
    let free : nat_lt (length (kept_from 0 xs)) MAX_REQUESTS ≡ true = rw (sym is.kept) (lt-ltb (length kepts) MAX_REQUESTS few) in
    let here : length requests ≡ 0 + length xs = omega (arith, many) in (
      xs ++ Kept r pair ∷ [],
      room xs (Kept r pair) (rw (fits, free) refl),
      record {
        asked = ap (λ (rs : List Request). rs ++ r ∷ []) is.asked ∙ sym (asked_more xs (Kept r pair));
        kept =
            ap (λ (ks : List (Ssrc × KeptEntry)). ks ++ (r.owner, record { place = length requests; pair = pair }) ∷ []) is.kept
            ∙ sym (kept_more 0 (length requests) xs (Kept r pair) here);
        implied = is.implied ∙ sym (append-nil (claims_from 0 xs)) ∙ sym (claims_more 0 (length requests) xs (Kept r pair) here);
      },
    )

pub takes_implied : (xs : List Entry) (r : Request) (claim : Claim) (requests : List Request) (kepts : List (Ssrc × KeptEntry)) (claims : List (ℕ × Claim))
    → IsSheetOf xs requests kepts claims → length requests < MAX_LINES → length claims < MAX_REQUESTS
    → Left (entries_after xs (AnEntry (Implied r claim))) (requests ++ r ∷ []) kepts (claims ++ (length requests, claim) ∷ [])
takes_implied xs r claim requests kepts claims is below few =
    let many = count xs requests is.asked in
    let fits : nat_lt (length xs) MAX_LINES ≡ true = rw (sym many) (lt-ltb (length requests) MAX_LINES below) in
    let free : nat_lt (length (claims_from 0 xs)) MAX_REQUESTS ≡ true = rw (sym is.implied) (lt-ltb (length claims) MAX_REQUESTS few) in
    let here : length requests ≡ 0 + length xs = omega (arith, many) in (
      xs ++ Implied r claim ∷ [],
      room xs (Implied r claim) (rw (fits, free) refl),
      record {
        asked = ap (λ (rs : List Request). rs ++ r ∷ []) is.asked ∙ sym (asked_more xs (Implied r claim));
        kept = is.kept ∙ sym (append-nil (kept_from 0 xs)) ∙ sym (kept_more 0 (length requests) xs (Implied r claim) here);
        implied =
            ap (λ (cs : List (ℕ × Claim)). cs ++ (length requests, claim) ∷ []) is.implied
            ∙ sym (claims_more 0 (length requests) xs (Implied r claim) here);
      },
    )

-- ---- what is answered

-- a fact on some lists is one on equal lists
moved : (P : List Request → List KeptEntry → List ImpliedEntry → Type 0) (xs rs : List Request) (ys bs : List KeptEntry) (zs cs : List ImpliedEntry)
    → xs ≡ rs → ys ≡ bs → zs ≡ cs → P xs ys zs → P rs bs cs
moved P xs rs ys bs zs cs e f g h =
    subst (λ (x : List Request). P x bs cs) e
    (subst (λ (y : List KeptEntry). P xs y cs) f (subst (λ (z : List ImpliedEntry). P xs ys z) g h))

pub answered : (entries : List Entry) (requests : List Request) (kepts : List (Ssrc × KeptEntry)) (claims : List (ℕ × Claim)) (kept : List KeptEntry) (implied : List ImpliedEntry) (past : ℕ) (r : Result (Unit {0}) CertFault)
    → IsSheetOf entries requests kepts claims → kept ≡ map (λ k. k.1) kepts → implied ≡ map (implied_by kepts past) claims → past ≡ length requests
    → (IsOk r → MeetsConditions requests kept implied) → IfErr r (FailsFirst requests kept implied) → OnOk r (IsSmallest requests (places_of kept))
    → IsCheckAnswer entries r
answered entries requests kepts claims kept implied past r is k i p meets fails smallest = go r meets fails smallest
  where
    same_kept : kept ≡ kept_of entries
    same_kept = k ∙ ap (map (λ (e : Ssrc × KeptEntry). e.1)) is.kept

    same_implied : implied ≡ implied_of entries
    same_implied =
        i ∙ ap (λ (ks : List (Ssrc × KeptEntry)). map (implied_by ks past) claims) is.kept
        ∙ ap (λ (n : ℕ). map (implied_by (kept_from 0 entries) n) claims) (p ∙ count entries requests is.asked)
        ∙ ap (map (implied_by (kept_from 0 entries) (length entries))) is.implied

    go : (x : Result (Unit {0}) CertFault) → (IsOk x → MeetsConditions requests kept implied) → IfErr x (FailsFirst requests kept implied)
        → OnOk x (IsSmallest requests (places_of kept)) → IsCheckAnswer entries x
    go (Ok done) met failed small = (
      moved MeetsConditions requests (requests_of entries) kept (kept_of entries) implied (implied_of entries) is.asked same_kept same_implied (met refl),
      moved (λ rs ks _. IsSmallest rs (places_of ks)) requests (requests_of entries) kept (kept_of entries) implied (implied_of entries) is.asked same_kept same_implied small,
    )
    go (Err fault) met failed small =
        moved (λ rs ks zs. FailsFirst rs ks zs fault) requests (requests_of entries) kept (kept_of entries) implied (implied_of entries) is.asked same_kept same_implied failed

-- ---- lines

pub goes_on : (i : ℕ) (lines : List (Bor (List ℕ))) (d : Bor (List ℕ)) (now next : List Entry) (left : Result (List Entry) ℕ) → i < length lines
    → LineAdds (get_or lines i d).now now (Some next)
    → LinesSpell (i + 1 + 1) (drop (i + 1) (map (λ (x : Bor (List ℕ)). x.now) lines)) next left
    → LinesSpell (i + 1) (drop i (map (λ (x : Bor (List ℕ)). x.now) lines)) now left
goes_on i lines d now next left below one others =
    subst (λ (ls : List (List ℕ)). LinesSpell (i + 1) ls now left) (sym (at_line i lines d below)) (inl (next, one, others))

-- the line that is refused is the text's first
pub stops : (i number : ℕ) (lines : List (Bor (List ℕ))) (d : Bor (List ℕ)) (now : List Entry) (text : List ℕ) (refusal : Refusal) → i < length lines → number ≡ i
    → ((left : Result (List Entry) ℕ) → LinesSpell (i + 1) (drop i (map (λ (x : Bor (List ℕ)). x.now) lines)) now left → FileSpells text left)
    → RefusesAt (number + 1) (LineAdds (get_or lines i d).now now None) refusal → RefusesSheet text refusal
stops i number lines d now text NoMemory below counted all refuses = tt
stops i number lines d now text (Line line fault) below counted all refuses =
    let place : line ≡ i + 1 = refuses.0 ∙ ap (λ (n : ℕ). n + 1) counted in (
      refuses.1,
      all (Err line)
          (subst (λ (ls : List (List ℕ)). LinesSpell (i + 1) ls now (Err line)) (sym (at_line i lines d below)) (inr (refuses.2, ap (λ (n : ℕ). Err n) place))),
    )
