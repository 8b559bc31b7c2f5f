-- The requests at places.
use Rattle.std.proofs.Common.{◌≡◌, ◌+◌, ◌<◌, ◌≤◌, ℕ, List, [], ◌∷◌, ◌++◌, length, get_or, take, Option, None, Some, refl, ap, ◌∙◌, arith}
use Rattle.std.specs.Prelude.{All, slice_get}
use Rattle.std.specs.List.{cons_option}
use Rattle.std.proofs.lemmas.List.{take_more}
use Rattle.std.proofs.lemmas.List.Elements.{All-contains, filter_map-append}
use Rattle.std.proofs.lemmas.Option.{slice_get-get_or}
use Rattle.rate_cert.specs.declared.request.Request.{Request}
use Rattle.rate_cert.specs.declared.certificate.Kept.{Kept}
use Rattle.rate_cert.specs.Choice.{IsChoice, chosen_requests}
use Rattle.rate_cert.specs.Certificate.{places_of}
use Rattle.rate_cert.proofs.CheckerLemmas.{Contains-map}

-- a choice has no more requests than places
length_option : (o : Option Request) (rest : List Request) → length (cons_option o rest) ≤ length rest + 1
length_option None rest = omega arith
length_option (Some x) rest = omega arith

pub length-chosen : (requests : List Request) (places : List ℕ) → length (chosen_requests requests places) ≤ length places
length-chosen requests [] = omega arith
length-chosen requests (place ∷ places) =
    let one = length_option (slice_get requests place) (chosen_requests requests places) in
    let rest = length-chosen requests places in
    omega arith

-- the kept entries of a choice name requests
pub kept_below : (requests : List Request) (kept : List Kept) → IsChoice requests (places_of kept) → All (λ k. k.place < length requests) kept
kept_below requests kept choice = λ i d below.
    All-contains (λ place. place < length requests) (places_of kept) (get_or kept i d).place choice.in_range
    (Contains-map (λ k. k.place) kept i d below)

-- one kept entry more is one chosen request more
pub chosen_more : (requests : List Request) (kept : List Kept) (i : ℕ) (d : Kept) (e : Request) → i < length kept
    → (get_or kept i d).place < length requests
    → chosen_requests requests (places_of (take (i + 1) kept))
    ≡ chosen_requests requests (places_of (take i kept)) ++ get_or requests (get_or kept i d).place e ∷ []
chosen_more requests kept i d e below in_range =
    let k = get_or kept i d in
    ap (λ ks. chosen_requests requests (places_of ks)) (take_more kept i d below)
    ∙ ap (chosen_requests requests) (places_of-append (take i kept) (k ∷ []))
    ∙ filter_map-append (slice_get requests) (places_of (take i kept)) (k.place ∷ [])
    ∙ ap (λ o. chosen_requests requests (places_of (take i kept)) ++ cons_option o []) (slice_get-get_or requests k.place e in_range)
  where
    places_of-append : (xs ys : List Kept) → places_of (xs ++ ys) ≡ places_of xs ++ places_of ys
    places_of-append [] ys = refl
    places_of-append (x ∷ xs) ys = ap (λ ps. x.place ∷ ps) (places_of-append xs ys)
