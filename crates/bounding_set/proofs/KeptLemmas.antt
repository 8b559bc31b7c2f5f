-- The places of kept requests among the rows.
use Rattle.std.proofs.Common.{◌≡◌, ℕ, ◌+◌, ◌-◌, ◌*◌, ◌<◌, ◌≤◌, List, [], ◌∷◌, ◌++◌, length, get_or, map, suc, refl, sym, ap, ◌∙◌, arith}
use Rattle.std.specs.Prelude.{All, Contains, slice_get}
use Rattle.std.specs.List.{cons_option}
use Rattle.std.proofs.lemmas.List.{map-append, length-map, get_or-map}
use Rattle.std.proofs.lemmas.List.Elements.{All-head, All-tail, All-map, All-push, filter_map-append}
use Rattle.std.proofs.lemmas.Option.{slice_get-get_or}
use Rattle.tmmbr_tuple.specs.Tuple.{rate_of}
use Rattle.rate_cert.specs.declared.request.Request.{Request}
use Rattle.rate_cert.specs.declared.certificate.Kept.{Kept}
use Rattle.rate_cert.specs.Choice.{chosen_requests}
use Rattle.rate_cert.specs.Certificate.{places_of}
use Rattle.rate_cert.proofs.CheckerLemmas.{holds_at}
use Rattle.rate_cert.proofs.OwnerLemmas.{same_place}
use Rattle.bounding_set.specs.Rows.{HasRisingOwners, IsRowOf}
use Rattle.bounding_set.specs.Announced.{Follows}
use Rattle.bounding_set.specs.Certificate.{right_end, crossing_of}
use Rattle.bounding_set.proofs.RowLemmas.{row_owner}
use Rattle.bounding_set.specs.Kept.{StandsAt, KeepsRequests, HasLeftEnd, IsEndOf}

-- the row of a request's owner is the request
pub StandsAt-row : (rows : List Request) (request : Request) (place : ℕ) → HasRisingOwners rows → Contains rows request
    → IsRowOf rows request.owner.0 place → StandsAt rows request place
StandsAt-row rows request place rising live is =
    let same : place ≡ live.0 =
    same_place row_owner rows place live.0 request rising is.in_range live.1
    (is.is_owner request ∙ sym (ap (λ (r : Request). r.owner.0) live.2)) in
    record {
      in_range = is.in_range;
      is = holds_at (λ r. r ≡ request) rows place request is.in_range (ap (λ k. get_or rows k request) same ∙ live.2);
    }

-- one entry more is one request more
pub KeepsRequests-push : (rows requests : List Request) (kept : List Kept) (k : Kept) (request : Request)
    → KeepsRequests rows requests kept → StandsAt rows request k.place
    → KeepsRequests rows (requests ++ request ∷ []) (kept ++ k ∷ [])
KeepsRequests-push rows requests kept k request is stands =
    let before = chosen_requests rows (places_of kept) in
    record {
      in_range = All-push (λ (e : Kept). e.place < length rows) kept k is.in_range stands.in_range;
      in_turn =
          ap (chosen_requests rows) (map-append (λ (e : Kept). e.place) kept (k ∷ []))
          ∙ filter_map-append (slice_get rows) (places_of kept) (k.place ∷ [])
          ∙ ap (λ o. before ++ cons_option o []) (slice_get-get_or rows k.place request stands.in_range)
          ∙ ap (λ r. before ++ r ∷ []) (stands.is request)
          ∙ ap (λ rs. rs ++ request ∷ []) is.in_turn;
    }

pub KeepsRequests-none : (rows : List Request) → KeepsRequests rows [] []
KeepsRequests-none rows = record { in_range = λ k d below. absurd (omega (arith, below)); in_turn = refl }

-- entries whose places are those of the requests, one by one, keep them
pub KeepsRequests-each : (rows requests : List Request) (kept : List Kept) → length kept ≡ length requests
    → ((i : ℕ) (d : Request) (e : Kept) → i < length kept → StandsAt rows (get_or requests i d) (get_or kept i e).place)
    → KeepsRequests rows requests kept
KeepsRequests-each rows [] [] as_many stands = KeepsRequests-none rows
KeepsRequests-each rows [] (k ∷ ks) as_many stands = absurd (omega (arith, as_many))
KeepsRequests-each rows (r ∷ rs) [] as_many stands = absurd (omega (arith, as_many))
KeepsRequests-each rows (r ∷ rs) (k ∷ ks) as_many stands =
    let first : StandsAt rows r k.place = stands 0 r k (omega arith) in
    let rest : KeepsRequests rows rs ks =
    KeepsRequests-each rows rs ks (omega (arith, as_many)) (λ i d e below. stands (suc i) d e (omega (arith, below))) in
    record {
      in_range = λ i e below. (stands i r e below).in_range;
      in_turn =
          ap (λ o. cons_option o (chosen_requests rows (places_of ks))) (slice_get-get_or rows k.place r first.in_range)
          ∙ ap (λ x. x ∷ chosen_requests rows (places_of ks)) (first.is r)
          ∙ ap (λ xs. r ∷ xs) rest.in_turn;
    }

-- the chosen requests place by place
chosen_by_place : (rows : List Request) (d : Request) (places : List ℕ) → All (λ place. place < length rows) places
    → chosen_requests rows places ≡ map (λ place. get_or rows place d) places
chosen_by_place rows d [] all = refl
chosen_by_place rows d (place ∷ places) all =
    let InRange : ℕ → Type 0 = λ at. at < length rows in
    ap (λ o. cons_option o (chosen_requests rows places)) (slice_get-get_or rows place d (All-head InRange place places all))
    ∙ ap (λ rs. get_or rows place d ∷ rs) (chosen_by_place rows d places (All-tail InRange place places all))

module _ (rows requests : List Request) (kept : List Kept) (is : KeepsRequests rows requests kept) where
  abbrev places : List ℕ
  places = places_of kept

  pub places_in_range : All (λ place. place < length rows) (places_of kept)
  places_in_range = All-map (λ place. place < length rows) (λ (k : Kept). k.place) kept is.in_range

  pub requests_by_place : (d : Request) → requests ≡ map (λ place. get_or rows place d) (places_of kept)
  requests_by_place d = sym is.in_turn ∙ chosen_by_place rows d places places_in_range

  pub as_many_places : length (places_of kept) ≡ length kept
  as_many_places = length-map kept (λ k. k.place)

  pub as_many_requests : (d : Request) → length kept ≡ length requests
  as_many_requests d = sym as_many_places ∙ sym (length-map places (λ place. get_or rows place d)) ∙ sym (ap length (requests_by_place d))

  -- the request at a kept place
  pub request_at : (j p : ℕ) (d : Request) → j < length (places_of kept) → get_or rows (get_or (places_of kept) j p) d ≡ get_or requests j d
  request_at j p d below =
      sym (get_or-map (λ place. get_or rows place d) places j p d below) ∙ ap (λ rs. get_or rs j d) (sym (requests_by_place d))

-- where two lines cross, the first still leaves something for media, and so does the second; `more` and `faster` are what
-- the second has above the first
before_crossing : (overhead more rate faster : ℕ) → (rate + faster) * overhead ≤ rate * (overhead + more)
    → 8 * overhead * faster ≤ rate * (8 * more)
before_crossing overhead more rate faster reach = omega (arith, reach)

after_crossing : (overhead more rate faster : ℕ) → (rate + faster) * overhead ≤ rate * (overhead + more)
    → 8 * (overhead + more) * faster ≤ (rate + faster) * (8 * more)
after_crossing overhead more rate faster reach = omega (arith, reach)

-- the same, with differences
before_at : (overhead greater rate faster : ℕ) → overhead ≤ greater → rate ≤ faster → faster * overhead ≤ rate * greater
    → 8 * overhead * (faster - rate) ≤ rate * (8 * (greater - overhead))
before_at overhead greater rate faster more quicker reach =
    let rates : rate + (faster - rate) ≡ faster = omega arith in
    let overheads : overhead + (greater - overhead) ≡ greater = omega arith in
    before_crossing overhead (greater - overhead) rate (faster - rate) (rw (rates, overheads) reach)

after_at : (overhead greater rate faster : ℕ) → overhead ≤ greater → rate ≤ faster → faster * overhead ≤ rate * greater
    → 8 * greater * (faster - rate) ≤ faster * (8 * (greater - overhead))
after_at overhead greater rate faster more quicker reach =
    let rates : rate + (faster - rate) ≡ faster = omega arith in
    let overheads : overhead + (greater - overhead) ≡ greater = omega arith in
    let known = after_crossing overhead (greater - overhead) rate (faster - rate) (rw (rates, overheads) reach) in
    rw (rates, overheads) at known

-- the right end of a line, and the left end of the next one
pub IsEndOf-right_end : (x : Request) (behind : List Request) → All (Follows x) behind → IsEndOf x (right_end x behind)
IsEndOf-right_end x [] follow = omega arith
IsEndOf-right_end x (y ∷ ys) follow =
    let follows : Follows x y = All-head (Follows x) y ys follow in
    before_at x.tuple.overhead y.tuple.overhead (rate_of x.tuple) (rate_of y.tuple)
    (omega (arith, follows.overhead)) (omega (arith, follows.rate)) follows.reach

pub IsEndOf-crossing : (x y : Request) → Follows x y → IsEndOf y (crossing_of x y)
IsEndOf-crossing x y follows =
    after_at x.tuple.overhead y.tuple.overhead (rate_of x.tuple) (rate_of y.tuple)
    (omega (arith, follows.overhead)) (omega (arith, follows.rate)) follows.reach

pub HasLeftEnd-right : (x : Request) (behind : List Request) → All (Follows x) behind → HasLeftEnd (right_end x behind) behind
HasLeftEnd-right x [] follow = tt
HasLeftEnd-right x (y ∷ ys) follow =
    let follows : Follows x y = All-head (Follows x) y ys follow in
    (omega (arith, follows.overhead), IsEndOf-crossing x y follows)

-- a list of two elements, as a pattern takes it apart
pub two_elements : {X : Type 0} (xs : List X) (x y : X) → 2 ≤ length xs → length xs < 3 → x ≡ get_or xs 0 x → y ≡ get_or xs 1 y → xs ≡ x ∷ y ∷ []
two_elements [] x y some few is_x is_y = absurd (omega arith)
two_elements (u ∷ []) x y some few is_x is_y = absurd (omega arith)
two_elements (u ∷ v ∷ []) x y some few is_x is_y = ap (λ z. z ∷ v ∷ []) (sym is_x) ∙ ap (λ z. x ∷ z ∷ []) (sym is_y)
two_elements (u ∷ v ∷ w ∷ ws) x y some few is_x is_y = absurd (omega arith)
