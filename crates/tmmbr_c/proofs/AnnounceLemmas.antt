-- What an answer owes to the requests.
use Rattle.std.proofs.Common.{◌≡◌, ◌≢◌, ℕ, zero, suc, ◌+◌, ◌<◌, ◌≤◌, ◌⊎◌, ◌↔◌, List, [], ◌∷◌, length, get_or, map, refl, sym, ap, ◌∙◌, subst, inl, inr, arith}
use Rattle.std.specs.Prelude.{All, AllPairs, Contains}
use Rattle.std.specs.List.{range_with_len}
use Rattle.std.proofs.lemmas.List.{length-map, length-append, get_or-map, get_or_default}
use Rattle.std.proofs.lemmas.List.FromFn.{length-range_with_len, get_or-range_with_len}
use Rattle.rate_cert.specs.declared.request.Request.{Request}
use Rattle.rate_cert.specs.declared.certificate.Kept.{Kept}
use Rattle.rate_cert.specs.declared.certificate.Implied.{Implied}
use Rattle.rate_cert.specs.declared.certificate.Cert.{Cert}
use Rattle.rate_cert.specs.declared.certificate.TheConstants.{MAX_REQUESTS}
use Rattle.rate_cert.specs.Certificate.{MeetsConditions, named_places, places_of}
use Rattle.rate_cert.proofs.Pigeonhole.{AnyByRecursion, no_more_than_partners}
use Rattle.rate_cert.proofs.CheckerLemmas.{kept_in_range, implied_in_range}
use Rattle.rate_cert.proofs.OwnerLemmas.{same_place}
use Rattle.bounding_set.specs.State.{AnnouncesFor}
use Rattle.tmmbr_c.specs.declared.faults.TheConstants.{DONE, TOO_MANY, REQUEST_RANGE, SAME_SSRC, NO_ROOM}
use Rattle.tmmbr_c.specs.declared.numbers.TmmbrRequest.{TmmbrRequest}
use Rattle.tmmbr_c.specs.declared.numbers.TmmbrKept.{TmmbrKept}
use Rattle.tmmbr_c.specs.declared.numbers.TmmbrImplied.{TmmbrImplied}
use Rattle.tmmbr_c.specs.declared.numbers.TmmbrAnswer.{TmmbrAnswer}
use Rattle.tmmbr_c.specs.declared.order.OwnerPlace.{OwnerPlace}
use Rattle.tmmbr_c.specs.Numbers.{IsRequestInRange, asked_request}
use Rattle.tmmbr_c.specs.Order.{OrdersOwners, OrdersRequests, owner_place, ordered, place_in}
use Rattle.tmmbr_c.specs.Renumbering.{AnnouncesEntries, Reorders, IsMovable, moved_kept, moved_implied}
use Rattle.tmmbr_c.specs.Answer.{IsAccepted, IsRefusedRange, IsRefusedOwner, HasSizes, HasNoRoom}
use Rattle.tmmbr_c.proofs.FirstLemmas.{one_first, no_first, one_repeated, none_repeated}
use Rattle.tmmbr_c.proofs.OrderLemmas.{ssrc_of}
use Rattle.tmmbr_c.proofs.ReorderLemmas.{announced-reordered}

-- ---- the order of owners

-- the owners of all requests, each with its place
pub OrdersRequests-from_owners : (asked : List TmmbrRequest) (order : List OwnerPlace) → length asked ≤ MAX_REQUESTS
    → OrdersOwners asked (length asked) order → OrdersRequests (map asked_request asked) order
OrdersRequests-from_owners asked order few is =
    let none : TmmbrRequest = record { ssrc = 0; exponent = 0; mantissa = 0; overhead = 0 } in
    let as_many = length-map asked asked_request in
    record {
      few = omega (arith, is.as_many);
      rising = is.rising;
      in_range = λ k d below. omega (arith, is.each k d below, as_many);
      owns = λ k d below e.
          let place = (get_or order k d).place in
          ap (λ (r : Request). r.owner.0) (get_or-map asked_request asked place none e (is.each k d below)) ∙ is.owns k d below none;
      every = λ place below.
          let there = is.every place none (omega (arith, as_many)) in
          (there.0, owner_place asked none place, there.1, there.2, refl);
    }

module _ (requests : List Request) (order : List OwnerPlace) (is : OrdersRequests requests order) (d : Request) where
  abbrev rows : List Request
  rows = ordered requests d order

  as_many_rows : length rows ≡ length order
  as_many_rows = length-map order (λ o. get_or requests o.place d)

  pub reorders : Reorders requests rows (place_in order)
  reorders =
      let none : OwnerPlace = record { ssrc = 0; place = 0 } in
      let in_order : (k : ℕ) → k < length rows → k < length order = λ k below. omega (arith, as_many_rows) in
      record {
        in_range = λ k below. is.in_range k none (in_order k below);
        same = λ k e below.
            let o = get_or order k none in
            get_or_default requests o.place e d (is.in_range k none (in_order k below))
            ∙ sym (get_or-map (λ o. get_or requests o.place d) order k none e (in_order k below));
        apart = λ j k at_j at_k same.
            let owner_j = is.owns j none (in_order j at_j) d in
            let owner_k = is.owns k none (in_order k at_k) d in
            same_place ssrc_of order j k none is.rising (in_order j at_j) (in_order k at_k)
            (sym owner_j ∙ ap (λ p. (get_or requests p d).owner.0) same ∙ owner_k);
        onto = λ place below.
            let there = is.every place below in
            (there.0, omega (arith, there.2, as_many_rows), ap (λ (o : OwnerPlace). o.place) (get_or_default order there.0 none there.1 there.2 ∙ there.3) ∙ there.4);
      }

-- ---- as many entries as requests

contains_any : (xs : List ℕ) (y : ℕ) → Contains xs y → AnyByRecursion (λ x. x ≡ y) xs
contains_any [] y has = absurd (omega (arith, has.1))
contains_any (x ∷ xs) y (zero, below, is) = inl is
contains_any (x ∷ xs) y (suc k, below, is) = inr (contains_any xs y (k, omega arith, is))

-- different numbers, each of which stands in a list, are no more than it has
no_more : (xs ys : List ℕ) → All (Contains xs) ys → AllPairs (λ x y. x ≢ y) ys → length ys ≤ length xs
no_more xs ys in_list distinct =
    no_more_than_partners (λ x y. x ≡ y) xs ys (λ k d below. contains_any xs (get_or ys k d) (in_list k d below))
    (λ i j d before below x is_i is_j. distinct i j d before below (sym is_i ∙ is_j))

-- a certificate names each request once
pub as_many_entries : (requests : List Request) (kept : List Kept) (implied : List Implied) → MeetsConditions requests kept implied
    → length kept + length implied ≡ length requests
as_many_entries requests kept implied meets =
    let n = length requests in
    let range = range_with_len 0 n in
    let named = named_places kept implied in
    let long = length-range_with_len 0 n in
    let few : length named ≤ length range =
    no_more range named
    (λ k d below.
    let p = get_or named k d in
    let small : p < n = meets.places.named.in_range k d below in
    (p, omega (arith, long), get_or-range_with_len 0 n p p small ∙ omega arith))
    meets.places.named.distinct in
    let many : length range ≤ length named =
    no_more named range
    (λ k d below.
    let small : k < n = omega (arith, long) in
    let here : get_or range k d ≡ k = get_or-range_with_len 0 n k d small ∙ omega arith in
    subst (Contains named) (sym here) (meets.complete k small))
    (λ i j d before below same.
    let small_j : j < n = omega (arith, long) in
    let small_i : i < n = omega arith in
    omega (arith, same, get_or-range_with_len 0 n i d small_i, get_or-range_with_len 0 n j d small_j)) in
    omega (
      arith,
      long,
      few,
      many,
      length-append (places_of kept) (map (λ i. i.place) implied),
      length-map kept (λ k. k.place),
      length-map implied (λ i. i.place),
    )

-- ---- what is announced

module _ (requests : List Request) (order : List OwnerPlace) (is : OrdersRequests requests order) (rows : List Request)
    (are : (d : Request) → rows ≡ ordered requests d order) (cert : Cert) (announces : AnnouncesFor rows cert) where
  as_many_owners : length rows ≡ length order
  as_many_owners =
      let d = asked_request (record { ssrc = 0; exponent = 0; mantissa = 0; overhead = 0 }) in
      ap length (are d) ∙ length-map order (λ o. get_or requests o.place d)

  pub kept_movable : All (λ k. k.place < length order) cert.kept.items
  kept_movable = λ k d below. omega (arith, kept_in_range rows cert.kept.items cert.implied.items announces.certified.places k d below, as_many_owners)

  pub implied_movable : All (IsMovable order) cert.implied.items
  implied_movable = λ k d below.
      let within = implied_in_range rows cert.kept.items cert.implied.items announces.certified.places k d below in
      record {
        place = omega (arith, within.place, as_many_owners);
        a = omega (arith, within.a, as_many_owners);
        b = omega (arith, within.b, as_many_owners);
      }

  pub announced_here : AnnouncesEntries requests (map (moved_kept (place_in order)) cert.kept.items)
      (map (moved_implied (place_in order)) cert.implied.items)
  announced_here =
      let d = asked_request (record { ssrc = 0; exponent = 0; mantissa = 0; overhead = 0 }) in
      announced-reordered requests rows (place_in order) cert
      (subst (λ rs. Reorders requests rs (place_in order)) (sym (are d)) (reorders requests order is d)) announces

  pub sizes_here : HasSizes requests (length cert.kept.items) (length cert.implied.items)
  sizes_here =
      let kept = map (moved_kept (place_in order)) cert.kept.items in
      let implied = map (moved_implied (place_in order)) cert.implied.items in
      let long_kept : length kept ≡ length cert.kept.items = length-map cert.kept.items (moved_kept (place_in order)) in
      let long_implied : length implied ≡ length cert.implied.items = length-map cert.implied.items (moved_implied (place_in order)) in
      record {
        kept = kept;
        implied = implied;
        announces = announced_here;
        kept_is = long_kept;
        implied_is = long_implied;
        as_many = omega (arith, as_many_entries requests kept implied announced_here.certified, long_kept, long_implied);
      }

-- entries that are equal to those that announce
pub equal_entries : (requests : List Request) (kept kept' : List Kept) (implied implied' : List Implied) → kept' ≡ kept → implied' ≡ implied
    → AnnouncesEntries requests kept implied → AnnouncesEntries requests kept' implied'
equal_entries requests kept kept' implied implied' same_kept same_implied announces =
    subst (λ is. AnnouncesEntries requests kept' is) (sym same_implied) (subst (λ ks. AnnouncesEntries requests ks implied) (sym same_kept) announces)

-- ---- the clauses of an answer

pub record AnswersFor (asked : List TmmbrRequest) (kept : List TmmbrKept) (implied : List TmmbrImplied) (a : TmmbrAnswer) : Type 0 where
  pub accepted : ((a.fault ≡ DONE) ⊎ (a.fault ≡ NO_ROOM)) ↔ IsAccepted asked
  pub sizes : IsAccepted asked → HasSizes (map asked_request asked) a.kept a.implied
  pub too_many : (a.fault ≡ TOO_MANY) ↔ (MAX_REQUESTS < length asked)
  pub request_range : (place : ℕ) → (((a.fault ≡ REQUEST_RANGE) × (a.place ≡ place)) ↔ IsRefusedRange asked place)
  pub same_ssrc : (place : ℕ) → (((a.fault ≡ SAME_SSRC) × (a.place ≡ place)) ↔ IsRefusedOwner asked place)
  pub no_room : (a.fault ≡ NO_ROOM) ↔ (IsAccepted asked × HasNoRoom kept implied a)

module _ (asked : List TmmbrRequest) (kept : List TmmbrKept) (implied : List TmmbrImplied) (a : TmmbrAnswer) where
  no_request : TmmbrRequest
  no_request = record { ssrc = 0; exponent = 0; mantissa = 0; overhead = 0 }

  -- a fault that is neither of the two with which requests are accepted
  not_accepted : (IsAccepted asked → ⊥) → (a.fault ≡ DONE → ⊥) → (a.fault ≡ NO_ROOM → ⊥)
      → record {
        accepted : ((a.fault ≡ DONE) ⊎ (a.fault ≡ NO_ROOM)) ↔ IsAccepted asked;
        sizes : IsAccepted asked → HasSizes (map asked_request asked) a.kept a.implied;
        no_room : (a.fault ≡ NO_ROOM) ↔ (IsAccepted asked × HasNoRoom kept implied a);
      }
  not_accepted refused not_done roomy = record {
    accepted = (λ either. absurd (elim either [ inl done ↦ not_done done | inr full ↦ roomy full ]), λ accepted. absurd (refused accepted));
    sizes = λ accepted. absurd (refused accepted);
    no_room = (λ full. absurd (roomy full), λ both. absurd (refused both.0));
  }

  pub answers-too_many : a.fault ≡ TOO_MANY → MAX_REQUESTS < length asked → AnswersFor asked kept implied a
  answers-too_many fault many =
      let others = not_accepted (λ accepted. omega (arith, accepted.few)) (λ e. omega arith) (λ e. omega arith) in
      record {
        accepted = others.accepted;
        sizes = others.sizes;
        too_many = (λ e. many, λ m. fault);
        request_range = λ place. (λ is. absurd (omega (arith, is.0)), λ is. absurd (omega (arith, is.few)));
        same_ssrc = λ place. (λ is. absurd (omega (arith, is.0)), λ is. absurd (omega (arith, is.few)));
        no_room = others.no_room;
      }

  pub answers-request_range : a.fault ≡ REQUEST_RANGE → IsRefusedRange asked a.place → AnswersFor asked kept implied a
  answers-request_range fault refused =
      let others = not_accepted (λ accepted. no_first IsRequestInRange asked no_request a.place accepted.in_range refused.first)
      (λ e. omega arith) (λ e. omega arith) in
      record {
        accepted = others.accepted;
        sizes = others.sizes;
        too_many = (λ e. absurd (omega arith), λ m. absurd (omega (arith, refused.few)));
        request_range = λ place. (
          λ is. subst (IsRefusedRange asked) is.1 refused,
          λ is. (fault, one_first IsRequestInRange asked no_request a.place place refused.first is.first),
        );
        same_ssrc = λ place. (
          λ is. absurd (omega (arith, is.0)),
          λ is. absurd (no_first IsRequestInRange asked no_request a.place is.in_range refused.first),
        );
        no_room = others.no_room;
      }

  pub answers-same_ssrc : a.fault ≡ SAME_SSRC → IsRefusedOwner asked a.place → AnswersFor asked kept implied a
  answers-same_ssrc fault refused =
      let others = not_accepted (λ accepted. none_repeated asked a.place accepted.owners_differ refused.first)
      (λ e. omega arith) (λ e. omega arith) in
      record {
        accepted = others.accepted;
        sizes = others.sizes;
        too_many = (λ e. absurd (omega arith), λ m. absurd (omega (arith, refused.few)));
        request_range = λ place. (
          λ is. absurd (omega (arith, is.0)),
          λ is. absurd (no_first IsRequestInRange asked no_request place refused.in_range is.first),
        );
        same_ssrc = λ place. (
          λ is. subst (IsRefusedOwner asked) is.1 refused,
          λ is. (fault, one_repeated asked a.place place refused.first is.first),
        );
        no_room = others.no_room;
      }

  pub answers-accepted : IsAccepted asked → ((a.fault ≡ DONE) ⊎ (a.fault ≡ NO_ROOM)) → HasSizes (map asked_request asked) a.kept a.implied
      → ((a.fault ≡ NO_ROOM) ↔ HasNoRoom kept implied a) → AnswersFor asked kept implied a
  answers-accepted accepted fault sizes no_room =
      let other : (n : ℕ) → a.fault ≡ n → n ≢ DONE → n ≢ NO_ROOM → ⊥ = λ n e not_done roomy.
      elim fault [ inl done ↦ not_done (sym e ∙ done) | inr full ↦ roomy (sym e ∙ full) ] in
      record {
        accepted = (λ e. accepted, λ e. fault);
        sizes = λ e. sizes;
        too_many = (λ e. absurd (other TOO_MANY e (λ i. omega arith) (λ i. omega arith)), λ m. absurd (omega (arith, accepted.few)));
        request_range = λ place. (
          λ is. absurd (other REQUEST_RANGE is.0 (λ i. omega arith) (λ i. omega arith)),
          λ is. absurd (no_first IsRequestInRange asked no_request place accepted.in_range is.first),
        );
        same_ssrc = λ place. (
          λ is. absurd (other SAME_SSRC is.0 (λ i. omega arith) (λ i. omega arith)),
          λ is. absurd (none_repeated asked place accepted.owners_differ is.first),
        );
        no_room = (λ full. (accepted, no_room.0 full), λ both. no_room.1 both.1);
      }
