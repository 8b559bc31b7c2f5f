-- A certificate's choice is smallest.
use Rattle.std.proofs.Common.{◌≡◌, ℕ, suc, zero, ◌+◌, ◌*◌, ◌<◌, ◌≤◌, List, [], ◌∷◌, length, get_or, map, Option, None, Some, inl, inr, subst, lit<, arith}
use Rattle.std.specs.Prelude.{All, AllPairs, Contains, IfSome, slice_get}
use Rattle.std.specs.List.{cons_option}
use Rattle.std.proofs.Math.Nat.{mul-le-mul_left, mul-le-mul_right}
use Rattle.std.proofs.lemmas.Bool.{cases_lt}
use Rattle.std.proofs.lemmas.List.{length-map, length-append, get_or_append_left}
use Rattle.std.proofs.lemmas.List.Elements.{All-contains_itself, All-head, All-tail, All-nil, All-cons, All-contains, Contains-append_cases, Contains-append_left, Contains-get_or}
use Rattle.std.proofs.lemmas.Option.{slice_get-get_or}
use Rattle.tmmbr_tuple.specs.Tuple.{rate_of}
use Rattle.tmmbr_tuple.specs.RatePair.{RatePair, Permits, Forbids, pair_of}
use Rattle.tmmbr_tuple.proofs.RatePairLemmas.{not_both}
use Rattle.rate_cert.specs.declared.request.Request.{Request}
use Rattle.rate_cert.specs.declared.certificate.Kept.{Kept}
use Rattle.rate_cert.specs.declared.certificate.Implied.{Implied}
use Rattle.rate_cert.specs.Requests.{IsFeasible}
use Rattle.rate_cert.specs.Choice.{IsChoice, chosen_requests, IsFaithful, IsSmallest}
use Rattle.rate_cert.specs.Certificate.{places_of, named_places, Implies, ForbidsOnePair, MeetsConditions}
use Rattle.rate_cert.proofs.CheckerLemmas.{kept_in_range, implied_in_range, entry_at}
use Rattle.rate_cert.proofs.ChoiceLemmas.{length-chosen}
use Rattle.rate_cert.proofs.Pigeonhole.{AnyByRecursion, no_more_than_partners}

-- p times one inequality and q times another give r times a third
combined : (m n d ha ra hb rb h r p q s : ℕ) → 1 ≤ s → s ≤ p + q → s * h ≤ p * ha + q * hb → p * ra + q * rb ≤ s * r
    → m + 8 * ha * n ≤ ra * d → m + 8 * hb * n ≤ rb * d → m + 8 * h * n ≤ r * d
combined m n d ha ra hb rb h r p q s some media headers rate by_a by_b =
    elim (cases_lt (r * d) (m + 8 * h * n)) [
      | inr within ↦ within
      | inl above ↦
          let a = mul-le-mul_left p by_a in
          let b = mul-le-mul_left q by_b in
          let c = mul-le-mul_right m media in
          let e = mul-le-mul_right n headers in
          let f = mul-le-mul_right d rate in
          let g = mul-le-mul_left s above in
          absurd (omega (arith, a, b, c, e, f, g))
    ]

-- a request is no stricter than the two that imply it
Permits-from_Implies : (a b r : Request) (i : Implied) (p : RatePair) → Implies a b r i → Permits a.tuple p → Permits b.tuple p → Permits r.tuple p
Permits-from_Implies a b r i p implies by_a by_b =
    combined p.bits p.packets p.seconds a.tuple.overhead (rate_of a.tuple) b.tuple.overhead (rate_of b.tuple)
    r.tuple.overhead (rate_of r.tuple) i.p i.q i.r implies.some implies.media implies.headers implies.rate by_a by_b

-- what holds of the chosen requests holds at each place, and the other way round
all_of_option : (P : Request → Type 0) (o : Option Request) (rest : List Request) → All P (cons_option o rest) → IfSome o P × All P rest
all_of_option P None rest all = (tt, all)
all_of_option P (Some x) rest all = (All-head P x rest all, All-tail P x rest all)

option_of_all : (P : Request → Type 0) (o : Option Request) (rest : List Request) → IfSome o P → All P rest → All P (cons_option o rest)
option_of_all P None rest one all = all
option_of_all P (Some x) rest one all = All-cons P x rest one all

at_places : (P : Request → Type 0) (requests : List Request) (places : List ℕ) → All P (chosen_requests requests places)
    → All (λ place. IfSome (slice_get requests place) P) places
at_places P requests [] all = All-nil (λ place. IfSome (slice_get requests place) P)
at_places P requests (place ∷ places) all =
    let parts = all_of_option P (slice_get requests place) (chosen_requests requests places) all in
    All-cons (λ place. IfSome (slice_get requests place) P) place places parts.0 (at_places P requests places parts.1)

from_places : (P : Request → Type 0) (requests : List Request) (places : List ℕ) → All (λ place. IfSome (slice_get requests place) P) places
    → All P (chosen_requests requests places)
from_places P requests [] all = All-nil P
from_places P requests (place ∷ places) all =
    let At : ℕ → Type 0 = λ place. IfSome (slice_get requests place) P in
    option_of_all P (slice_get requests place) (chosen_requests requests places) (All-head At place places all)
    (from_places P requests places (All-tail At place places all))

at_any_place : (P : Request → Type 0) (requests : List Request) → All P requests → (place : ℕ) → IfSome (slice_get requests place) P
at_any_place P [] all place = tt
at_any_place P (x ∷ xs) all zero = All-head P x xs all
at_any_place P (x ∷ xs) all (suc place) = at_any_place P xs (All-tail P x xs all) place

-- what holds of all requests holds of the chosen ones
all_chosen : (P : Request → Type 0) (requests : List Request) (places : List ℕ) → All P requests → All P (chosen_requests requests places)
all_chosen P requests places all = from_places P requests places (λ k d below. at_any_place P requests all (get_or places k d))

-- what holds of the chosen ones holds of the request at a chosen place
at_chosen : (P : Request → Type 0) (requests : List Request) (places : List ℕ) (place : ℕ) (d : Request)
    → All P (chosen_requests requests places) → Contains places place → place < length requests → P (get_or requests place d)
at_chosen P requests places place d all chosen below =
    let At : ℕ → Type 0 = λ place. IfSome (slice_get requests place) P in
    let at : IfSome (slice_get requests place) P = All-contains At places place (at_places P requests places all) chosen in
    subst (λ o. IfSome o P) (slice_get-get_or requests place d below) at

-- What the kept requests permit, all permit.
feasible_from_kept : (requests : List Request) (kept : List Kept) (implied : List Implied) (p : RatePair) → MeetsConditions requests kept implied
    → IsFeasible (chosen_requests requests (places_of kept)) p → IsFeasible requests p
feasible_from_kept requests kept implied p meets by_kept = λ place d below.
    let Permitted : Request → Type 0 = λ r. Permits r.tuple p in
    let at_kept : (at : ℕ) → Contains (places_of kept) at → at < length requests → Permits (get_or requests at d).tuple p =
    λ at is. at_chosen Permitted requests (places_of kept) at d by_kept is in
    elim (Contains-append_cases (places_of kept) (map (λ i. i.place) implied) place (meets.complete place below)) [
      | inl is_kept ↦ at_kept place is_kept below
      | inr is_implied ↦
          let none : Implied = record { place = 0; a = 0; b = 0; p = 0; q = 0; r = 0 } in
          let entry = entry_at (λ i. i.place) implied none place is_implied in
          let i = get_or implied entry.0 none in
          let neighbours = meets.places.neighbours entry.0 none entry.1 in
          let in_range = implied_in_range requests kept implied meets.places entry.0 none entry.1 in
          subst (λ at. Permits (get_or requests at d).tuple p) entry.2
          (Permits-from_Implies (get_or requests i.a d) (get_or requests i.b d) (get_or requests i.place d) i p
          (meets.implications place below entry.0 none entry.1 entry.2 d)
          (at_kept i.a neighbours.0 in_range.a) (at_kept i.b neighbours.1 in_range.b))
    ]

-- if requests don't all permit a pair, one of them forbids it
any_forbids : (M : Request → Type 0) (p : RatePair) (rs : List Request) → All M rs → (IsFeasible rs p → ⊥)
    → AnyByRecursion (λ r. M r × Forbids r.tuple p) rs
any_forbids M p [] all infeasible = absurd (infeasible (All-nil (λ r. Permits r.tuple p)))
any_forbids M p (r ∷ rs) all infeasible =
    elim (cases_lt (rate_of r.tuple * p.seconds) (p.bits + 8 * r.tuple.overhead * p.packets)) [
      | inl above ↦ inl (All-head M r rs all, above)
      | inr within ↦ inr (any_forbids M p rs (All-tail M r rs all)
          (λ rest. infeasible (All-cons (λ r. Permits r.tuple p) r rs within rest)))
    ]

-- some request
a_request : Request
a_request = record {
  owner = record { 0 = 0 };
  tuple = record {
    exp = 0;
    mantissa = 0;
    overhead = 0;
    exp_in_range = lit< tt;
    mantissa_in_range = lit< tt;
    overhead_in_range = lit< tt;
  };
}

-- no request forbids the pairs of two entries
apart : (requests : List Request) (kept : List Kept) (implied : List Implied) → MeetsConditions requests kept implied
    → AllPairs (λ j k. (r : Request) → Contains requests r × Forbids r.tuple (pair_of j.pair)
    → Contains requests r × Forbids r.tuple (pair_of k.pair) → ⊥) kept
apart requests kept implied meets = λ j k d before below r of_j of_k.
    let place = of_j.0 in
    let one : ForbidsOnePair kept r =
    subst (ForbidsOnePair kept) place.2 (meets.one_each place.0 place.1 r) in
    one j k d before below of_j.1 of_k.1

-- the chosen requests are requests
chosen_are_requests : (requests : List Request) (places : List ℕ) → All (Contains requests) (chosen_requests requests places)
chosen_are_requests requests places = all_chosen (Contains requests) requests places (All-contains_itself requests)

-- No faithful choice is shorter: it has, for each kept entry, a request that forbids its pair, and no request forbids two.
fewest_kept : (requests : List Request) (kept : List Kept) (implied : List Implied) → MeetsConditions requests kept implied
    → (others : List ℕ) → IsFaithful requests others → length (places_of kept) ≤ length others
fewest_kept requests kept implied meets others faithful =
    let Forbidding : Request → Kept → Type 0 = λ r k. Contains requests r × Forbids r.tuple (pair_of k.pair) in
    let partners : All (λ k. AnyByRecursion (λ r. Forbidding r k) (chosen_requests requests others)) kept = λ i d below.
    let k = get_or kept i d in
    let in_range : k.place < length requests = kept_in_range requests kept implied meets.places i d below in
    any_forbids (Contains requests) (pair_of k.pair) (chosen_requests requests others) (chosen_are_requests requests others)
    (λ feasible.
    let all = (faithful (pair_of k.pair) k.pair.some_time).0 feasible in
    not_both (get_or requests k.place a_request).tuple (pair_of k.pair)
    (all k.place a_request in_range) (meets.forbidden i d below a_request)) in
    let no_more = no_more_than_partners Forbidding (chosen_requests requests others) kept partners (apart requests kept implied meets) in
    let no_longer = length-chosen requests others in
    omega (arith, length-map kept (λ k. k.place))

pub IsSmallest-from_MeetsConditions : (requests : List Request) (kept : List Kept) (implied : List Implied)
    → MeetsConditions requests kept implied → IsSmallest requests (places_of kept)
IsSmallest-from_MeetsConditions requests kept implied meets = record {
  faithful = λ p some. (feasible_from_kept requests kept implied p meets, all_chosen (λ r. Permits r.tuple p) requests (places_of kept));
  fewest = fewest_kept requests kept implied meets;
}

-- the first of the named places are the kept ones
pub IsChoice-from_MeetsConditions : (requests : List Request) (kept : List Kept) (implied : List Implied)
    → MeetsConditions requests kept implied → IsChoice requests (places_of kept)
IsChoice-from_MeetsConditions requests kept implied meets =
    let named = meets.places.named in
    let rest = map (λ i. i.place) implied in
    record {
      in_range = λ k d below. All-contains (λ place. place < length requests) (named_places kept implied) (get_or (places_of kept) k d) named.in_range
          (Contains-append_left (places_of kept) rest (get_or (places_of kept) k d) (Contains-get_or (places_of kept) k d below));
      distinct = λ j k d before below.
          let front = length-append (places_of kept) rest in
          let at_j : get_or (named_places kept implied) j d ≡ get_or (places_of kept) j d = get_or_append_left (places_of kept) rest d j (omega arith) in
          let at_k : get_or (named_places kept implied) k d ≡ get_or (places_of kept) k d = get_or_append_left (places_of kept) rest d k below in
          rw (at_j, at_k) at (named.distinct j k d before (omega (arith, front)));
    }
