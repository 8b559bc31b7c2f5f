-- What is heard once more is of a subscriber that is live.
use Rattle.std.proofs.Common.{◌≡◌, ℕ, ◌+◌, Bool, true, false, List, [], ◌∷◌, refl, subst}
use Rattle.std.specs.Prelude.{◌&&◌, nat_lt, Option, None, Some, slice_get, if◌then◌else◌}
use Rattle.policy.specs.Again.{HoldTerms, IsOfTheLive, again_from, asked_again, asked_for, held_at, held_of, is_live, is_young, next_again, or_next}
use Rattle.policy.specs.declared.again.Again.{Again}
use Rattle.policy.specs.declared.requests.HeldRequest.{HeldRequest}
use Rattle.policy.specs.declared.requests.LegRequest.{LegRequest}

by_age : (t : HoldTerms) (leg : ℕ) (place : LegRequest) (request : HeldRequest) (again : Again) (young live : Bool)
    → slice_get t.requests leg ≡ Some place → place.request ≡ Some request → is_live t place.subscriber ≡ live
    → asked_for t leg (if young && live then Some request else None) ≡ Some again → IsOfTheLive t again
by_age t leg place request again true true at is live asked = record {
  leg = leg;
  place = place;
  request = request;
  held = at;
  requested = is;
  asked = asked;
  live = live;
}
by_age t leg place request again true false at is live asked = absurd (cc)
by_age t leg place request again false live at is gone asked = absurd (cc)

by_request : (t : HoldTerms) (leg : ℕ) (place : LegRequest) (request : Option HeldRequest) (again : Again)
    → slice_get t.requests leg ≡ Some place → place.request ≡ request → asked_for t leg (held_of t place.subscriber request) ≡ Some again
    → IsOfTheLive t again
by_request t leg place None again at is asked = absurd (cc)
by_request t leg place (Some request) again at is asked =
    by_age t leg place request again (is_young t request) (is_live t place.subscriber) at is refl asked

by_place : (t : HoldTerms) (leg : ℕ) (place : Option LegRequest) (again : Again) → slice_get t.requests leg ≡ place
    → asked_for t leg (held_at t place) ≡ Some again → IsOfTheLive t again
by_place t leg None again at asked = absurd (cc)
by_place t leg (Some place) again at asked = by_request t leg place place.request again at refl asked

from_there : (early : Bool) (asked : Option Again) (again : Again) → (if early then None else asked) ≡ Some again → asked ≡ Some again
from_there true asked again is = absurd (cc)
from_there false asked again is = is

of_leg : (t : HoldTerms) (from n leg : ℕ) (again : Again) → again_from t from n leg ≡ Some again → IsOfTheLive t again
of_leg t from n leg again is =
    by_place t leg (slice_get t.requests leg) again refl (from_there (nat_lt n from) (asked_again t leg) again is)

by_first : (t : HoldTerms) (n : ℕ) (first : Option Again) (rest : Option (ℕ × Again)) (next : ℕ × Again)
    → ((again : Again) → first ≡ Some again → IsOfTheLive t again) → (rest ≡ Some next → IsOfTheLive t next.1)
    → or_next n first rest ≡ Some next → IsOfTheLive t next.1
by_first t n None rest next of_first of_rest is = of_rest is
by_first t n (Some again) rest next of_first of_rest is =
    let P : ℕ × Again → Type 0 = λ found. IsOfTheLive t found.1 in
    let same : (n, again) ≡ next = cc in
    subst P same (of_first again refl)

pub is_of_the_live : (t : HoldTerms) (from n : ℕ) (legs : List ℕ) (next : ℕ × Again) → next_again t from n legs ≡ Some next
    → IsOfTheLive t next.1
is_of_the_live t from n [] next is = absurd (cc)
is_of_the_live t from n (leg ∷ legs) next is =
    by_first t n (again_from t from n leg) (next_again t from (n + 1) legs) next (of_leg t from n leg)
    (is_of_the_live t from (n + 1) legs next) is
