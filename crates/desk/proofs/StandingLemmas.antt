-- What stands after a call that isn't refused.
use Rattle.std.proofs.Common.{◌≡◌, ℕ, ◌≤◌, length, None, Some, refl, sym, ap, ◌∙◌, arith}
use Rattle.std.specs.Prelude.{◌↔◌, Bool, Result, Ok, Err, IsOk, IsErr, OnOk, IsNone, Option}
use Rattle.bounding_set.specs.declared.rows.Full.{Full as FullRows}
use Rattle.bounding_set.specs.declared.rows.TheConstants.{LIVE_LIMIT}
use Rattle.bounding_set.specs.Rows.{tuple_of}
use Rattle.bounding_set.specs.State.{State}
use Rattle.desk.specs.declared.base.Base.{Base}
use Rattle.desk.specs.Presence.{live_requests, stay_in, unless_present_with}
use Rattle.desk.specs.Standing.{IsStand}
use Rattle.desk.proofs.PresenceLemmas.{stay_in-named}
use Rattle.desk.proofs.LiveLemmas.{room_for_request}

none_is : {X : Type 0} (o : Option X) → IsNone o → o ≡ None
none_is None is = refl
none_is (Some x) is = absurd (cc)

pub from_ok : {X E : Type 0} (r : Result X E) (P : Type 0) → IsOk r → OnOk r P → P
from_ok (Ok x) P ok holds = holds
from_ok (Err e) P ok holds = absurd (cc)

-- the request of an owner that is present always finds room: fewer are live than present
pub never_full : (base : Base) (bounds : State) (owner stay : ℕ) (r : Result Bool FullRows)
    → IsStand base bounds → 1 ≤ stay → unless_present_with base.present.items owner stay ≡ None
    → (IsErr r ↔ (IsNone (tuple_of bounds.rows owner) × (length bounds.rows ≡ LIVE_LIMIT))) → IsOk r
never_full base bounds owner stay (Ok changed) stand from accepted full = refl
never_full base bounds owner stay (Err e) stand from accepted full =
    let present = base.present.items in
    let why = full.0 refl in
    let is : stay_in present owner ≡ stay = stay_in-named present owner stay accepted in
    let none : tuple_of (live_requests present) owner ≡ None =
    ap (λ rs. tuple_of rs owner) (sym stand.live) ∙ none_is (tuple_of bounds.rows owner) why.0 in
    let room = room_for_request present owner (omega (arith, is, from)) none in
    absurd (omega (arith, room, stand.base.few, why.1, ap length stand.live))
