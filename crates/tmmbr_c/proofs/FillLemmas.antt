-- The requests of owners, in the order of these.
use Rattle.std.proofs.Common.{◌≡◌, ℕ, ◌<◌, ◌≤◌, List, length, get_or, Result, Ok, Err, refl, ap, ◌∙◌, arith}
use Rattle.std.specs.Prelude.{All, OnOk}
use Rattle.std.specs.List.{HoldsAt}
use Rattle.std.proofs.lemmas.List.{get_or-map, length-map}
use Rattle.rate_cert.specs.declared.request.Request.{Request}
use Rattle.rate_cert.specs.Owners.{OwnersRise}
use Rattle.bounding_set.specs.declared.rows.TheConstants.{LIVE_LIMIT}
use Rattle.bounding_set.specs.declared.rows.RowsFault.{RowsFault}
use Rattle.bounding_set.specs.declared.rows.RowsFault.TheVariants.{TooMany, NotRising}
use Rattle.bounding_set.specs.Rows.{HasRisingOwners}
use Rattle.tmmbr_c.specs.declared.order.OwnerPlace.{OwnerPlace}
use Rattle.tmmbr_c.specs.Order.{ordered}

module _ (requests : List Request) (order : List OwnerPlace) (d : Request) where
  abbrev at : OwnerPlace → Request
  at o = get_or requests o.place d

  pub length-ordered : length (ordered requests d order) ≡ length order
  length-ordered = length-map order at

  -- the request at a place is its owner's
  owner_there : All (λ o. HoldsAt (λ r. r.owner.0 ≡ o.ssrc) requests o.place) order → (k : ℕ) (e : Request) (o : OwnerPlace) → k < length order
      → (get_or (ordered requests d order) k e).owner.0 ≡ (get_or order k o).ssrc
  owner_there owns k e o below = ap (λ (r : Request). r.owner.0) (get_or-map at order k o e below) ∙ owns k o below d

  -- if owners rise, so do those of their requests
  pub ordered-rises : OwnersRise (λ o. o.ssrc) order → All (λ o. HoldsAt (λ r. r.owner.0 ≡ o.ssrc) requests o.place) order
      → HasRisingOwners (ordered requests d order)
  ordered-rises rising owns i j e before below =
      let o : OwnerPlace = record { ssrc = 0; place = 0 } in
      let in_j : j < length order = omega (arith, length-ordered) in
      let in_i : i < length order = omega arith in
      omega (arith, owner_there owns i e o in_i, owner_there owns j e o in_j, rising i j o before in_j)

-- a call that isn't refused, since they rise and there is room, leaves them as the rows
pub put_all-is : (requests rows : List Request) (result : Result Unit RowsFault) → HasRisingOwners requests → length requests ≤ LIVE_LIMIT
    → (result ≡ Err TooMany → LIVE_LIMIT < length requests)
    → (result ≡ Err NotRising → (length requests ≤ LIVE_LIMIT) × (HasRisingOwners requests → ⊥)) → OnOk result (rows ≡ requests) → rows ≡ requests
put_all-is requests rows (Ok done) rising few too_many not_rising is = is
put_all-is requests rows (Err TooMany) rising few too_many not_rising is = absurd (omega (arith, few, too_many refl))
put_all-is requests rows (Err NotRising) rising few too_many not_rising is = absurd ((not_rising refl).1 rising)
