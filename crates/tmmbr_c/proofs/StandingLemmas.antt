-- The owners of rows that rise are in order.
use Rattle.std.proofs.Common.{◌≡◌, ◌∙◌, ℕ, ◌<◌, ◌≤◌, List, length, map, get_or, refl, sym, ap, subst, arith}
use Rattle.std.proofs.lemmas.List.{get_or-map, get_or_default, length-map, same_lists}
use Rattle.rate_cert.specs.declared.request.Request.{Request}
use Rattle.rate_cert.specs.declared.certificate.TheConstants.{MAX_REQUESTS}
use Rattle.bounding_set.specs.Rows.{HasRisingOwners}
use Rattle.tmmbr_c.specs.declared.order.OwnerPlace.{OwnerPlace}
use Rattle.tmmbr_c.specs.Numbers.{asked_request}
use Rattle.tmmbr_c.specs.Order.{OrdersRequests, ordered}

-- the owners of rows that rise, each with its own place
pub record OrdersRows (rows : List Request) (order : List OwnerPlace) : Type 0 where
  pub few : length rows ≤ MAX_REQUESTS
  pub rising : HasRisingOwners rows
  pub as_many : length order ≡ length rows
  pub each : (k : ℕ) (d : OwnerPlace) (e : Request) → k < length rows
      → get_or order k d ≡ record { ssrc = (get_or rows k e).owner.0; place = k }

module _ (rows : List Request) (order : List OwnerPlace) (is : OrdersRows rows order) where
  pub rows_ordered : OrdersRequests rows order
  rows_ordered =
      let none : Request = asked_request (record { ssrc = 0; exponent = 0; mantissa = 0; overhead = 0 }) in
      record {
        few = omega (arith, is.as_many, is.few);
        rising = λ i j d before below.
            let in_j : j < length rows = omega (arith, is.as_many, below) in
            let in_i : i < length rows = omega (arith, before, in_j) in
            omega (arith, is.rising i j none before in_j, ap (λ (o : OwnerPlace). o.ssrc) (is.each i d none in_i), ap (λ (o : OwnerPlace). o.ssrc) (is.each j d none in_j));
        in_range = λ k d below.
            let within : k < length rows = omega (arith, is.as_many, below) in
            omega (arith, within, ap (λ (o : OwnerPlace). o.place) (is.each k d none within));
        owns = λ k d below e.
            let within : k < length rows = omega (arith, is.as_many, below) in
            ap (λ (p : ℕ). (get_or rows p e).owner.0) (ap (λ (o : OwnerPlace). o.place) (is.each k d e within))
            ∙ sym (ap (λ (o : OwnerPlace). o.ssrc) (is.each k d e within));
        every = λ place below.
            let o : OwnerPlace = record { ssrc = (get_or rows place none).owner.0; place = place } in
            (place, o, omega (arith, is.as_many, below), is.each place o none below, refl);
      }

  pub rows_are : (d : Request) → rows ≡ ordered rows d order
  rows_are d =
      let o : OwnerPlace = record { ssrc = 0; place = 0 } in
      let at : OwnerPlace → Request = λ o. get_or rows o.place d in
      let long : length rows ≡ length (map at order) = sym (length-map order at ∙ is.as_many) in
      same_lists rows (map at order) long (λ k e below.
      let in_order : k < length order = omega (arith, is.as_many, below) in
      sym (get_or-map at order k o e in_order
      ∙ ap (λ (p : ℕ). get_or rows p d) (ap (λ (o : OwnerPlace). o.place) (is.each k o d below))
      ∙ get_or_default rows k d e below))

-- the same of equal lists
pub orders_shown : (rows shown : List Request) (order items : List OwnerPlace) → shown ≡ rows → order ≡ items
    → length rows ≤ MAX_REQUESTS → HasRisingOwners rows → length items ≡ length shown
    → ((k : ℕ) (d : OwnerPlace) (e : Request) → k < length shown
    → get_or items k d ≡ record { ssrc = (get_or shown k e).owner.0; place = k }) → OrdersRows rows order
orders_shown rows shown order items same_rows same_order few rising as_many each =
    subst (OrdersRows rows) (sym same_order)
    (subst (λ rs. OrdersRows rs items) same_rows
    (record {
      few = subst (λ (rs : List Request). length rs ≤ MAX_REQUESTS) (sym same_rows) few;
      rising = subst HasRisingOwners (sym same_rows) rising;
      as_many = as_many;
      each = each;
    }))
