-- When requests are equal.
use Rattle.std.proofs.Common.{◌≡◌, ap}
use Rattle.std.specs.Bool.{Decides}
use Rattle.std.proofs.lemmas.Bool.Decides.{Decides-eqb, Decides-and, Decides-like}
use Rattle.tmmbr_tuple.proofs.TupleLemmas.{same_tuple}
use Rattle.rate_cert.specs.declared.request.Request.{Request}
use Rattle.rate_cert.specs.contracts.request.RequestPartialEq.TheImpl.{eq-value as request_eq}

-- `==` of requests
pub Decides-request_eq : (a b : Request) → Decides (request_eq.it a b) (a ≡ b)
Decides-request_eq a b =
    Decides-like (request_eq.it a b)
    (λ same i. record { owner = record { 0 = same.0 i }; tuple = same_tuple a.tuple b.tuple same.1.0 same.1.1.0 same.1.1.1 i })
    (λ same. (
      ap (λ (r : Request). r.owner.0) same,
      (
        ap (λ (r : Request). r.tuple.exp) same,
        (ap (λ (r : Request). r.tuple.mantissa) same, ap (λ (r : Request). r.tuple.overhead) same),
      ),
    ))
    (Decides-and _ _ (Decides-eqb a.owner.0 b.owner.0)
    (Decides-and _ _ (Decides-eqb a.tuple.exp b.tuple.exp)
    (Decides-and _ _ (Decides-eqb a.tuple.mantissa b.tuple.mantissa) (Decides-eqb a.tuple.overhead b.tuple.overhead))))
