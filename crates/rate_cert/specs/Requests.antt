-- What requests permit together (RFC 5104, sections 2.2 and 3.5.4.2).
use Rattle.std.specs.Prelude.{List, All}
use Rattle.tmmbr_tuple.specs.RatePair.{RatePair, Permits}
use Rattle.rate_cert.specs.declared.request.Request.{Request}

-- A pair lies in the feasible region of the requests (RFC 5104, section 3.5.4.2) if each of them
-- permits it. With no request each pair does.
abbrev pub IsFeasible : List Request → RatePair → Type 0
IsFeasible requests p = All (λ r. Permits r.tuple p) requests
