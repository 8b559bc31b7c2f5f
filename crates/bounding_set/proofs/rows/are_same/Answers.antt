use Rattle.std.proofs.lemmas.Slice.Eq.{slice_eq-Decides}
use Rattle.rate_cert.proofs.RequestLemmas.{Decides-request_eq}
use Rattle.bounding_set.proofs.rows.are_same.Goals as goal

pub returns : goal.returns
returns c = slice_eq-Decides Decides-request_eq _ _ _ c.eq.ensures
