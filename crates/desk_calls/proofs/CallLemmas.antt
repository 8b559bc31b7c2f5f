-- The source of an endpoint.
use Rattle.std.proofs.Common.{◌≡◌, ℕ, get_or}
use Rattle.std.specs.Prelude.{slice_get, unwrap_or}
use Rattle.std.proofs.lemmas.Option.{unwrap_or-slice_get}
use Rattle.tmmbr_tuple.specs.declared.ssrc.Ssrc.{Ssrc}
use Rattle.settings.specs.Links.{LinkTable}

pub source_read : (t : LinkTable) (endpoint : ℕ) (d : Ssrc) → unwrap_or (slice_get t.endpoints endpoint) d ≡ get_or t.endpoints endpoint d
source_read t endpoint d = unwrap_or-slice_get t.endpoints endpoint d
