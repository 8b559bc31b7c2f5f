-- No more owners are lifted than an effect has room for.
use Rattle.std.proofs.Common.{◌≤◌, List, length, arith}
use Rattle.tmmbr_tuple.specs.declared.ssrc.Ssrc.{Ssrc}
use Rattle.rate_cert.specs.declared.certificate.TheConstants.{MAX_REQUESTS}
use Rattle.settings.specs.Links.{IsLinkTable, LinkTable}

pub few_lifted : (table : LinkTable) (lifted : List Ssrc) → IsLinkTable table → length lifted ≤ length table.endpoints
    → length lifted ≤ MAX_REQUESTS
few_lifted table lifted is few = omega (arith, is.most_endpoints, few)
