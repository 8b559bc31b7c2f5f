-- A report upstream in the making.
use Rattle.std.specs.Prelude.{◌≡◌, ◌≤◌, ◌+◌, [], vec_len, vec_capacity}
use Rattle.rtcp_compound.specs.Grammar.{packet_bytes}
use Rattle.rtcp_compound.specs.Written.{cname_packet}
use Rattle.desk_calls.specs.declared.head.Draft.{Draft}
use Rattle.desk_calls.specs.Head.{Identity}

-- there is room for a receiver report with a block, and for it with the description, which stands
pub record IsDraft (unit : Identity) (d : Draft) : Type 0 where
  pub no_report : d.report.items ≡ []
  pub no_report_length : vec_len d.report ≡ 0
  pub room : 32 ≤ vec_capacity d.report
  pub no_datagram : d.datagram.items ≡ []
  pub no_length : vec_len d.datagram ≡ 0
  pub room_for_all : 32 + vec_len d.description ≤ vec_capacity d.datagram
  pub description : d.description.items ≡ packet_bytes (cname_packet unit.ssrc unit.cname)
