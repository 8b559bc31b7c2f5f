-- What the compounds of the unit begin with, and its reports upstream (RFC 3550, sections 6.1,
-- 6.4.2 and 6.5).
use Rattle.std.specs.Prelude.{ℕ, List, [], ◌∷◌, ◌++◌, Option, None, Some}
use Rattle.rtcp_compound.specs.declared.report.Block.{Block}
use Rattle.rtcp_compound.specs.Grammar.{packet_bytes}
use Rattle.rtcp_compound.specs.Report.{ReportBlock, block_of}
use Rattle.rtcp_compound.specs.Written.{rr_packet, cname_packet}
use Rattle.events.specs.declared.output.Out.{Out}
use Rattle.events.specs.declared.output.Out.TheVariants.{Send}

-- who the unit is: its source and its canonical name
pub record Identity : Type 0 where
  pub ssrc : ℕ
  pub cname : List ℕ

-- a receiver report of the unit with these blocks, and its description
-- (RFC 3550, sections 6.1, 6.4.2 and 6.5)
abbrev pub report_bytes : Identity → List ReportBlock → List ℕ
report_bytes unit blocks =
    packet_bytes (rr_packet unit.ssrc blocks) ++ packet_bytes (cname_packet unit.ssrc unit.cname)

-- what each compound of the unit begins with: a receiver report without blocks, and its
-- description (RFC 3550, sections 6.1, 6.4.2 and 6.5)
abbrev pub report_head : Identity → List ℕ
report_head unit = report_bytes unit []

abbrev pub blocks_of : Option Block → List ReportBlock
blocks_of None = []
blocks_of (Some block) = block_of block ∷ []

-- what the publisher is told of what came from it: a report with the block about it,
-- if any (RFC 3550, section 6.4.2)
abbrev pub upstream_report : Identity → ℕ → Option Block → List Out
upstream_report unit publisher block = Send publisher (report_bytes unit (blocks_of block)) ∷ []
