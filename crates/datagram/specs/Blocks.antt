-- The report blocks of a datagram.
use Rattle.std.specs.Prelude.{List, []}
use Rattle.rtcp_compound.specs.Content.{Content, sender_report, receiver_report, description, goodbye, feedback, other}
use Rattle.rtcp_compound.specs.Report.{ReportBlock}

-- the report blocks of a packet: those of a sender report or a receiver report (RFC 3550, sections 6.4.1 and 6.4.2)
abbrev pub blocks_said : Content → List ReportBlock
blocks_said (sender_report sender ntp rtp packets octets blocks) = blocks
blocks_said (receiver_report sender blocks) = blocks
blocks_said (description count chunks) = []
blocks_said (goodbye sources) = []
blocks_said (feedback fmt kind body) = []
blocks_said (other count kind body) = []
