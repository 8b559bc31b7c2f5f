use Rattle.std.proofs.Common.{ℕ, ◌≡◌, ◌≤◌, List, length}
use Rattle.std.specs.Borrow.{Bor}
use Rattle.rtcp_compound.specs.Grammar.{RtcpPacket, HasReports, sources_end}
use Rattle.rtcp_compound.specs.declared.packet.Packet.{Packet as ReadPacket}
use Rattle.rtcp_compound.specs.declared.packet.TheConstants.{BYE}
use Rattle.rtcp_compound.specs.Reading.{IsReadWhole, rtcp_packet_of}
use Rattle.rtcp_compound.proofs.FrameLemmas.{gives_again, ok_again, goodbye_fits}
use Rattle.rtcp_compound.proofs.PacketLemmas.{reports_fit}
use Rattle.rtcp_compound.proofs.packet.read_again.Goals as goal

abbrev seen : ReadPacket × Bor (List ℕ) → RtcpPacket × List ℕ
seen x = (rtcp_packet_of x.0, x.1.now)

pub returns-clause-reads : goal.returns-clause-reads
returns-clause-reads c = gives_again seen c.args.bytes.now c.read_frame.result c.requires c.read_frame.ensures.reads

pub returns-clause-rest : goal.returns-clause-rest
returns-clause-rest c =
    ok_again seen (λ (x : ReadPacket × Bor (List ℕ)). IsReadWhole x.1.now) c.args.bytes.now c.read_frame.result c.requires c.read_frame.ensures.reads (λ x k. k.rest)

pub returns-clause-reports : goal.returns-clause-reports
returns-clause-reports c =
    ok_again seen (λ (x : ReadPacket × Bor (List ℕ)). HasReports x.0.kind x.0.count x.0.body.now) c.args.bytes.now c.read_frame.result c.requires c.read_frame.ensures.reads
    (λ x k. reports_fit x.0.kind x.0.count x.0.body.now k.fits)

pub returns-clause-goodbye : goal.returns-clause-goodbye
returns-clause-goodbye c =
    ok_again seen (λ (x : ReadPacket × Bor (List ℕ)). x.0.kind ≡ BYE → sources_end x.0.count ≤ length x.0.body.now) c.args.bytes.now c.read_frame.result c.requires c.read_frame.ensures.reads
    (λ x k. goodbye_fits x.0.kind x.0.count x.0.body.now k.fits)
