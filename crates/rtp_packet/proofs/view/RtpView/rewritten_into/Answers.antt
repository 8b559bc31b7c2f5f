use Rattle.std.proofs.Common.{length, drop, refl, arith}
use Rattle.rtp_packet.specs.Parts.{rtp_packet_of}
use Rattle.rtp_packet.proofs.WriteLemmas.{length-part, length-copied, length-numbered, addressed}
use Rattle.rtp_packet.proofs.view.RtpView.rewritten_into.Goals as goal

pub slice_bounds-write_u16-count : goal.slice_bounds-write_u16-count
slice_bounds-write_u16-count c =
    let size = length-copied c.args.self.now.datagram.now c.copy_from_slice.new.self (drop (length c.args.self.now.datagram.now) c.args.out.now)
    (rtp_packet_of c.args.self.now) c.args.self.now.is_read c.copy_from_slice.ensures.after in
    omega arith

pub slice_bounds-write_u16-start : goal.slice_bounds-write_u16-start
slice_bounds-write_u16-start c =
    let size = length-copied c.args.self.now.datagram.now c.copy_from_slice.new.self (drop (length c.args.self.now.datagram.now) c.args.out.now)
    (rtp_packet_of c.args.self.now) c.args.self.now.is_read c.copy_from_slice.ensures.after in
    omega arith

pub write_u16-requires : goal.write_u16-requires
write_u16-requires c =
    let size = length-copied c.args.self.now.datagram.now c.copy_from_slice.new.self (drop (length c.args.self.now.datagram.now) c.args.out.now)
    (rtp_packet_of c.args.self.now) c.args.self.now.is_read c.copy_from_slice.ensures.after in
    length-part 2 2 _ (omega arith)

pub slice_bounds-write_u32-count : goal.slice_bounds-write_u32-count
slice_bounds-write_u32-count c =
    let size = length-numbered c.args.self.now.datagram.now c.copy_from_slice.new.self (drop (length c.args.self.now.datagram.now) c.args.out.now)
    c.write_u16.new.buf (rtp_packet_of c.args.self.now) c.args.sequence_number c.args.self.now.is_read c.copy_from_slice.ensures.after c.write_u16.ensures in
    omega arith

pub slice_bounds-write_u32-start : goal.slice_bounds-write_u32-start
slice_bounds-write_u32-start c =
    let size = length-numbered c.args.self.now.datagram.now c.copy_from_slice.new.self (drop (length c.args.self.now.datagram.now) c.args.out.now)
    c.write_u16.new.buf (rtp_packet_of c.args.self.now) c.args.sequence_number c.args.self.now.is_read c.copy_from_slice.ensures.after c.write_u16.ensures in
    omega arith

pub write_u32-requires : goal.write_u32-requires
write_u32-requires c =
    let size = length-numbered c.args.self.now.datagram.now c.copy_from_slice.new.self (drop (length c.args.self.now.datagram.now) c.args.out.now)
    c.write_u16.new.buf (rtp_packet_of c.args.self.now) c.args.sequence_number c.args.self.now.is_read c.copy_from_slice.ensures.after c.write_u16.ensures in
    length-part 8 4 _ (omega arith)

pub returns-clause-written : goal.returns-clause-written
returns-clause-written c =
    addressed c.args.self.now.datagram.now c.copy_from_slice.new.self (drop (length c.args.self.now.datagram.now) c.args.out.now)
    c.write_u16.new.buf c.write_u32.new.buf (rtp_packet_of c.args.self.now) c.args.sequence_number c.args.ssrc.0 c.args.self.now.is_read
    c.copy_from_slice.ensures.after c.write_u16.ensures _ refl c.write_u32.ensures
