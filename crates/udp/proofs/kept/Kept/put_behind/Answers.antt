use Rattle.std.proofs.Common.{arith, length, refl, ◌∙◌, ◌+◌, ◌-◌}
use Rattle.std.proofs.lemmas.List.Edits.{paste_all}
use Rattle.std.proofs.lemmas.Slice.{put_mid-paste}
use Rattle.udp.proofs.kept.Kept.put_behind.Goals as goal

pub returns-clause-put : goal.returns-clause-put
returns-clause-put c =
    put_mid-paste 65535 (65535 + length c.args.packet.now - 65535) c.args.out.now c.copy_from_slice.new.self c.args.packet.now
    (length c.args.packet.now) c.copy_from_slice.ensures.after (omega arith) refl
    ∙ paste_all c.args.out.now 65535 c.args.packet.now (length c.args.packet.now) refl
