use Rattle.std.proofs.Common.{◌∙◌, ap}
use Rattle.datagram.specs.declared.notes.Notes.{Notes}
use Rattle.udp.proofs.kept.Kept.read.Goals as goal

pub returns-clause-room : goal.returns-clause-room
returns-clause-room c = (
  c.read_noting.ensures.room.0 ∙ ap (λ (n : Notes). n.most_blocks) c.stand_for.ensures.notes,
  c.read_noting.ensures.room.1 ∙ ap (λ (n : Notes). n.most_entries) c.stand_for.ensures.notes,
)
