use Rattle.std.proofs.Common.{List, ◌∙◌, ap, take}
use Rattle.std.specs.List.{flat_map}
use Rattle.rtcp_compound.specs.Content.{content_of}
use Rattle.rtcp_compound.specs.Report.{ReportBlock}
use Rattle.datagram.specs.Blocks.{blocks_said}
use Rattle.datagram.specs.Kinds.{kinds_with}
use Rattle.datagram.specs.declared.kinds.Kinds.{Kinds}
use Rattle.datagram.proofs.NoteLemmas.{blocks_more, kinds_more}
use Rattle.datagram.proofs.notes.Notes.note.Goals as goal

pub returns-clause-noted : goal.returns-clause-noted
returns-clause-noted c = λ done noted.
    let here = content_of c.args.packet in record {
      kinds = c.with-self.ensures ∙ ap (λ (k : Kinds). kinds_with k here) noted.kinds ∙ kinds_more done here;
      blocks = c.note_blocks.ensures.noted (flat_map blocks_said done) noted.blocks
          ∙ ap (λ (bs : List ReportBlock). take c.args.self.now.most_blocks bs) (blocks_more done here);
      notice = c.note_notice.ensures.noted done noted.notice;
    }
