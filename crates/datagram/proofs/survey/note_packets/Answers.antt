use Rattle.std.proofs.Common.{◌≤◌, ℕ, List, [], ◌∷◌, ◌++◌, ◌∙◌, sym, ap, subst, append_assoc}
use Rattle.std.specs.Prelude.{IfOk}
use Rattle.std.proofs.lemmas.List.{length-append}
use Rattle.rtcp_compound.specs.Content.{Content, content_of}
use Rattle.rtcp_compound.specs.Left.{contents_left}
use Rattle.datagram.proofs.survey.note_packets.Goals as goal

pub loop-packet-preserved : goal.loop-packet-preserved
loop-packet-preserved c =
    let (room, noting) = c.loop-packet.invariant in
    let (done, all, noted, say, few) = noting in
    let here = content_of c.in-Some.packet in
    let further = c.survey_further-all in
    let counted : ℕ → Type 0 = λ n. IfOk further.result (λ s. s.control.tmmbns ≤ n) in (
      (c.note.ensures.room.0 ∙ room.0, c.note.ensures.room.1 ∙ room.1),
      (
        done ++ here ∷ [],
        all ∙ ap (λ (l : List Content). done ++ l) c.in-Some.ensures.steps ∙ sym (append_assoc done (here ∷ []) (contents_left c.next.new.self)),
        c.note.ensures.noted done noted,
        further.ensures.said done say,
        subst counted (sym (length-append done (here ∷ []))) (further.ensures.counted _ few),
      ),
    )
