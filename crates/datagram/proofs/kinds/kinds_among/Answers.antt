use Rattle.std.proofs.Common.{List, [], ◌∷◌, ◌++◌, ◌∙◌, sym, ap, append_assoc}
use Rattle.std.proofs.lemmas.List.{append-nil}
use Rattle.rtcp_compound.specs.Content.{Content, content_of}
use Rattle.rtcp_compound.specs.Left.{contents_left}
use Rattle.datagram.specs.Kinds.{kinds_in, kinds_with}
use Rattle.datagram.specs.declared.kinds.Kinds.{Kinds}
use Rattle.datagram.proofs.NoteLemmas.{kinds_more}
use Rattle.datagram.proofs.kinds.kinds_among.Goals as goal

pub loop-packet-preserved : goal.loop-packet-preserved
loop-packet-preserved c =
    let (done, counted, all) = c.loop-packet.invariant in
    let here = content_of c.in-Some.packet in (
      done ++ here ∷ [],
      c.with-kinds.ensures ∙ ap (λ (k : Kinds). kinds_with k here) counted ∙ kinds_more done here,
      all ∙ ap (λ (l : List Content). done ++ l) c.in-Some.ensures.steps ∙ sym (append_assoc done (here ∷ []) (contents_left c.next.new.self)),
    )

pub returns : goal.returns
returns c =
    let (done, counted, all) = c.loop-packet.invariant in
    counted ∙ ap kinds_in (sym (all ∙ ap (λ (l : List Content). done ++ l) c.in-None.ensures.steps.0 ∙ append-nil done))
