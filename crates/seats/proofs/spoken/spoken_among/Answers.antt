use Rattle.std.proofs.Common.{List, [], ◌∷◌, ◌++◌, ◌∙◌, sym, ap, append_assoc}
use Rattle.std.proofs.lemmas.List.{append-nil}
use Rattle.std.proofs.lemmas.List.Sums.{fold-append}
use Rattle.rtcp_compound.specs.Content.{Content, content_of}
use Rattle.rtcp_compound.specs.Left.{contents_left}
use Rattle.seats.specs.Spoken.{silent, spoken_in, spoken_with}
use Rattle.seats.specs.declared.spoken.Spoken.{Spoken}
use Rattle.seats.proofs.spoken.spoken_among.Goals as goal

pub loop-packet-preserved : goal.loop-packet-preserved
loop-packet-preserved c =
    let (done, spoken, all) = c.loop-packet.invariant in
    let here = content_of c.in-Some.packet in (
      done ++ here ∷ [],
      c.with-spoken.ensures ∙ ap (λ (s : Spoken). spoken_with s here) spoken ∙ sym (fold-append spoken_with silent done (here ∷ [])),
      all ∙ ap (λ (l : List Content). done ++ l) c.in-Some.ensures.steps ∙ sym (append_assoc done (here ∷ []) (contents_left c.next.new.self)),
    )

pub returns : goal.returns
returns c =
    let (done, spoken, all) = c.loop-packet.invariant in
    spoken ∙ ap spoken_in (sym (all ∙ ap (λ (l : List Content). done ++ l) c.in-None.ensures.steps.0 ∙ append-nil done))
