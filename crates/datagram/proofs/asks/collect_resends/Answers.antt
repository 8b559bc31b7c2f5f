use Rattle.std.proofs.Common.{List, [], ◌∷◌, ◌++◌, ◌∙◌, map, sym, ap, append_assoc}
use Rattle.rtcp_feedback.specs.Reading.{nacks_left}
use Rattle.rtcp_feedback.specs.declared.nack.Nack.{Nack}
use Rattle.datagram.specs.declared.reading.Ask.{Ask}
use Rattle.datagram.specs.declared.reading.Ask.TheVariants.{Resend}
use Rattle.datagram.proofs.ReaderLemmas.{listed_more}
use Rattle.datagram.proofs.asks.collect_resends.Goals as goal

pub loop-nack-preserved : goal.loop-nack-preserved
loop-nack-preserved c =
    let (done, lists, all) = c.loop-nack.invariant in
    let ask : Ask = Resend c.args.media c.in-Some.nack in
    let asked : List Nack → List Ask = map (λ n. Resend c.args.media n) in (
      done ++ ask ∷ [],
      (λ asks listed. listed_more c.args.most asks done (ask ∷ []) c.list.new.reading (c.in_ok-list.ensures (asks ++ done) (lists asks listed))),
      all ∙ ap (λ (l : List Nack). done ++ asked l) c.in-Some.ensures.steps ∙ sym (append_assoc done (ask ∷ []) (asked (nacks_left c.next.new.self))),
    )
