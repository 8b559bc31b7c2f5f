use Rattle.std.proofs.Common.{List, [], ◌∷◌, ◌++◌, ◌∙◌, map, sym, ap, append_assoc}
use Rattle.rtcp_feedback.specs.Reading.{entries_left}
use Rattle.rtcp_feedback.specs.declared.tmmb.TmmbrEntry.{TmmbrEntry}
use Rattle.datagram.specs.declared.reading.Ask.{Ask}
use Rattle.datagram.specs.declared.reading.Ask.TheVariants.{Rate}
use Rattle.datagram.proofs.ReaderLemmas.{listed_more}
use Rattle.datagram.proofs.asks.collect_rates.Goals as goal

pub loop-entry-preserved : goal.loop-entry-preserved
loop-entry-preserved c =
    let (done, lists, all) = c.loop-entry.invariant in
    let ask : Ask = Rate c.in-Some.entry.ssrc c.in-Some.entry.word in
    let asked : List TmmbrEntry → List Ask = map (λ e. Rate e.ssrc e.word) in (
      done ++ ask ∷ [],
      (λ asks listed. listed_more c.args.most asks done (ask ∷ []) c.list.new.reading (c.in_ok-list.ensures (asks ++ done) (lists asks listed))),
      all ∙ ap (λ (l : List TmmbrEntry). done ++ asked l) c.in-Some.ensures.steps ∙ sym (append_assoc done (ask ∷ []) (asked (entries_left c.next.new.self))),
    )
