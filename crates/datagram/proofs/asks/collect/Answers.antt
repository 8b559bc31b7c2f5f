use Rattle.std.proofs.Common.{[], ◌++◌, ◌∙◌, List, Ok, sym, refl, ap, subst, append_assoc}
use Rattle.std.proofs.lemmas.List.{append-nil}
use Rattle.rtcp_compound.specs.Content.{Content}
use Rattle.rtcp_compound.specs.declared.unread.Packets.{Packets}
use Rattle.rtcp_compound.specs.Left.{contents_left}
use Rattle.datagram.specs.declared.reading.Ask.{Ask}
use Rattle.datagram.specs.Reads.{IsListed}
use Rattle.datagram.specs.Saying.{Gist, PacketsSay}
use Rattle.datagram.proofs.ReaderLemmas.{listed_more}
use Rattle.datagram.proofs.asks.collect.Goals as goal

pub loop-packet-init : goal.loop-packet-init
loop-packet-init c = λ gist say. (
  [],
  gist,
  subst (λ (p : Packets). PacketsSay (contents_left p) (Ok gist)) (sym c.into_iter-packet-iterator.ensures.into_iter_gives) say,
  (λ asks listed. subst (λ (l : List Ask). IsListed c.args.most l c.args.reading.now) (sym (append-nil asks)) listed),
  refl,
)

pub loop-packet-preserved : goal.loop-packet-preserved
loop-packet-preserved c = λ gist say.
    let (done, rest, says, lists, all) = c.loop-packet.invariant gist say in
    let here : List Content → Type 0 = λ cs. PacketsSay cs (Ok rest) in
    let (first, others, one, more, is) = subst here c.in-Some.ensures.steps says in (
      done ++ first.asks,
      others,
      more,
      (λ asks listed. listed_more c.args.most asks done first.asks c.collect_packet.new.reading
          (c.in_ok-collect_packet.ensures first one (asks ++ done) (lists asks listed))),
      all ∙ ap (λ (g : Gist). done ++ g.asks) is ∙ sym (append_assoc done first.asks others.asks),
    )
