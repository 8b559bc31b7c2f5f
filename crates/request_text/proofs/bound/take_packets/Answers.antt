use Rattle.std.proofs.Common.{List, ap, subst, ◌∙◌}
use Rattle.std.proofs.lemmas.Result.{err_from_is_err_and}
use Rattle.rtcp_compound.specs.Content.{Content}
use Rattle.request_text.specs.Asked.{AskTogether, Change}
use Rattle.request_text.specs.Lines.{after_changes}
use Rattle.request_text.proofs.LiveLemmas.{after_changes-append, bind_err, bind_ok}
use Rattle.request_text.proofs.bound.take_packets.Goals as goal

pub loop-packet-preserved : goal.loop-packet-preserved
loop-packet-preserved c = λ changes live together are.
    let now = c.loop-packet.invariant changes live together are in
    let asks = subst (λ (cs : List Content). AskTogether c.args.media.0 cs now.0) c.in-Some.ensures.steps now.2 in
    let taken = c.in_ok-take_packet.ensures asks.0 now.1 asks.2 now.3 in (
      asks.1,
      taken.0,
      asks.3,
      taken.2,
      now.4 ∙ ap (λ (cs : List Change). after_changes cs now.1) asks.4 ∙ after_changes-append asks.0 asks.1 now.1
          ∙ bind_ok (after_changes asks.0 now.1) taken.0 (after_changes asks.1) taken.1,
    )

pub returns-in_err-take_packet : goal.returns-in_err-take_packet
returns-in_err-take_packet c = λ changes live together are.
    let now = c.loop-packet.invariant changes live together are in
    let asks = subst (λ (cs : List Content). AskTogether c.args.media.0 cs now.0) c.in-Some.ensures.steps now.2 in
    let p = err_from_is_err_and c.from_residual.result c.from_residual.ensures.1 in
    rw (p.1, p.2)
    (now.4 ∙ ap (λ (cs : List Change). after_changes cs now.1) asks.4 ∙ after_changes-append asks.0 asks.1 now.1
    ∙ bind_err (after_changes asks.0 now.1) c.in_err-take_packet.field-0.0 (after_changes asks.1)
    (c.in_err-take_packet.ensures asks.0 now.1 asks.2 now.3))
