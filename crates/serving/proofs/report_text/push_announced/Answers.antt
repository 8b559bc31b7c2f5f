use Rattle.std.proofs.Common.{◌∙◌, ◌++◌, ap, arith, string_bytes}
use Rattle.tmmbr_tuple.specs.declared.ssrc.Ssrc.{Ssrc}
use Rattle.bounding_set.specs.State.{announced_of}
use Rattle.request_text.specs.BoundText.{announced_line}
use Rattle.serving.proofs.ReportLemmas.{pushed}
use Rattle.serving.proofs.report_text.push_announced.Goals as goal

-- what stands past the last sender
nobody : Ssrc
nobody = record { 0 = 0 }

pub loop-number-preserved : goal.loop-number-preserved
unfolding nobody
loop-number-preserved c =
    pushed c.args.senders.now c.args.desks.now c.loop-number.number nobody c.index-desks-number.result _ _ _ _
    (omega (arith, c.requires, c.loop-number-test.true)) c.loop-number-test.true
    (c.in_ok-push_str.ensures.bytes ∙ ap (λ x. string_bytes c.loop-number.text ++ x) c.as_str.ensures.value)
    (c.in_ok-line.ensures ∙ ap (announced_line _) (c.as_slice.ensures.value ∙ c.announced-announced.ensures.value ∙ ap (λ d. announced_of d.bounds) c.index-desks-number.is))
    c.loop-number.invariant
