use Rattle.std.proofs.Common.{◌<◌, length, set, None, ◌∙◌, sym, ap, arith}
use Rattle.std.proofs.lemmas.List.{set-get_or}
use Rattle.desk.specs.declared.presence.Present.{Present}
use Rattle.desk.proofs.EffectLemmas.{refill-whole}
use Rattle.desk.proofs.PresenceLemmas.{aged-all, aged_old, aged_young, is_aged}
use Rattle.desk.proofs.presence.expire.Goals as goal
use Rattle.desk.proofs.presence.expire.Goals.{then-is_too_old, else-is_too_old}

pub loop-p-init : goal.loop-p-init
loop-p-init c = c.as_mut_slice-slice.ensures.value

pub loop-p-preserved : goal.loop-p-preserved
loop-p-preserved c =
    let present = c.args.present.now.items in
    let i = c.loop-p.p-index in
    let below : i < length present = omega (arith, c.loop-p-test.true, ap length c.as_mut_slice-slice.ensures.value) in
    elim c.if-is_too_old.branch [
      | then-is_too_old w ↦
          w.slice-is
          ∙ ap (λ (q : Present). set c.loop-p.slice i (record { owner = q.owner; stay = q.stay; asked = None })) (sym c.p-item.is)
          ∙ aged_old c.args.request_ms c.args.now i present c.loop-p.slice c.p-item.result below c.loop-p.invariant c.p-item.is
          (ap (is_aged c.args.request_ms c.args.now) c.p-item.is ∙ sym c.is_too_old.ensures ∙ w.if-is_too_old.true)
      | else-is_too_old w ↦
          w.slice-is
          ∙ set-get_or c.loop-p.slice i c.p-item.result
          ∙ aged_young c.args.request_ms c.args.now i present c.loop-p.slice c.p-item.result below c.loop-p.invariant c.p-item.is
          (ap (is_aged c.args.request_ms c.args.now) c.p-item.is ∙ sym c.is_too_old.ensures ∙ w.if-is_too_old.false)
    ]

pub returns : goal.returns
returns c =
    let present = c.args.present.now.items in
    let slice = c.loop-p.slice in
    refill-whole present slice (c.loop-p.auto.slice ∙ ap length c.as_mut_slice-slice.ensures.value)
    ∙ c.loop-p.invariant
    ∙ aged-all c.args.request_ms c.args.now c.loop-p.p-index present
    (omega (arith, c.loop-p-test.false, ap length c.as_mut_slice-slice.ensures.value))
