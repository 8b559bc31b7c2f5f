use Rattle.std.proofs.Common.{◌+◌, List, sym, subst}
use Rattle.settings.specs.Places.{Sources, FindsLegs}
use Rattle.settings.proofs.LinkLemmas.{finds_one_more}
use Rattle.settings.proofs.links.sent.Goals as goal

pub loop-subscriber-preserved : goal.loop-subscriber-preserved
loop-subscriber-preserved c =
    let P : List Sources → Type 0 = λ xs. FindsLegs xs (c.loop-subscriber.subscriber + 1) c.args.legs.now in
    let more = finds_one_more c.loop-subscriber.maps.items c.in_ok-sent_to.field-0 c.loop-subscriber.subscriber
    c.args.legs.now c.loop-subscriber.invariant c.in_ok-sent_to.ensures in
    subst P (sym c.in_ok-push.ensures.items) more
