use Rattle.std.proofs.Common.{◌≡◌, drop}
use Rattle.std.specs.Prelude.{fold}
use Rattle.policy.specs.Requests.{ask_in}
use Rattle.policy.proofs.asking.hold_all.Given as goal

abbrev pub invariant-loop-ask : goal.invariant-loop-ask
invariant-loop-ask l =
    fold (ask_in l.asker.view.links.now l.asker.endpoint l.asker.moment) l.requests (drop l.ask-index l.asks)
    ≡ fold (ask_in l.asker.view.links.now l.asker.endpoint l.asker.moment) l.fn.requests l.asks
