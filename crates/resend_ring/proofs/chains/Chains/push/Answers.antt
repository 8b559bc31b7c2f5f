use Rattle.std.proofs.Common.{◌+◌, ap}
use Rattle.std.specs.Prelude.{◌%◌}
use Rattle.resend_ring.specs.declared.packets.TheConstants.{SEQ_CYCLE}
use Rattle.resend_ring.specs.Chains.{sequence_numbers}
use Rattle.resend_ring.proofs.PushLemmas.{chains_pushed}
use Rattle.resend_ring.proofs.chains.Chains.push.Goals as goal

pub returns : goal.returns
returns g c =
    let linked = c.link_past-link in
    chains_pushed c.args.self.now _ c.args.packets.now.capacity c.args.seq linked.result linked.new.self.links.items
    (sequence_numbers c.args.packets.now.items) c.requires (ap (λ n. (n + 1) % SEQ_CYCLE) linked.ensures.same_clock)
    (cc) (cc)
    linked.ensures.as_many linked.ensures.links
