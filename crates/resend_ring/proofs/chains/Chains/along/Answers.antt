use Rattle.std.proofs.Common.{◌∙◌, length, sym, arith}
use Rattle.resend_ring.specs.Chains.{sequence_numbers}
use Rattle.resend_ring.proofs.ChainLemmas.{number_at, number_past, number_fits, link_at, past_end}
use Rattle.resend_ring.proofs.WalkLemmas.{walked_none, walked_more, walked_past, walked_enough}
use Rattle.resend_ring.proofs.chains.Chains.along.Goals as goal

pub loop-turn-init : goal.loop-turn-init
loop-turn-init g c =
    walked_none (length c.args.self.now.heads.items) c.args.seq c.args.self.now.links.items
    (sequence_numbers c.args.packets.now.items) c.args.head c.requires.head

pub returns-in_err-number : goal.returns-in_err-number
returns-in_err-number g c =
    let packets = c.args.packets.now.items in
    rw c.from_residual.ensures
    (walked_past (length c.args.self.now.heads.items) c.args.seq c.args.self.now.links.items (sequence_numbers packets) c.args.head
    c.loop-turn._turn c.loop-turn.newer c.loop-turn.back c.loop-turn.invariant
    (number_past packets c.loop-turn.back c.in_err-number.ensures))

pub returns-then-number-from : goal.returns-then-number-from
returns-then-number-from g c =
    let at = number_at c.args.packets.now.items c.loop-turn.back c.in_ok-number.field-0.now c.in_ok-number.ensures in
    record {
      latest = record {
        inside = at.0;
        number = at.1 ∙ (c.if-number-from.true ∙ c.from.ensures);
        latest = c.loop-turn.invariant.latest at.0;
      };
      newer = c.loop-turn.invariant.newer_leads;
    }

pub returns-in_err-link : goal.returns-in_err-link
returns-in_err-link g c =
    let at = number_at c.args.packets.now.items c.loop-turn.back c.in_ok-number.field-0.now c.in_ok-number.ensures in
    absurd (omega (arith, at.0, past_end c.args.self.now.links.items c.loop-turn.back c.in_err-link.ensures, c.requires.chains.as_many))

pub overflow_add-back : goal.overflow_add-back
overflow_add-back g c =
    let at = number_at c.args.packets.now.items c.loop-turn.back c.in_ok-number.field-0.now c.in_ok-number.ensures in
    omega (arith, at.0, c.requires.chains.small, c.requires.chains.few, c.from-back.ensures)

pub loop-turn-preserved : goal.loop-turn-preserved
loop-turn-preserved g c =
    let packets = c.args.packets.now.items in
    let at = number_at packets c.loop-turn.back c.in_ok-number.field-0.now c.in_ok-number.ensures in
    walked_more (length c.args.self.now.heads.items) c.args.seq c.args.self.now.links.items (sequence_numbers packets) c.args.head
    c.loop-turn._turn c.loop-turn.newer c.loop-turn.back c.loop-turn.invariant c.requires.chains.links_lead at.0
    (number_fits packets c.loop-turn.back) (λ same. c.if-number-from.false (sym at.1 ∙ (same ∙ sym c.from.ensures)))
    c.from-back.result (c.from-back.ensures ∙ link_at c.args.self.now.links.items c.loop-turn.back c.in_ok-link.link.now c.in_ok-link.ensures)

pub returns : goal.returns
returns g c =
    let chains = length c.args.self.now.heads.items in
    let packets = c.args.packets.now.items in
    let past = walked_enough chains c.args.seq c.args.self.now.links.items (sequence_numbers packets) c.args.head
    c.loop-turn._turn c.loop-turn.newer c.loop-turn.back c.loop-turn.invariant c.args.packets.now.capacity c.requires.chains.count
    c.requires.chains.enough c.requires.chains.few (number_fits packets) (omega (arith, c.loop-turn-test.false)) in
    walked_past chains c.args.seq c.args.self.now.links.items (sequence_numbers packets) c.args.head
    c.loop-turn._turn c.loop-turn.newer c.loop-turn.back c.loop-turn.invariant past
