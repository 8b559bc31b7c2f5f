use Rattle.std.proofs.Common.{sym, ap, ◌∙◌, arith}
use Rattle.std.specs.Prelude.{◌%◌, length}
use Rattle.resend_ring.specs.Chains.{sequence_numbers}
use Rattle.resend_ring.proofs.ChainLemmas.{head_found, head_missed, number_at, number_past}
use Rattle.resend_ring.proofs.chains.Chains.head.Goals as goal

pub returns-in_err-number : goal.returns-in_err-number
returns-in_err-number g c =
    let chains = c.args.self.now in
    let packets = c.args.packets.now.items in
    rw c.from_residual.ensures
    (head_missed chains.clock c.args.seq c.chain-chain.result c.index.result.now c.from-back.result chains.heads.items
    (sequence_numbers packets) c.requires.heads_lead (omega (arith, c.requires.small, c.requires.few)) c.requires.count
    c.chain-chain.ensures c.index.ensures c.from-back.ensures
    (λ inside. absurd (omega (arith, number_past packets c.from-back.result c.in_err-number.ensures))))

pub returns-then-chain : goal.returns-then-chain
returns-then-chain g c =
    let chains = c.args.self.now in
    let packets = c.args.packets.now.items in
    let at = number_at packets c.from-back.result c.in_ok-number.field-0.now c.in_ok-number.ensures in
    head_found chains.clock c.args.seq c.chain-chain.result c.index.result.now c.from-back.result chains.heads.items
    (sequence_numbers packets) c.requires.heads_lead (omega (arith, c.requires.small, c.requires.few)) c.requires.count
    c.chain-chain.ensures c.index.ensures c.from-back.ensures at.0
    (ap (λ n. n % length chains.heads.items) at.1 ∙ (sym c.chain.ensures ∙ (c.if-chain.true ∙ c.chain-chain.ensures)))

pub returns-else-chain : goal.returns-else-chain
returns-else-chain g c =
    let chains = c.args.self.now in
    let packets = c.args.packets.now.items in
    let at = number_at packets c.from-back.result c.in_ok-number.field-0.now c.in_ok-number.ensures in
    head_missed chains.clock c.args.seq c.chain-chain.result c.index.result.now c.from-back.result chains.heads.items
    (sequence_numbers packets) c.requires.heads_lead (omega (arith, c.requires.small, c.requires.few)) c.requires.count
    c.chain-chain.ensures c.index.ensures c.from-back.ensures
    (λ inside same. c.if-chain.false (c.chain.ensures ∙ (sym (ap (λ n. n % length chains.heads.items) at.1) ∙ (same ∙ sym c.chain-chain.ensures))))
