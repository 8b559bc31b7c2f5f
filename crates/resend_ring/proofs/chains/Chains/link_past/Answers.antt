use Rattle.std.proofs.Common.{◌+◌, ◌∙◌, length, ap, arith}
use Rattle.resend_ring.specs.Chains.{sequence_numbers}
use Rattle.std.specs.Prelude.{min}
use Rattle.resend_ring.proofs.ChainLemmas.{link_at, past_end}
use Rattle.resend_ring.proofs.LinkLemmas.{linked_alone, linked_new, linked_over_head, linked_over, newer_inside}
use Rattle.resend_ring.proofs.chains.Chains.link_past.Goals as goal

pub returns-in_default-clause-links : goal.returns-in_default-clause-links
returns-in_default-clause-links g c =
    let chains = c.args.self.now in
    linked_alone (length chains.heads.items) c.args.seq chains.links.items (sequence_numbers c.args.packets.now.items) c.requires.links_lead
    c.requires.as_many (omega (arith, c.requires.few, c.requires.small)) c.in_default.ensures

pub returns-in_default-along-clause-links : goal.returns-in_default-along-clause-links
returns-in_default-along-clause-links g c =
    let chains = c.args.self.now in
    linked_new (length chains.heads.items) c.args.seq chains.links.items (sequence_numbers c.args.packets.now.items) c.requires.links_lead
    c.requires.as_many (omega (arith, c.requires.few, c.requires.small)) c.in-Some.head c.in-Some.ensures c.in_default-along.ensures

pub returns-in_default-copied-clause-links : goal.returns-in_default-copied-clause-links
returns-in_default-copied-clause-links g c =
    let past = past_end c.args.self.now.links.items c.in-Some-along.found.back (c.in_default-copied.ensures ∙ c.get.ensures) in
    absurd (omega (arith, past, c.in-Some-along.ensures.latest.inside, c.requires.as_many))

pub returns-in_default-newer-clause-links : goal.returns-in_default-newer-clause-links
returns-in_default-newer-clause-links g c =
    let chains = c.args.self.now in
    let past = link_at chains.links.items c.in-Some-along.found.back c.in-Some-copied.past (c.in-Some-copied.ensures ∙ c.get.ensures) in
    linked_over_head (length chains.heads.items) c.args.seq chains.links.items (sequence_numbers c.args.packets.now.items) c.requires.links_lead
    c.requires.as_many (omega (arith, c.requires.few, c.requires.small)) c.in-Some.head c.in-Some.ensures c.in-Some-along.found c.in-Some-along.ensures
    c.in-Some-copied.past past c.in_default-newer.is c.saturating_add.result c.saturating_add.ensures

pub returns-in-Some-get_mut-clause-links : goal.returns-in-Some-get_mut-clause-links
returns-in-Some-get_mut-clause-links g c =
    let chains = c.args.self.now in
    let past = link_at chains.links.items c.in-Some-along.found.back c.in-Some-copied.past (c.in-Some-copied.ensures ∙ c.get.ensures) in
    let before = link_at chains.links.items c.in-Some-newer.newer c.in-Some-get_mut.to_found.now c.in-Some-get_mut.ensures.value in
    linked_over (length chains.heads.items) c.args.seq chains.links.items (sequence_numbers c.args.packets.now.items) c.requires.links_lead
    c.requires.as_many (omega (arith, c.requires.few, c.requires.small)) c.in-Some.head c.in-Some.ensures c.in-Some-along.found c.in-Some-along.ensures
    c.in-Some-copied.past past c.in-Some-newer.newer c.in-Some-newer.is c.saturating_add-in-Some-get_mut.result
    (c.saturating_add-in-Some-get_mut.ensures ∙ ap (λ n. min (n + c.in-Some-copied.past) 65535) before)

pub returns-in_default-get_mut-clause-links : goal.returns-in_default-get_mut-clause-links
returns-in_default-get_mut-clause-links g c =
    let past = past_end c.args.self.now.links.items c.in-Some-newer.newer c.in_default-get_mut.ensures.value in
    absurd (omega (
      arith,
      past,
      newer_inside (length c.args.self.now.heads.items) c.args.seq c.args.self.now.links.items (sequence_numbers c.args.packets.now.items)
          c.in-Some.head c.in-Some-along.found c.in-Some-along.ensures c.in-Some-newer.newer c.in-Some-newer.is,
      c.requires.as_many,
    ))
