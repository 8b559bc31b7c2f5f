use Rattle.std.proofs.Common.{◌≡◌, ◌≤◌, ℕ, List, ap, sym, subst, length, ◌∙◌}
use Rattle.std.specs.Prelude.{Ok}
use Rattle.rewrite.specs.Leg.{answer_to, held_with}
use Rattle.events.specs.declared.output.Out.TheVariants.{Send}
use Rattle.legs.specs.declared.plan.Change.TheVariants.{Keep}
use Rattle.legs.specs.Legs.{outgoing_bytes}
use Rattle.legs.specs.Planning.{packet_planned}
use Rattle.shared_packet.specs.Rtp.{sequence_number, payload_octets}
use Rattle.shared_packet.proofs.RtpLemmas.{header_of}
use Rattle.legs.proofs.planning.plan_packet.Goals as goal

pub new-kept-requires : goal.new-kept-requires
new-kept-requires c =
    let header = header_of c.args.packet.now c.requires.read.is_packet in
    record { header = subst (λ (d : List ℕ). 12 ≤ length d) (sym c.in_ok-share-in-Ok.ensures) header }

pub returns-in-Err-clause-ok : goal.returns-in-Err-clause-ok
returns-in-Err-clause-ok c =
    let d = c.args.packet.now in
    ap (packet_planned c.args.place c.args.leg.now c.args.turn d)
    (c.in-Err.ensures.answer ∙ ap (answer_to c.args.leg.now.numbers c.args.turn) (sym c.requires.read.number))

pub returns-in_ok-bytes-in-Ok-clause-ok : goal.returns-in_ok-bytes-in-Ok-clause-ok
returns-in_ok-bytes-in-Ok-clause-ok c =
    let d = c.args.packet.now in
    let leg = c.args.leg.now in
    let number = c.requires.read.number in
    let octets : c.args.reading.octets ≡ payload_octets d = sym c.requires.read.octets in
    let numbers : c.next.new.self ≡ held_with leg.numbers c.args.turn (sequence_number d) (Ok c.in-Ok.number) =
    c.in-Ok.ensures.kept ∙ ap (λ (q : ℕ). held_with leg.numbers c.args.turn q (Ok c.in-Ok.number)) (sym number) in
    let kept : c.new-kept.result ≡ outgoing_bytes leg d c.in-Ok.number =
    c.new-kept.ensures ∙ ap (λ (b : List ℕ). outgoing_bytes leg b c.in-Ok.number) c.in_ok-share-in-Ok.ensures in
    let bytes : c.in_ok-bytes-in-Ok.bytes ≡ outgoing_bytes leg d c.in-Ok.number = c.in_ok-bytes-in-Ok.ensures.ok ∙ kept in
    let planned : record {
      out = Send leg.link.subscriber c.in_ok-bytes-in-Ok.bytes;
      change = Keep c.args.place c.next.new.self c.in-Ok.number c.args.reading.octets c.new-kept.result;
    } ≡ packet_planned c.args.place leg c.args.turn d (Ok c.in-Ok.number) =
    λ i. record { out = Send leg.link.subscriber (bytes i); change = Keep c.args.place (numbers i) c.in-Ok.number (octets i) (kept i) } in
    planned ∙ ap (packet_planned c.args.place leg c.args.turn d)
    (c.in-Ok.ensures.answer ∙ ap (answer_to leg.numbers c.args.turn) (sym number))
