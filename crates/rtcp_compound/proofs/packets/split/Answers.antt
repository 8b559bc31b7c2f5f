use Rattle.std.proofs.Common.{◌∙◌, Err, ap, arith, rules}
use Rattle.std.proofs.lemmas.List.{nil_from_length}
use Rattle.std.proofs.lemmas.Result.{err_from_is_err_and}
use Rattle.rtcp_compound.specs.Fault.{Refuses}
use Rattle.rtcp_compound.specs.Reading.{rtcp_packet_of}
use Rattle.rtcp_compound.proofs.FaultLemmas.{packet_refused}
use Rattle.rtcp_compound.proofs.PacketLemmas.{packet_takes}
use Rattle.rtcp_compound.proofs.DatagramLemmas.{rest_bytes, passes_none, passes_more, joined_ends, reads_only, refuses_one, refuses_none}
use Rattle.rtcp_compound.proofs.FrameLemmas.{reads_whole}
use Rattle.rtcp_compound.proofs.packets.split.Goals as goal

pub loop-behind-init : goal.loop-behind-init
loop-behind-init c = passes_none c.args.datagram.now

pub loop-behind-preserved : goal.loop-behind-preserved
loop-behind-preserved c =
    let bytes = c.loop-behind.rest.now in
    let p = rtcp_packet_of c.in_ok-behind.field-0-0 in
    let behind = c.in_ok-behind.behind.now in
    let taken = packet_takes bytes (p, behind) (rest_bytes c.args.datagram.now bytes c.loop-behind.invariant (λ i. omega (arith, c.type_inv.datagram i))) c.in_ok-behind.ensures.reads in
    passes_more c.args.datagram.now bytes behind p c.loop-behind.invariant taken (search rules)

pub returns-then-is_empty-clause-ok : goal.returns-then-is_empty-clause-ok
returns-then-is_empty-clause-ok c =
    let bytes = c.loop-behind.rest.now in
    let p = rtcp_packet_of c.in_ok-behind.field-0-0 in
    let behind = c.in_ok-behind.behind.now in
    let taken = packet_takes bytes (p, behind) (rest_bytes c.args.datagram.now bytes c.loop-behind.invariant (λ i. omega (arith, c.type_inv.datagram i))) c.in_ok-behind.ensures.reads in
    joined_ends c.args.datagram.now bytes behind p c.loop-behind.invariant taken (nil_from_length behind (search rules))

pub invariant_of-result : goal.invariant_of-result
invariant_of-result c =
    let bytes = c.loop-behind.rest.now in
    let p = rtcp_packet_of c.in_ok-behind.field-0-0 in
    let behind = c.in_ok-behind.behind.now in
    let taken = packet_takes bytes (p, behind) (rest_bytes c.args.datagram.now bytes c.loop-behind.invariant (λ i. omega (arith, c.type_inv.datagram i))) c.in_ok-behind.ensures.reads in
    record { whole = reads_whole c.args.datagram.now _ (joined_ends c.args.datagram.now bytes behind p c.loop-behind.invariant taken (nil_from_length behind (search rules))) }

pub returns-then-is_empty-clause-only : goal.returns-then-is_empty-clause-only
returns-then-is_empty-clause-only c = λ ps h. reads_only c.args.datagram.now ps h

pub returns-then-is_empty-clause-first : goal.returns-then-is_empty-clause-first
returns-then-is_empty-clause-first c = λ fault h. absurd (refuses_none c.args.datagram.now _ fault h (returns-then-is_empty-clause-ok c))

pub returns-in_err-behind-clause-only : goal.returns-in_err-behind-clause-only
returns-in_err-behind-clause-only c = λ ps h.
    absurd (refuses_none c.args.datagram.now ps c.in_err-behind.field-0.0 (record { rest = c.loop-behind.rest.now; passes = c.loop-behind.invariant; here = packet_refused c.loop-behind.rest.now c.in_err-behind.field-0.0 c.in_err-behind.ensures.reads }) h)

pub returns-in_err-behind-clause-first : goal.returns-in_err-behind-clause-first
returns-in_err-behind-clause-first c = λ fault h.
    let p = err_from_is_err_and c.from_residual.result c.from_residual.ensures.1 in
    let ours : Refuses c.args.datagram.now c.in_err-behind.field-0.0 = record { rest = c.loop-behind.rest.now; passes = c.loop-behind.invariant; here = packet_refused c.loop-behind.rest.now c.in_err-behind.field-0.0 c.in_err-behind.ensures.reads } in
    p.1 ∙ ap Err (p.2 ∙ refuses_one c.args.datagram.now c.in_err-behind.field-0.0 fault ours h)

pub returns-in_err-behind-clause-refused : goal.returns-in_err-behind-clause-refused
returns-in_err-behind-clause-refused c =
    let p = err_from_is_err_and c.from_residual.result c.from_residual.ensures.1 in
    let ours : Refuses c.args.datagram.now c.in_err-behind.field-0.0 =
    record { rest = c.loop-behind.rest.now; passes = c.loop-behind.invariant; here = packet_refused c.loop-behind.rest.now c.in_err-behind.field-0.0 c.in_err-behind.ensures.reads } in
    rw (p.1, p.2) ours
