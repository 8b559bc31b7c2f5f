use Rattle.std.proofs.Common.{Err, sym, ap, ◌∙◌, arith, inl, inr}
use Rattle.std.proofs.lemmas.List.{take_rest}
use Rattle.std.proofs.lemmas.Result.{err_from_is_err_and}
use Rattle.rtp_packet.specs.declared.fault.RtpFault.TheVariants.{Short, Version, CsrcShort, ExtensionShort, Padding}
use Rattle.rtp_packet.proofs.PacketLemmas.{one_packet, packet_of_parts, no_fault, exact_fault, csrc_fault, extension_fault, padding_fault}
use Rattle.rtp_packet.proofs.view.RtpView.parse.Goals as goal

pub returns-in_err-header-clause-every : goal.returns-in_err-header-clause-every
returns-in_err-header-clause-every c = λ packet reads.
    elim c.in_err-header.ensures.fault [
      | inl short ↦ absurd (no_fault c.args.datagram.now packet Short reads short.1)
      | inr version ↦ absurd (no_fault c.args.datagram.now packet Version reads version.1)
    ]

pub returns-in_err-csrcs-clause-every : goal.returns-in_err-csrcs-clause-every
returns-in_err-csrcs-clause-every c = λ packet reads.
    let cut = take_rest c.args.datagram.now 12 in
    absurd (no_fault c.args.datagram.now packet CsrcShort reads
    (csrc_fault c.args.datagram.now c.in_ok-header.header c.in_ok-header.ensures.ok
    (let short = c.in_err-csrcs.ensures.short.1 in rw cut at short)))

pub returns-in_err-extension-clause-every : goal.returns-in_err-extension-clause-every
returns-in_err-extension-clause-every c = λ packet reads.
    let cut = sym (take_rest c.args.datagram.now 12) ∙ c.in_ok-csrcs.ensures.parts in
    absurd (no_fault c.args.datagram.now packet ExtensionShort reads
    (extension_fault c.args.datagram.now c.in_ok-header.header c.in_ok-csrcs.csrcs.now c.in_ok-csrcs.rest.now c.in_ok-header.ensures.ok
    cut c.in_ok-csrcs.ensures.count c.in_err-extension.ensures.short.1 c.in_err-extension.ensures.short.2))

pub returns-in_err-extension-clause-fault : goal.returns-in_err-extension-clause-fault
returns-in_err-extension-clause-fault c =
    let cut = sym (take_rest c.args.datagram.now 12) ∙ c.in_ok-csrcs.ensures.parts in
    let fault = extension_fault c.args.datagram.now c.in_ok-header.header c.in_ok-csrcs.csrcs.now c.in_ok-csrcs.rest.now c.in_ok-header.ensures.ok
    cut c.in_ok-csrcs.ensures.count c.in_err-extension.ensures.short.1 c.in_err-extension.ensures.short.2 in
    let p = err_from_is_err_and c.from_residual-in_err-extension.result c.from_residual-in_err-extension.ensures.1 in
    rw (p.1, p.2, c.in_err-extension.ensures.short.0) fault

pub returns-in_err-payload-clause-every : goal.returns-in_err-payload-clause-every
returns-in_err-payload-clause-every c = λ packet reads.
    let cut = sym (take_rest c.args.datagram.now 12) ∙ c.in_ok-csrcs.ensures.parts in
    absurd (no_fault c.args.datagram.now packet Padding reads
    (padding_fault c.args.datagram.now c.in_ok-header.header c.in_ok-csrcs.csrcs.now c.in_ok-csrcs.rest.now
    c.in_ok-extension.extension.now c.in_ok-extension.rest.now c.in_ok-header.ensures.ok
    cut c.in_ok-csrcs.ensures.count c.in_ok-extension.ensures.parts c.in_ok-extension.ensures.valid c.in_ok-extension.ensures.there
    c.in_err-payload.ensures.no_count.1 c.in_err-payload.ensures.no_count.2))

pub returns-in_err-payload-clause-fault : goal.returns-in_err-payload-clause-fault
returns-in_err-payload-clause-fault c =
    let cut = sym (take_rest c.args.datagram.now 12) ∙ c.in_ok-csrcs.ensures.parts in
    let fault = padding_fault c.args.datagram.now c.in_ok-header.header c.in_ok-csrcs.csrcs.now c.in_ok-csrcs.rest.now
    c.in_ok-extension.extension.now c.in_ok-extension.rest.now c.in_ok-header.ensures.ok
    cut c.in_ok-csrcs.ensures.count c.in_ok-extension.ensures.parts c.in_ok-extension.ensures.valid c.in_ok-extension.ensures.there
    c.in_err-payload.ensures.no_count.1 c.in_err-payload.ensures.no_count.2 in
    let p = err_from_is_err_and c.from_residual-in_err-payload.result c.from_residual-in_err-payload.ensures.1 in
    rw (p.1, p.2, c.in_err-payload.ensures.no_count.0) fault

pub invariant_of-result : goal.invariant_of-result
invariant_of-result c =
    let cut = sym (take_rest c.args.datagram.now 12) ∙ c.in_ok-csrcs.ensures.parts in
    record {
      is_read = packet_of_parts c.args.datagram.now c.in_ok-header.header c.in_ok-csrcs.csrcs.now c.in_ok-csrcs.rest.now
          c.in_ok-extension.extension.now c.in_ok-extension.rest.now c.in_ok-payload.payload.now c.in_ok-payload.padding.now
          c.in_ok-header.ensures.ok (λ k. omega (arith, c.type_inv.datagram k)) cut c.in_ok-csrcs.ensures.count
          c.in_ok-extension.ensures.parts c.in_ok-extension.ensures.valid c.in_ok-extension.ensures.there
          c.in_ok-payload.ensures.parts c.in_ok-payload.ensures.valid c.in_ok-payload.ensures.there;
    }

pub returns-clause-every : goal.returns-clause-every
returns-clause-every c = λ packet reads.
    let cut = sym (take_rest c.args.datagram.now 12) ∙ c.in_ok-csrcs.ensures.parts in
    let read = packet_of_parts c.args.datagram.now c.in_ok-header.header c.in_ok-csrcs.csrcs.now c.in_ok-csrcs.rest.now
    c.in_ok-extension.extension.now c.in_ok-extension.rest.now c.in_ok-payload.payload.now c.in_ok-payload.padding.now
    c.in_ok-header.ensures.ok (λ k. omega (arith, c.type_inv.datagram k)) cut c.in_ok-csrcs.ensures.count
    c.in_ok-extension.ensures.parts c.in_ok-extension.ensures.valid c.in_ok-extension.ensures.there
    c.in_ok-payload.ensures.parts c.in_ok-payload.ensures.valid c.in_ok-payload.ensures.there in
    one_packet c.args.datagram.now _ packet read reads

pub returns-in_err-header-clause-exact : goal.returns-in_err-header-clause-exact
returns-in_err-header-clause-exact c =
    let p = err_from_is_err_and c.from_residual.result c.from_residual.ensures.1 in
    let is = p.1 ∙ ap Err p.2 in
    elim c.in_err-header.ensures.fault [
      | inl short ↦ exact_fault c.args.datagram.now _ Short (is ∙ ap Err short.0) short.1
      | inr version ↦ exact_fault c.args.datagram.now _ Version (is ∙ ap Err version.0) version.1
    ]

pub returns-in_err-csrcs-clause-exact : goal.returns-in_err-csrcs-clause-exact
returns-in_err-csrcs-clause-exact c =
    let cut = take_rest c.args.datagram.now 12 in
    let p = err_from_is_err_and c.from_residual-in_err-csrcs.result c.from_residual-in_err-csrcs.ensures.1 in
    exact_fault c.args.datagram.now _ CsrcShort (p.1 ∙ ap Err (p.2 ∙ c.in_err-csrcs.ensures.short.0))
    (csrc_fault c.args.datagram.now c.in_ok-header.header c.in_ok-header.ensures.ok
    (let short = c.in_err-csrcs.ensures.short.1 in rw cut at short))

pub returns-in_err-extension-clause-exact : goal.returns-in_err-extension-clause-exact
returns-in_err-extension-clause-exact c =
    let cut = sym (take_rest c.args.datagram.now 12) ∙ c.in_ok-csrcs.ensures.parts in
    let p = err_from_is_err_and c.from_residual-in_err-extension.result c.from_residual-in_err-extension.ensures.1 in
    exact_fault c.args.datagram.now _ ExtensionShort (p.1 ∙ ap Err (p.2 ∙ c.in_err-extension.ensures.short.0))
    (extension_fault c.args.datagram.now c.in_ok-header.header c.in_ok-csrcs.csrcs.now c.in_ok-csrcs.rest.now c.in_ok-header.ensures.ok
    cut c.in_ok-csrcs.ensures.count c.in_err-extension.ensures.short.1 c.in_err-extension.ensures.short.2)

pub returns-in_err-payload-clause-exact : goal.returns-in_err-payload-clause-exact
returns-in_err-payload-clause-exact c =
    let cut = sym (take_rest c.args.datagram.now 12) ∙ c.in_ok-csrcs.ensures.parts in
    let p = err_from_is_err_and c.from_residual-in_err-payload.result c.from_residual-in_err-payload.ensures.1 in
    exact_fault c.args.datagram.now _ Padding (p.1 ∙ ap Err (p.2 ∙ c.in_err-payload.ensures.no_count.0))
    (padding_fault c.args.datagram.now c.in_ok-header.header c.in_ok-csrcs.csrcs.now c.in_ok-csrcs.rest.now
    c.in_ok-extension.extension.now c.in_ok-extension.rest.now c.in_ok-header.ensures.ok
    cut c.in_ok-csrcs.ensures.count c.in_ok-extension.ensures.parts c.in_ok-extension.ensures.valid c.in_ok-extension.ensures.there
    c.in_err-payload.ensures.no_count.1 c.in_err-payload.ensures.no_count.2)

pub returns-clause-exact : goal.returns-clause-exact
returns-clause-exact c = λ fault has.
    let cut = sym (take_rest c.args.datagram.now 12) ∙ c.in_ok-csrcs.ensures.parts in
    let read = packet_of_parts c.args.datagram.now c.in_ok-header.header c.in_ok-csrcs.csrcs.now c.in_ok-csrcs.rest.now
    c.in_ok-extension.extension.now c.in_ok-extension.rest.now c.in_ok-payload.payload.now c.in_ok-payload.padding.now
    c.in_ok-header.ensures.ok (λ k. omega (arith, c.type_inv.datagram k)) cut c.in_ok-csrcs.ensures.count
    c.in_ok-extension.ensures.parts c.in_ok-extension.ensures.valid c.in_ok-extension.ensures.there
    c.in_ok-payload.ensures.parts c.in_ok-payload.ensures.valid c.in_ok-payload.ensures.there in
    absurd (no_fault c.args.datagram.now _ fault read has)
