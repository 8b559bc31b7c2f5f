use Rattle.std.proofs.Common.{refl, sym}
use Rattle.tmmbr_c.specs.declared.numbers.TmmbrRequest.{TmmbrRequest}
use Rattle.tmmbr_c.proofs.NumberLemmas.{asked_request-in_range}
use Rattle.tmmbr_c.proofs.showing.told_request.Goals as goal

pub returns-clause-value : goal.returns-clause-value
returns-clause-value c =
    let r = c.args.request.now in
    let told : TmmbrRequest = record { ssrc = r.owner.0; exponent = c.from.result; mantissa = r.tuple.mantissa; overhead = c.from-2.result } in
    sym (asked_request-in_range told r.tuple (sym c.from.ensures) refl (sym c.from-2.ensures))
