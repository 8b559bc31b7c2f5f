use Rattle.std.proofs.Common.{subst}
use Rattle.std.specs.Prelude.{IfErr, IsOk}
use Rattle.rate_cert.specs.Certificate.{MeetsConditions, IsCertified}
use Rattle.rate_cert.specs.Fault.{FailsFirst}
use Rattle.rate_cert.proofs.CheckerLemmas.{on_ok}
use Rattle.rate_cert.proofs.Smallest.{IsChoice-from_MeetsConditions, IsSmallest-from_MeetsConditions}
use Rattle.rate_cert.proofs.checker.check.Goals as goal

certified : (c : goal.After-check_entries) → IsOk c.check_entries.result → IsCertified c.args.requests.now c.args.cert.now
certified c is =
    let requests = c.args.requests.now in
    subst (λ implied. MeetsConditions requests c.args.cert.now.kept.items implied) c.as_slice-2.ensures.value
    (subst (λ kept. MeetsConditions requests kept c.as_slice-2.result.now) c.as_slice.ensures.value
    (c.check_entries.ensures.certified.0 is))

pub returns-clause-first_fault : goal.returns-clause-first_fault
returns-clause-first_fault c =
    let result = c.check_entries.result in
    subst (λ implied. IfErr result (FailsFirst c.args.requests.now c.args.cert.now.kept.items implied)) c.as_slice-2.ensures.value
    (subst (λ kept. IfErr result (FailsFirst c.args.requests.now kept c.as_slice-2.result.now)) c.as_slice.ensures.value
    c.check_entries.ensures.first_fault)

pub returns-clause-choice : goal.returns-clause-choice
returns-clause-choice c = on_ok c.check_entries.result (λ is.
    IsChoice-from_MeetsConditions c.args.requests.now c.args.cert.now.kept.items c.args.cert.now.implied.items (certified c is))

pub returns-clause-smallest : goal.returns-clause-smallest
returns-clause-smallest c = on_ok c.check_entries.result (λ is.
    IsSmallest-from_MeetsConditions c.args.requests.now c.args.cert.now.kept.items c.args.cert.now.implied.items (certified c is))
