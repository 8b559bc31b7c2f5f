use Rattle.std.proofs.Common.{◌≡◌, ◌∙◌, sym, ap, Some, cond, Option}
use Rattle.addresses.specs.declared.endpoints_by_key.Occupants.{Occupants}
use Rattle.addresses.specs.EndpointsByKey.{beside, occupants_of}
use Rattle.addresses.proofs.EndpointsByKeyLemmas.{occupants_of-append}
use Rattle.addresses.proofs.endpoints_by_key.EndpointsByKey.push.Goals as goal

pub invariant_of-self-in-Ok-insert : goal.invariant_of-self-in-Ok-insert
invariant_of-self-in-Ok-insert g c = λ key.
    let same = g.K.PartialEq.eq in
    let before = c.self.inside.entries.items in
    let here : c.beside-occupants.result ≡ beside (occupants_of same before c.args.key) c.args.endpoint =
    c.beside-occupants.ensures
    ∙ ap (λ (o : Option Occupants). beside o c.args.endpoint) (c.copied.ensures ∙ c.get.ensures.value ∙ c.self.invariant c.args.key) in
    c.in-Ok-insert.ensures.updates.0 key
    ∙ ap (λ (o : Option Occupants). cond (same c.args.key key) (Some c.beside-occupants.result) o) (c.self.invariant key)
    ∙ ap (λ (b : Occupants). cond (same c.args.key key) (Some b) (occupants_of same before key)) here
    ∙ sym (occupants_of-append g.met.K.Eq.laws before c.args.key c.args.endpoint key)
    ∙ ap (λ es. occupants_of same es key) (sym c.in-Ok.ensures.items)
