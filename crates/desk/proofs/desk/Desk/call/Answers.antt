use Rattle.std.proofs.Common.{◌≢◌, List, sym, ap, subst, ◌∙◌}
use Rattle.std.specs.Prelude.{AllPairs}
use Rattle.rate_cert.specs.declared.request.Request.{Request}
use Rattle.bounding_set.specs.State.{announced_of}
use Rattle.desk.proofs.desk.Desk.call.Goals as goal

pub show_change-requires-clause-once : goal.show_change-requires-clause-once
show_change-requires-clause-once c =
    subst (λ (rs : List Request). AllPairs (λ x y. x.owner.0 ≢ y.owner.0) rs)
    (sym (c.as_slice.ensures.value ∙ c.list_announced.ensures ∙ ap announced_of c.bounds-else-is_quiet.ensures.value))
    c.self.invariant.legal.once
