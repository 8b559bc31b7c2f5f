use Rattle.std.proofs.Common.{◌≡◌, ◌∙◌, ℕ, Bor, List, ap, subst}
use Rattle.std.specs.Prelude.{flat_map, IfOk}
use Rattle.web.specs.declared.octets.FlowCount.{FlowCount}
use Rattle.web.specs.Octets.{flows_in, line_flows}
use Rattle.web.proofs.LineLemmas.{flat_map_now}
use Rattle.web.proofs.octets.flows_in.Goals as goal

pub returns : goal.returns
unfolding flows_in
returns c =
    let e = ap (λ xs. flat_map (λ (x : Bor (List ℕ)). line_flows x.now) xs) c.as_slice.ensures.value ∙ flat_map_now line_flows c.in_ok-lines.lines.items ∙ ap (flat_map line_flows) c.in_ok-lines.ensures in
    subst (λ (t : List FlowCount). IfOk c.flows_of.result (λ v. v.items ≡ t)) e c.flows_of.ensures
