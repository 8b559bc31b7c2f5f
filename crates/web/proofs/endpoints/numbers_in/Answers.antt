use Rattle.std.proofs.Common.{◌≡◌, ◌∙◌, ℕ, Bor, List, ap, subst}
use Rattle.std.specs.Prelude.{flat_map, IfOk}
use Rattle.web.specs.Endpoints.{line_numbers, numbers_in}
use Rattle.web.proofs.LineLemmas.{flat_map_now}
use Rattle.web.proofs.endpoints.numbers_in.Goals as goal

pub returns : goal.returns
unfolding numbers_in
returns c =
    let e = ap (λ xs. flat_map (λ (x : Bor (List ℕ)). line_numbers x.now) xs) c.as_slice.ensures.value ∙ flat_map_now line_numbers c.in_ok-lines.lines.items ∙ ap (flat_map line_numbers) c.in_ok-lines.ensures in
    subst (λ (t : List ℕ). IfOk c.numbers_of.result (λ v. v.items ≡ t)) e c.numbers_of.ensures
