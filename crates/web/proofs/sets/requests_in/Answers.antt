use Rattle.std.proofs.Common.{◌≡◌, ◌∙◌, ℕ, Bor, List, ap, map, subst}
use Rattle.std.specs.Prelude.{flat_map, IfOk}
use Rattle.request_text.specs.Lines.{Asked}
use Rattle.request_text.specs.CheckFile.{asked_of}
use Rattle.web.specs.Sets.{line_asks, asked_in}
use Rattle.web.proofs.LineLemmas.{flat_map_now}
use Rattle.web.proofs.sets.requests_in.Goals as goal

pub returns : goal.returns
unfolding asked_in
returns c =
    let e = ap (λ xs. flat_map (λ (x : Bor (List ℕ)). line_asks x.now) xs) c.as_slice.ensures.value ∙ flat_map_now line_asks c.in_ok-lines.lines.items ∙ ap (flat_map line_asks) c.in_ok-lines.ensures in
    subst (λ (t : List Asked). IfOk c.requests_of.result (λ v. map asked_of v.items ≡ t)) e c.requests_of.ensures
