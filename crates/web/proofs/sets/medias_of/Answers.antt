use Rattle.std.proofs.Common.{◌≡◌, ◌∙◌, ℕ, Bor, List, ap, subst}
use Rattle.std.specs.Prelude.{flat_map, IfOk}
use Rattle.web.specs.Sets.{line_media, media_lines}
use Rattle.web.proofs.LineLemmas.{flat_map_now}
use Rattle.web.proofs.sets.medias_of.Goals as goal

pub returns : goal.returns
unfolding media_lines
returns c =
    let f = line_media c.args.publisher in
    let e = ap (λ xs. flat_map (λ (x : Bor (List ℕ)). f x.now) xs) c.as_slice.ensures.value ∙ flat_map_now f c.in_ok-lines.lines.items ∙ ap (flat_map f) c.in_ok-lines.ensures in
    subst (λ (t : List ℕ). IfOk c.medias_in.result (λ v. v.items ≡ t)) e c.medias_in.ensures
