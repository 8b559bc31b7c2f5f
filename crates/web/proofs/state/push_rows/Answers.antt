use Rattle.std.proofs.Common.{◌≡◌, ◌++◌, ◌∙◌, ℕ, Bor, List, ap, subst}
use Rattle.std.specs.Prelude.{flat_map, OnOk}
use Rattle.json.specs.Token.{Token}
use Rattle.web.specs.State.{line_tokens}
use Rattle.web.proofs.LineLemmas.{flat_map_now}
use Rattle.web.proofs.state.push_rows.Goals as goal

pub returns : goal.returns
returns c =
    let e = ap (λ xs. flat_map (λ (x : Bor (List ℕ)). line_tokens c.args.rows c.args.flows.now c.args.reports.now x.now) xs) c.as_slice.ensures.value ∙ flat_map_now (line_tokens c.args.rows c.args.flows.now c.args.reports.now) c.in_ok-lines.lines.items ∙ ap (flat_map (line_tokens c.args.rows c.args.flows.now c.args.reports.now)) c.in_ok-lines.ensures in
    subst (λ (ts : List Token). OnOk c.push_lines.result ((c.push_lines.new.writer.before ≡ c.args.writer.now.before)
    × (c.push_lines.new.writer.tokens ≡ c.args.writer.now.tokens ++ ts))) e c.push_lines.ensures
