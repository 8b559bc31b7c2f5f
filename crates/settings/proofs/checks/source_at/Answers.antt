use Rattle.std.proofs.Common.{◌≡◌, ◌+◌, ◌-◌, ◌<◌, ◌≤◌, suc, length, arith, ◌∙◌, sym, ap, get_or}
use Rattle.std.specs.Prelude.{ℤ, Option}
use Rattle.settings.specs.Settings.{number_or_zero}
use Rattle.settings.specs.declared.limits.TheConstants.{SSRCS}
use Rattle.settings.specs.declared.parts.LegParts.{LegParts}
use Rattle.settings.proofs.SettingsLemmas.{source_unit, source_endpoint, source_leg}
use Rattle.settings.proofs.checks.source_at.Goals as goal

pub returns-then-place-eq0 : goal.returns-then-place-eq0
returns-then-place-eq0 c = rw c.if-place-eq0.true (c.number_or_none.ensures.value ∙ sym (source_unit c.args.parts.now))

pub returns-then-place-endpoints : goal.returns-then-place-endpoints
returns-then-place-endpoints c =
    let place : c.args.place ≡ suc (c.args.place - 1) = omega arith in
    let below : c.args.place - 1 < length c.args.parts.now.endpoints.items = omega arith in
    rw place
    (c.number_or_none-then-place-endpoints.ensures.value
    ∙ ap (λ (e : Option ℤ). number_or_zero e SSRCS) c.index.ensures
    ∙ sym (source_endpoint c.args.parts.now (c.args.place - 1) c.index.result.now below))

pub returns : goal.returns
returns c =
    let place : c.args.place ≡ suc (c.args.place - 1) = omega arith in
    let count : c.len-endpoints.result ≡ length c.args.parts.now.endpoints.items = omega arith in
    let above : length c.args.parts.now.endpoints.items ≤ c.args.place - 1 = omega arith in
    let below : c.args.place - 1 < length c.args.parts.now.endpoints.items + length c.args.parts.now.legs.items = omega arith in
    rw place
    (c.number_or_none-2.ensures.value
    ∙ ap (λ (l : LegParts). number_or_zero l.out_ssrc SSRCS)
    (c.index-2.ensures ∙ ap (λ n. get_or c.args.parts.now.legs.items (c.args.place - 1 - n) c.index-2.result.now) count)
    ∙ sym (source_leg c.args.parts.now (c.args.place - 1) c.index-2.result.now above below))
