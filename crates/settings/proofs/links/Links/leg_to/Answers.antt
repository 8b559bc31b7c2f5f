use Rattle.std.proofs.Common.{◌≡◌, ◌≤◌, ℕ, ◌∙◌, ap, sym, subst, refl, length, Some, List, arith}
use Rattle.std.specs.Prelude.{slice_get}
use Rattle.std.proofs.lemmas.Option.{slice_get_read}
use Rattle.settings.specs.Links.{LinkTable, leg_to}
use Rattle.settings.specs.Places.{Sources}
use Rattle.settings.proofs.LinkLemmas.{first_past}
use Rattle.settings.proofs.links.Links.leg_to.Goals as goal

pub returns-in_err-sources : goal.returns-in_err-sources
returns-in_err-sources c =
    let size = c.self.invariant.2.size in
    let count = c.in_err-sources.ensures.lookup.3 in
    let shown = c.deref.ensures.value in
    let held = ap length shown in
    let same = c.from.ensures in
    let past : length c.self.inside.endpoints.items ≤ c.args.subscriber = omega arith in
    let none = first_past (length c.self.inside.endpoints.items) c.args.subscriber c.args.out_ssrc.0 0 c.self.inside.legs.items
    c.self.invariant.0.legs past in
    let moved = ap (λ (t : LinkTable). leg_to t c.args.subscriber c.args.out_ssrc.0) c.self.view_is in
    c.from_residual.ensures ∙ sym none ∙ moved

pub returns : goal.returns
returns c =
    let shown = c.deref.ensures.value in
    let same = c.from.ensures in
    let within = c.in_ok-sources.ensures.lookup.3.0 in
    let map = c.in_ok-sources.sources.now in
    let read = slice_get_read c.deref.result.now (length c.deref.result.now) c.from.result map refl within c.in_ok-sources.ensures.lookup.1 in
    let P : List Sources → ℕ → Type 0 = λ xs k. slice_get xs k ≡ Some map in
    let held : slice_get c.self.inside.sent.items c.from.result ≡ Some map =
    subst (λ (xs : List Sources). P xs c.from.result) shown read in
    let at : slice_get c.self.inside.sent.items c.args.subscriber ≡ Some map = subst (P c.self.inside.sent.items) same held in
    let found = c.self.invariant.2.each c.args.subscriber map at c.args.out_ssrc.0 in
    let moved = ap (λ (t : LinkTable). leg_to t c.args.subscriber c.args.out_ssrc.0) c.self.view_is in
    c.copied.ensures ∙ c.get-2.ensures.value ∙ found ∙ moved
