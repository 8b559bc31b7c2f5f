use Rattle.std.proofs.Common.{◌≤◌, ◌∙◌, ap, sym, length, arith}
use Rattle.settings.specs.Links.{LinkTable, legs_of}
use Rattle.settings.proofs.LinkLemmas.{numbers_past}
use Rattle.settings.proofs.links.Links.of_publisher.Goals as goal

pub returns-in-None : goal.returns-in-None
returns-in-None c =
    let size = c.self.invariant.1.size in
    let count = c.in-None.ensures.lookup.3 in
    let shown = c.deref.ensures.value in
    let held = ap length shown in
    let same = c.from.ensures in
    let past : length c.self.inside.endpoints.items ≤ c.args.publisher = omega arith in
    let none = numbers_past (length c.self.inside.endpoints.items) c.args.publisher 0 c.self.inside.legs.items
    c.self.invariant.0.legs past in
    sym none ∙ ap (λ (t : LinkTable). legs_of t c.args.publisher) c.self.view_is
