use Rattle.std.proofs.Common.{◌≡◌, ◌∙◌, ◌-◌, ◌≤◌, ℕ, suc, drop, length, length-drop, take_all, sym, ap, arith}
use Rattle.replay.specs.Shown.{is_named, names_source}
use Rattle.replay.proofs.ShownLemmas.{named_behind}
use Rattle.replay.proofs.shown.+names_source.Goals as goal

pub returns-then-is_rtcp : goal.returns-then-is_rtcp
returns-then-is_rtcp t c =
    let datagram = c.args.datagram.now in
    let size = c.first_size.result in
    let some : c.args.left ≡ suc (c.args.left - 1) = omega (arith, c.if-left-eq0.false) in
    let rest : length (drop size datagram) ≤ length datagram - size = omega (arith, length-drop size datagram) in
    let whole = take_all (length datagram - size) (drop size datagram) rest in
    c.names_source.ensures
    ∙ (ap (names_source (c.args.left - 1) c.args.source) (whole ∙ ap (λ (n : ℕ). drop n datagram) c.first_size.ensures.size)
    ∙ sym (named_behind c.args.left (c.args.left - 1) c.args.source datagram some
    (ap (is_named c.args.source) (sym c.source_named.ensures) ∙ (sym c.is_named.ensures ∙ c.if-is_named.false))
    (sym c.is_rtcp.ensures ∙ c.if-is_rtcp.true)))
