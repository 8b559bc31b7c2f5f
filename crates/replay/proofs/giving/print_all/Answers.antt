use Rattle.std.proofs.Common.{ℕ, List, [], ◌∷◌, subst}
use Rattle.replay.specs.Printing.{PrintsGiven, scene_of}
use Rattle.replay.specs.Shown.{a_set, cause_of, given_at, trail}
use Rattle.replay.proofs.giving.print_all.Goals as goal

pub returns-in_ok-behind-in-Set-clause-printed : goal.returns-in_ok-behind-in-Set-clause-printed
returns-in_ok-behind-in-Set-clause-printed g c =
    let contents = g.O.Write.contents in
    let last = c.args.packets.now in
    rw c.in-Set.is
    (subst (λ (t : List ℕ). PrintsGiven (scene_of c.args.choice) (trail c.args.said last) (given_at (cause_of c.args.latest) (a_set t ∷ []))
    (trail c.in_ok-behind-in-Set.behind last) (contents c.args.writer.now) (contents c.print_set.new.writer))
    c.as_str.ensures.value (c.in_ok-behind-in-Set.ensures.printed last))
