-- What is planned on the legs of a worker: what it gives out, and what the legs are once it is done.
use Rattle.std.specs.Prelude.{ℕ, zero, suc, List, [], ◌∷◌, map, fold}
use Rattle.legs.specs.declared.leg.LegState.{LegState}
use Rattle.events.specs.declared.output.Out.{Out}
use Rattle.legs.specs.declared.plan.Planned.{Planned}
use Rattle.legs.specs.declared.plan.Change.{Change}
use Rattle.legs.specs.declared.plan.Change.TheVariants.{Nothing, Keep, Count}
use Rattle.legs.specs.Legs.{leg_after_packet, handed_out}

-- what a plan gives out
abbrev pub plan_outs : List Planned → List Out
plan_outs plan = map (λ (p : Planned). p.out) plan

-- the legs, the one at this place changed
abbrev pub changed_at : List LegState → ℕ → (LegState → LegState) → List LegState
changed_at [] place change = []
changed_at (s ∷ legs) zero change = change s ∷ legs
changed_at (s ∷ legs) (suc place) change = s ∷ changed_at legs place change

-- the legs, once this change is made
abbrev pub changed_by : List LegState → Change → List LegState
changed_by legs Nothing = legs
changed_by legs (Keep place numbers number octets packet) =
    changed_at legs place (λ s. leg_after_packet s numbers number octets packet)
changed_by legs (Count place octets) = changed_at legs place (λ s. handed_out s octets)

abbrev pub applied_one : List LegState → Planned → List LegState
applied_one legs p = changed_by legs p.change

-- the legs once a plan is done
abbrev pub legs_after_plan : List LegState → List Planned → List LegState
legs_after_plan legs plan = fold applied_one legs plan
