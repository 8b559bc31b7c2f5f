use Rattle.std.proofs.Common.{◌≤◌, ◌∙◌, ◌++◌, List, ap, ap₂, arith, append-nil, map, sym}
use Rattle.std.proofs.lemmas.List.{append_assoc}
use Rattle.std.specs.List.{enumerate_from, flat_map}
use Rattle.settings.specs.declared.settings.LegSettings.{LegSettings}
use Rattle.core_steps.specs.Hearing.{leg_report_if, upstream_reports}
use Rattle.core_steps.specs.Machine.{setup_of, task_of}
use Rattle.core_steps.specs.Rounds.{comes_between}
use Rattle.core_steps.specs.World.{Task}
use Rattle.core_steps.proofs.RoundLemmas.{none_between, none_due}
use Rattle.core_steps.proofs.reporting.push_reports.Goals as goal

pub returns-then-slots : goal.returns-then-slots
returns-then-slots c =
    let due = comes_between (setup_of c.args.setup.now) c.args.slots.done c.args.slots.come in
    let links = c.args.setup.now.links in
    let room = c.args.room.now in
    λ bits. let first = map (task_of bits) c.args.follow_ups.now.items in
    let up = upstream_reports room due c.args.endpoints in
    c.push_leg_reports.ensures bits
    ∙ ap₂ (λ (l : List Task) (ls : List LegSettings). l ++ flat_map (leg_report_if links room due) (enumerate_from 0 ls))
    (c.push_upstream_reports.ensures.items bits) c.legs.ensures.value
    ∙ append_assoc first up (flat_map (leg_report_if links room due) (enumerate_from 0 links.legs))

pub returns-else-slots : goal.returns-else-slots
returns-else-slots c =
    let s = setup_of c.args.setup.now in
    let over : c.args.slots.come ≤ c.args.slots.done = omega arith in
    let none = none_due c.args.setup.now.links c.args.room.now (comes_between s c.args.slots.done c.args.slots.come) c.args.endpoints
    (none_between s c.args.slots.done c.args.slots.come over) in
    λ bits. let first = map (task_of bits) c.args.follow_ups.now.items in
    sym (ap (λ (l : List Task). first ++ l) none ∙ append-nil first)
