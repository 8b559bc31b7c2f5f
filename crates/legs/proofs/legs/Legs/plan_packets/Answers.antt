use Rattle.std.proofs.Common.{◌≡◌, ◌≤◌, ℕ, ap, sym, subst, refl, length, arith, Some, List, ◌∙◌}
use Rattle.std.specs.Prelude.{slice_get}
use Rattle.std.specs.Global.{Vec}
use Rattle.std.specs.List.{flat_map}
use Rattle.std.proofs.lemmas.Option.{slice_get_read}
use Rattle.events.specs.declared.job.Job.TheVariants as job
use Rattle.legs.specs.declared.leg.LegState.{LegState}
use Rattle.legs.specs.declared.plan.Planned.{Planned}
use Rattle.legs.specs.Planning.{job_plan, plan_of}
use Rattle.legs.proofs.LegLemmas.{unplanned, moved, no_publisher, no_packet, at_places}
use Rattle.legs.proofs.legs.Legs.plan_packets.Goals as goal

pub returns-in_default : goal.returns-in_default
returns-in_default c =
    let count = c.in_default.ensures.lookup.3 in
    let held = ap length c.deref.ensures.value in
    let same = c.from.ensures in
    let past : length c.self.inside.published.items ≤ c.args.publisher = omega arith in
    let none = no_publisher c.args.rows.now c.args.publisher (length c.self.inside.published.items) c.args.packet.now c.self.inside.legs.items
    c.self.invariant.publishers past in
    unplanned _ _ (ap (λ (l : List LegState). job_plan c.args.rows.now l (job.Packet c.args.publisher c.args.packet.now)) (sym c.self.view_is) ∙ none)

pub returns-in_default-reading : goal.returns-in_default-reading
returns-in_default-reading c =
    unplanned _ _ (no_packet c.args.rows.now c.args.publisher c.args.packet.now c.args.self.now c.in_default-reading.ensures)

pub plan_places-requires : goal.plan_places-requires
plan_places-requires c =
    record { read = c.in-Some-reading.ensures }

pub returns : goal.returns
returns c =
    let rows = c.args.rows.now in
    let bytes = c.args.packet.now in
    let legs = c.self.inside.legs.items in
    let places = c.in-Some.places.now in
    let read = slice_get_read c.deref.result.now (length c.deref.result.now) c.from.result places refl c.in-Some.ensures.lookup.3.0 c.in-Some.ensures.lookup.1 in
    let held : slice_get c.self.inside.published.items c.from.result ≡ Some places =
    subst (λ (l : List (Vec ℕ)). slice_get l c.from.result ≡ Some places) c.deref.ensures.value read in
    let at : slice_get c.self.inside.published.items c.args.publisher ≡ Some places =
    subst (λ (k : ℕ). slice_get c.self.inside.published.items k ≡ Some places) c.from.ensures held in
    let list = c.self.invariant.lists_places.each c.args.publisher places at in
    let F : List ℕ → List LegState → List ℕ → List Planned = λ d l p. flat_map (plan_of rows d l) p in
    let planned = ap (λ (l : List LegState). F bytes l c.as_slice-places.result.now) c.as_slice-legs.ensures.value
    ∙ ap (F bytes legs) c.as_slice-places.ensures.value
    ∙ at_places rows c.args.publisher bytes legs places.items list c.in-Some-reading.ensures.is_packet
    ∙ ap (λ (l : List LegState). job_plan rows l (job.Packet c.args.publisher bytes)) c.self.view_is in
    moved c.plan_places.result c.plan_places.new.plan c.args.plan.now _ _ planned c.plan_places.ensures
