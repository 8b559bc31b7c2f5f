use Rattle.std.proofs.Common.{◌≡◌, ◌≢◌, length, IsTrue, List, None, sym, ap, ◌∙◌, subst, arith}
use Rattle.std.specs.Prelude.{◌↔◌, All}
use Rattle.std.proofs.lemmas.Bool.Decides.{nat_tests}
use Rattle.rate_cert.specs.declared.request.Request.{Request}
use Rattle.rate_cert.proofs.CheckerLemmas.{refuted, no_of}
use Rattle.bounding_set.specs.Canonical.{StopsMedia}
use Rattle.bounding_set.specs.Announced.{HoldsStops, announced_among}
use Rattle.bounding_set.specs.State.{State, announced_of, dropped_count}
use Rattle.bounding_set.specs.Rows.{tuple_of}
use Rattle.bounding_set.proofs.MemberLemmas.{HasOneMore, HasOneMore-put, All-put}
use Rattle.bounding_set.proofs.BoundsLemmas.{no_stops, no_stops_before, chosen_among, other_stops, other_lines, nothing_other}
use Rattle.bounding_set.proofs.bounds.Bounds.set.Goals as goal
use Rattle.bounding_set.proofs.bounds.Bounds.set.Goals.{then-stops_changed, else-stops_changed+then-lines_changed, else-stops_changed+else-lines_changed}

pub update_stops-stops_changed-requires-clause-none : goal.update_stops-stops_changed-requires-clause-none
update_stops-stops_changed-requires-clause-none c =
    let x : Request = record { owner = c.args.owner; tuple = c.args.tuple } in
    λ not_zero empty.
    let sends : ¬ StopsMedia x = λ stops. grind (arith, nat_tests, c.rate.ensures.value, not_zero, stops) in
    subst (All (λ r. ¬ StopsMedia r)) (sym c.as_slice-rows.ensures.value)
    (All-put (λ r. ¬ StopsMedia r) c.self.inside.rows.items c.replace-lines_changed.new.rows.items x
    c.replace-lines_changed.ensures.holds.rising c.replace-lines_changed.ensures.put (c.self.invariant.3.none empty) sends)

-- what was announced, and what is now
before : (c : goal.Joined-stops_changed) → announced_of c.args.self.now ≡ announced_among c.self.inside.stops.items c.self.inside.lines.items
before c = sym (ap announced_of c.self.view_is) ∙ c.self.invariant.5

abbrev AnnouncedNow : goal.Joined-stops_changed → List Request
AnnouncedNow c = announced_of (record { rows = c.replace-lines_changed.new.rows.items; cert = c.announce.new.cert; steps = c.replace-lines_changed.new.count })

now : (c : goal.Joined-stops_changed)
    → AnnouncedNow c ≡ announced_among c.update_stops-stops_changed.new.stops.items c.replace-lines_changed.new.lines.items
now c =
    chosen_among c.replace-lines_changed.new.rows.items c.as_slice-rows.result.now c.replace-lines_changed.new.lines.items c.as_slice-lines.result.now
    c.update_stops-stops_changed.new.stops.items c.as_slice-stops.result.now c.announce.new.cert c.as_slice-rows.ensures.value c.as_slice-lines.ensures.value
    c.as_slice-stops.ensures.value c.announce.ensures.chosen

holds : (c : goal.Joined-stops_changed) → HoldsStops c.replace-lines_changed.new.rows.items c.update_stops-stops_changed.new.stops.items
holds c =
    subst (λ rows. HoldsStops rows c.update_stops-stops_changed.new.stops.items) c.as_slice-rows.ensures.value c.update_stops-stops_changed.ensures.holds

pub returns-clause-changed : goal.returns-clause-changed
returns-clause-changed c =
    let rows = c.self.inside.rows.items in
    let rows' = c.replace-lines_changed.new.rows.items in
    let stops = c.self.inside.stops.items in
    let stops' = c.update_stops-stops_changed.new.stops.items in
    let lines = c.self.inside.lines.items in
    let lines' = c.replace-lines_changed.new.lines.items in
    let result = c.if-stops_changed.result in
    let of_stops = c.update_stops-stops_changed.ensures.changed in
    let of_lines = c.replace-lines_changed.ensures.changed in
    let says : IsTrue result ↔ (announced_among stops' lines' ≢ announced_among stops lines) =
    elim c.if-stops_changed.branch [
      | then-stops_changed w ↦ (
        λ _. other_stops rows rows' stops stops' lines lines' c.self.invariant.3 (holds c) c.self.invariant.2.send
            c.replace-lines_changed.ensures.holds.envelope.send (of_stops.0 w.if-stops_changed.true),
        λ _. w.result-is ∙ w.if-stops_changed.true,
      )
      | else-stops_changed+then-lines_changed w ↦
          other_lines rows rows' stops stops' lines lines' result c.self.invariant.3 c.replace-lines_changed.ensures.holds.envelope.send
          (refuted c.update_stops-stops_changed.result of_stops w.if-stops_changed.false) (of_lines.0 w.if-lines_changed.true)
          (λ is. grind (arith, nat_tests, w.result-is, w.is_empty.ensures, is), λ none. grind (arith, nat_tests, w.result-is, w.is_empty.ensures, none))
      | else-stops_changed+else-lines_changed w ↦
          no_of result (w.result-is ∙ w.if-lines_changed.false)
          (nothing_other stops stops' lines lines' (refuted c.update_stops-stops_changed.result of_stops w.if-stops_changed.false)
          (refuted c.replace-lines_changed.result of_lines w.if-lines_changed.false))
    ] in
    subst (λ announced. IsTrue result ↔ (announced ≢ announced_of c.args.self.now)) (sym (now c))
    (subst (λ announced. IsTrue result ↔ (announced_among stops' lines' ≢ announced)) (sym (before c)) says)

pub returns-clause-steps : goal.returns-clause-steps
returns-clause-steps c =
    let x : Request = record { owner = c.args.owner; tuple = c.args.tuple } in
    let rows = c.self.inside.rows.items in
    let rows' = c.replace-lines_changed.new.rows.items in
    let stops = c.self.inside.stops.items in
    let stops' = c.update_stops-stops_changed.new.stops.items in
    let lines = c.self.inside.lines.items in
    let lines' = c.replace-lines_changed.new.lines.items in
    λ absent send.
    let absent_inside : tuple_of rows c.args.owner.0 ≡ None = ap (λ (s : State). tuple_of s.rows c.args.owner.0) c.self.view_is ∙ absent in
    let one : HasOneMore rows' rows x =
    HasOneMore-put rows rows' x c.self.invariant.1 c.replace-lines_changed.ensures.holds.rising absent_inside c.replace-lines_changed.ensures.put in
    let none = no_stops_before rows rows' stops x c.self.invariant.3 one send in
    let none' = no_stops rows' stops' (holds c) send in
    let was : announced_of c.args.self.now ≡ lines = before c ∙ ap (λ ss. announced_among ss lines) none in
    let is : AnnouncedNow c ≡ lines' = now c ∙ ap (λ ss. announced_among ss lines') none' in
    let few = c.replace-lines_changed.ensures.tests.few absent_inside in
    let same : dropped_count (announced_of c.args.self.now) (AnnouncedNow c) ≡ dropped_count lines lines' =
    ap (λ before. dropped_count before (AnnouncedNow c)) was ∙ ap (dropped_count lines) is in
    omega (arith, few, same)

pub returns-clause-each_step : goal.returns-clause-each_step
returns-clause-each_step c =
    let x : Request = record { owner = c.args.owner; tuple = c.args.tuple } in
    let rows = c.self.inside.rows.items in
    let rows' = c.replace-lines_changed.new.rows.items in
    let stops = c.self.inside.stops.items in
    let stops' = c.update_stops-stops_changed.new.stops.items in
    let lines = c.self.inside.lines.items in
    let lines' = c.replace-lines_changed.new.lines.items in
    λ absent send.
    let absent_inside : tuple_of rows c.args.owner.0 ≡ None = ap (λ (s : State). tuple_of s.rows c.args.owner.0) c.self.view_is ∙ absent in
    let one : HasOneMore rows' rows x =
    HasOneMore-put rows rows' x c.self.invariant.1 c.replace-lines_changed.ensures.holds.rising absent_inside c.replace-lines_changed.ensures.put in
    let none = no_stops_before rows rows' stops x c.self.invariant.3 one send in
    let none' = no_stops rows' stops' (holds c) send in
    let was : announced_of c.args.self.now ≡ lines = before c ∙ ap (λ ss. announced_among ss lines) none in
    let is : AnnouncedNow c ≡ lines' = now c ∙ ap (λ ss. announced_among ss lines') none' in
    let each = c.replace-lines_changed.ensures.tests.each absent_inside in
    let same : dropped_count (announced_of c.args.self.now) (AnnouncedNow c) ≡ dropped_count lines lines' =
    ap (λ before. dropped_count before (AnnouncedNow c)) was ∙ ap (dropped_count lines) is in
    omega (arith, each, same)

pub returns-clause-each_more : goal.returns-clause-each_more
returns-clause-each_more c =
    let rows = c.self.inside.rows.items in
    let rows' = c.replace-lines_changed.new.rows.items in
    let stops' = c.update_stops-stops_changed.new.stops.items in
    let lines = c.self.inside.lines.items in
    let lines' = c.replace-lines_changed.new.lines.items in
    λ sent send.
    let sent_inside : All (λ r. ¬ StopsMedia r) rows = subst (All (λ r. ¬ StopsMedia r)) (sym (ap (λ (s : State). s.rows) c.self.view_is)) sent in
    let were = ap length (before c ∙ ap (λ ss. announced_among ss lines) (no_stops rows c.self.inside.stops.items c.self.invariant.3 sent_inside)) in
    let are = ap length (now c ∙ ap (λ ss. announced_among ss lines') (no_stops rows' stops' (holds c) send)) in
    omega (arith, were, are, c.replace-lines_changed.ensures.tests.each_more)
