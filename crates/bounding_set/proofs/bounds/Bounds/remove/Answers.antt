use Rattle.std.proofs.Common.{length, arith, ◌≡◌, ◌∷◌, inl, inr, ap, sym, ◌∙◌, subst}
use Rattle.std.proofs.lemmas.Bool.{cases_Bool}
use Rattle.std.specs.Prelude.{All, ◌≢◌}
use Rattle.rate_cert.specs.declared.request.Request.{Request}
use Rattle.bounding_set.specs.Canonical.{StopsMedia}
use Rattle.bounding_set.specs.Envelope.{IsEnvelopeOf}
use Rattle.bounding_set.proofs.MemberLemmas.{HasOneMore-taken, IsEnvelopeOf-fewer, All-fewer, absent_owner}
use Rattle.bounding_set.specs.Announced.{HoldsStops, announced_among}
use Rattle.bounding_set.specs.State.{State, announced_of}
use Rattle.bounding_set.proofs.BoundsLemmas.{no_stops, chosen_among, no_line}
use Rattle.bounding_set.proofs.bounds.Bounds.remove.Goals as goal

pub unsplice-requires-clause-envelope : goal.unsplice-requires-clause-envelope
unsplice-requires-clause-envelope c =
    let gone : Request = record { owner = c.args.owner; tuple = c.in_ok-tuple.tuple } in
    let old = c.self.inside.rows.items in
    let new = c.take.new.rows.items in
    subst (λ rows. IsEnvelopeOf (gone ∷ rows) c.self.inside.lines.items) (sym c.as_slice-rows.ensures.value)
    (IsEnvelopeOf-fewer old new c.self.inside.lines.items gone
    (HasOneMore-taken old new gone c.self.invariant.1 c.take.ensures.rising (sym c.take.ensures.value ∙ c.in_ok-tuple.was) c.take.ensures.taken) c.self.invariant.2)

pub unsplice-requires-clause-others : goal.unsplice-requires-clause-others
unsplice-requires-clause-others c =
    subst (All (λ r. r.owner.0 ≢ c.args.owner.0)) (sym c.as_slice-rows.ensures.value)
    (absent_owner c.take.new.rows.items c.args.owner.0 c.take.ensures.rising c.take.ensures.taken.changed)

pub update_stops-requires-clause-none : goal.update_stops-requires-clause-none
update_stops-requires-clause-none c =
    let gone : Request = record { owner = c.args.owner; tuple = c.in_ok-tuple.tuple } in
    let old = c.self.inside.rows.items in
    let new = c.take.new.rows.items in
    λ no empty. subst (All (λ r. ¬ StopsMedia r)) (sym c.as_slice-rows.ensures.value)
    (All-fewer (λ r. ¬ StopsMedia r) old new gone
    (HasOneMore-taken old new gone c.self.invariant.1 c.take.ensures.rising (sym c.take.ensures.value ∙ c.in_ok-tuple.was) c.take.ensures.taken) (c.self.invariant.3.none empty))

-- if the owner's request isn't announced and no rate is 0, no line goes
pub returns-clause-no_step : goal.returns-clause-no_step
returns-clause-no_step c =
    let gone : Request = record { owner = c.args.owner; tuple = c.in_ok-tuple.tuple } in
    let rows = c.self.inside.rows.items in
    let lines = c.self.inside.lines.items in
    let announced : announced_of c.args.self.now ≡ announced_among c.self.inside.stops.items lines = sym (ap announced_of c.self.view_is) ∙ c.self.invariant.5 in
    λ send absent.
    let send_inside : All (λ r. ¬ StopsMedia r) rows = subst (All (λ r. ¬ StopsMedia r)) (sym (ap (λ (s : State). s.rows) c.self.view_is)) send in
    elim (cases_Bool c.unsplice.result) [
      | inl was ↦ absurd (no_line rows c.self.inside.stops.items lines (announced_of c.args.self.now) gone c.self.invariant.3 send_inside announced absent
          (c.unsplice.ensures.was_line.0 was))
      | inr wasn't ↦ (c.unsplice.ensures.untouched wasn't).tests
    ]

-- each request more that is announced then took a test
pub returns-clause-each_more : goal.returns-clause-each_more
returns-clause-each_more c =
    let gone : Request = record { owner = c.args.owner; tuple = c.in_ok-tuple.tuple } in
    let rows = c.self.inside.rows.items in
    let rows' = c.take.new.rows.items in
    let lines = c.self.inside.lines.items in
    let lines' = c.unsplice.new.lines.items in
    let stops' = c.update_stops.new.stops.items in
    let before : announced_of c.args.self.now ≡ announced_among c.self.inside.stops.items lines = sym (ap announced_of c.self.view_is) ∙ c.self.invariant.5 in
    let now = chosen_among rows' c.as_slice-rows.result.now lines' c.as_slice-lines.result.now stops' c.as_slice-stops.result.now c.announce.new.cert
    c.as_slice-rows.ensures.value c.as_slice-lines.ensures.value c.as_slice-stops.ensures.value c.announce.ensures.chosen in
    let holds : HoldsStops rows' stops' = subst (λ rs. HoldsStops rs stops') c.as_slice-rows.ensures.value c.update_stops.ensures.holds in
    λ send.
    let send_inside : All (λ r. ¬ StopsMedia r) rows = subst (All (λ r. ¬ StopsMedia r)) (sym (ap (λ (s : State). s.rows) c.self.view_is)) send in
    let send_now : All (λ r. ¬ StopsMedia r) rows' = All-fewer (λ r. ¬ StopsMedia r) rows rows' gone
    (HasOneMore-taken rows rows' gone c.self.invariant.1 c.take.ensures.rising (sym c.take.ensures.value ∙ c.in_ok-tuple.was) c.take.ensures.taken) send_inside in
    let were = ap length (before ∙ ap (λ ss. announced_among ss lines) (no_stops rows c.self.inside.stops.items c.self.invariant.3 send_inside)) in
    let are = ap length (now ∙ ap (λ ss. announced_among ss lines') (no_stops rows' stops' holds send_now)) in
    omega (arith, were, are, c.unsplice.ensures.tests.grows)
