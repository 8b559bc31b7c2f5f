use Rattle.std.proofs.Common.{inl, inr, ◌≡◌, length, sym, ap, ◌∙◌, arith, rules}
use Rattle.std.proofs.lemmas.Bool.{cases_Bool}
use Rattle.bounding_set.specs.Canonical.{StopsMedia}
use Rattle.bounding_set.specs.State.{dropped_count}
use Rattle.bounding_set.proofs.SplicedLemmas.{IsEnvelopeOf-spliced, IsEnvelopeOf-stopped, length-spliced}
use Rattle.bounding_set.proofs.MemberLemmas.{HasOneMore-put, IsEnvelopeOf-more, HasLineOf-line, Contains-spliced}
use Rattle.bounding_set.proofs.DropLemmas.{tests_fit, lines_within, dropped_between, dropped_within, none_dropped}
use Rattle.bounding_set.proofs.live.put_in.Goals as goal

pub returns-then-rate-eq0-clause-holds : goal.returns-then-rate-eq0-clause-holds
returns-then-rate-eq0-clause-holds c =
    let old = c.args.rows.now.items in
    let new = c.add.new.rows.items in
    let lines = c.args.lines.now.items in
    let x = c.args.x.now in
    let stops : StopsMedia x = sym c.rate.ensures.value ∙ c.if-rate-eq0.true in
    record {
      rising = c.add.ensures.rising;
      envelope = IsEnvelopeOf-more new old lines x (HasOneMore-put old new x c.requires.holds.rising c.add.ensures.rising c.requires.absent c.add.ensures.put)
          ((IsEnvelopeOf-stopped x old lines stops).0 c.requires.holds.envelope);
    }

pub returns-then-rate-eq0-clause-tests : goal.returns-then-rate-eq0-clause-tests
returns-then-rate-eq0-clause-tests c =
    let none = none_dropped c.args.lines.now.items in
    record {
      counted = omega arith;
      each = omega (arith, none);
      few = omega arith;
      one_more = omega arith;
      tested = λ _. omega arith;
      each_few = omega arith;
      bounded = omega arith;
    }

pub splice-requires-clause-room : goal.splice-requires-clause-room
splice-requires-clause-room c =
    let within = lines_within c.args.rows.now.items c.args.lines.now.items c.requires.holds.envelope in
    record {
      room = omega (arith, within, c.requires.room.room);
      countable = omega (arith, within, c.requires.room.room, c.requires.room.countable, tests_fit);
    }

pub returns-clause-holds : goal.returns-clause-holds
returns-clause-holds c =
    let old = c.args.rows.now.items in
    let new = c.add.new.rows.items in
    let lines = c.args.lines.now.items in
    let x = c.args.x.now in
    let sends : ¬ StopsMedia x = λ stops. c.if-rate-eq0.false (c.rate.ensures.value ∙ stops) in
    record {
      rising = c.add.ensures.rising;
      envelope = IsEnvelopeOf-more new old c.splice.new.lines.items x
          (HasOneMore-put old new x c.requires.holds.rising c.add.ensures.rising c.requires.absent c.add.ensures.put)
          (IsEnvelopeOf-spliced old lines c.splice.new.lines.items x c.splice.result _ c.requires.holds.envelope sends c.splice.ensures.envelope);
    }

pub returns-clause-is_line : goal.returns-clause-is_line
returns-clause-is_line c =
    λ is. HasLineOf-line c.args.x.now c.splice.new.lines.items
    (Contains-spliced c.args.lines.now.items c.splice.new.lines.items c.args.x.now _ (c.splice.ensures.envelope.spliced is))

pub returns-clause-tests : goal.returns-clause-tests
returns-clause-tests c =
    let lines = c.args.lines.now.items in
    let tests = c.splice.ensures.tests in
    let within = lines_within c.args.rows.now.items lines c.requires.holds.envelope in
    record {
      counted = tests.counted;
      each = elim (cases_Bool c.splice.result) [
        | inl is ↦
            let spliced = c.splice.ensures.envelope.spliced is in
            let dropped = dropped_within lines c.splice.new.lines.items c.args.x.now _ spliced in
            omega (arith, dropped, spliced.each_tested, tests.counted)
        | inr isn't ↦
            let none : dropped_count lines c.splice.new.lines.items ≡ 0 =
            ap (dropped_count lines) (c.splice.ensures.envelope.unchanged isn't) ∙ none_dropped lines in
            omega (arith, none, tests.counted)
      ];
      few = elim (cases_Bool c.splice.result) [
        | inl is ↦
            let spliced = c.splice.ensures.envelope.spliced is in
            let dropped = dropped_between c.args.rows.now.items lines c.splice.new.lines.items c.args.x.now
            c.requires.holds.rising c.requires.holds.envelope c.requires.absent _ spliced in
            omega (arith, dropped, spliced.few_tests, tests.counted)
        | inr isn't ↦ omega (arith, tests.few isn't)
      ];
      one_more = tests.one_more;
      tested = search rules;
      each_few = elim (cases_Bool c.splice.result) [
        | inl is ↦
            let spliced = c.splice.ensures.envelope.spliced is in
            let long = length-spliced lines c.splice.new.lines.items c.args.x.now _ spliced in
            omega (arith, long, spliced.rising, spliced.few_tests, tests.counted)
        | inr isn't ↦ omega (arith, tests.few isn't, ap length (c.splice.ensures.envelope.unchanged isn't))
      ];
      bounded = omega (arith, within, c.requires.room.room, tests.bounded);
    }
