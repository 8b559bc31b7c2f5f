use Rattle.std.proofs.Common.{◌≡◌, ◌-◌, ◌≤◌, length, get_or, Some, subst, arith}
use Rattle.rate_cert.proofs.CheckerLemmas.{shown, refuted}
use Rattle.bounding_set.proofs.PutBackLemmas.{IsLeftOf, IsRightOf, put_back_none, put_back_all, put_back_skipped, put_back_spliced, no_more_lines}
use Rattle.bounding_set.proofs.SpliceLemmas.{grown}
use Rattle.bounding_set.proofs.unsplice.put_back.Goals as goal
use Rattle.bounding_set.proofs.unsplice.put_back.Goals.{then-may_return, else-may_return}

pub loop-row-init : goal.loop-row-init
loop-row-init c = record {
  envelope = put_back_none c.args.rows.now c.args.lines.now.items c.args.place c.requires.envelope;
  risen = omega arith;
  grows = omega arith;
  counted = omega arith;
}

pub splice-requires-clause-room : goal.splice-requires-clause-room
splice-requires-clause-room c =
    let fewer = no_more_lines c.args.rows.now c.args.lines.now.items c.args.place c.requires.envelope c.loop-row.lines.items c.loop-row.row-index
    c.loop-row.invariant.envelope in
    record {
      room = omega (arith, fewer, c.requires.room.within);
      countable = omega (arith, fewer, c.requires.room.within, c.loop-row.invariant.counted, c.requires.room.countable, c.loop-row-test.true);
    }

pub loop-row-preserved : goal.loop-row-preserved
loop-row-preserved c =
    let rows = c.args.rows.now in
    let start = c.args.lines.now.items in
    let left = c.overhead_before-left.result in
    let right = c.overhead_at-right.result in
    let gap = c.requires.envelope in
    let is_left : IsLeftOf start c.args.place left = record {
      some = λ d some. subst (λ s. c.args.place ≤ length s → left ≡ Some (get_or s (c.args.place - 1) d).tuple.overhead)
          c.as_slice.ensures.value (c.overhead_before-left.ensures.some d some) gap.in_range;
      none = c.overhead_before-left.ensures.none;
    } in
    let is_right : IsRightOf start c.args.place right =
    subst (λ s. IsRightOf s c.args.place right) c.as_slice-2.ensures.value
    record { some = c.overhead_at-right.ensures.some; none = c.overhead_at-right.ensures.none } in
    elim c.if-may_return.branch [
      | then-may_return w ↦
          let tests = w.splice.ensures.tests in
          let fewer = no_more_lines rows start c.args.place gap c.loop-row.lines.items c.loop-row.row-index c.loop-row.invariant.envelope in
          record {
            envelope = rw w.lines-is
                (put_back_spliced rows start c.args.place gap c.loop-row.lines.items c.loop-row.row-index c.loop-row.invariant.envelope
                c.row-item.result c.loop-row-test.true c.row-item.is w.splice.new.lines.items w.splice.result (w.splice.new.count - c.loop-row.count)
                (shown c.may_return.result c.may_return.ensures w.if-may_return.true).0 w.splice.ensures.envelope);
            risen = rw w.count-is (omega (arith, c.loop-row.invariant.risen, tests.counted));
            grows = rw (w.count-is, w.lines-is)
                (grown (length c.loop-row.lines.items) (length start) c.args.count.now c.loop-row.count (length w.splice.new.lines.items) w.splice.new.count
                c.loop-row.invariant.risen c.loop-row.invariant.grows tests.one_more tests.counted tests.untested);
            counted = rw w.count-is (omega (arith, c.loop-row.invariant.counted, tests.bounded, fewer, c.requires.room.within));
          }
      | else-may_return w ↦ record {
        envelope = rw w.lines-is
            (put_back_skipped rows start c.args.place gap c.loop-row.lines.items c.loop-row.row-index c.loop-row.invariant.envelope
            c.row-item.result c.loop-row-test.true c.row-item.is c.requires.rising left right is_left is_right
            (refuted c.may_return.result c.may_return.ensures w.if-may_return.false));
        risen = rw w.count-is (omega (arith, c.loop-row.invariant.risen));
        grows = rw (w.count-is, w.lines-is) (omega (arith, c.loop-row.invariant.grows));
        counted = rw w.count-is (omega (arith, c.loop-row.invariant.counted));
      }
    ]

pub returns-clause-envelope : goal.returns-clause-envelope
returns-clause-envelope c =
    put_back_all c.args.rows.now c.args.lines.now.items c.args.place c.requires.envelope c.loop-row.lines.items c.loop-row.row-index
    c.loop-row.invariant.envelope c.loop-row-test.false
