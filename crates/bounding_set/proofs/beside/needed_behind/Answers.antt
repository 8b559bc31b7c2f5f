use Rattle.std.proofs.Common.{◌+◌, ◌*◌, ◌<◌, length, get_or, inl, inr, arith}
use Rattle.std.proofs.lemmas.Bool.{cases_lt}
use Rattle.rate_cert.proofs.CheckerLemmas.{shown, refuted}
use Rattle.tmmbr_tuple.specs.Tuple.{rate_of}
use Rattle.rate_cert.specs.declared.request.Request.{Request as RateRequest}
use Rattle.bounding_set.specs.Envelope.{Turns}
use Rattle.bounding_set.proofs.BesideLemmas.{reach_from_needed, turns_from_needed, without_first, crosses_behind, turns_behind}
use Rattle.bounding_set.proofs.beside.needed_behind.Goals as goal

pub loop-first-preserved : goal.loop-first-preserved
loop-first-preserved c =
    let test = c.is_needless_behind in
    record {
      is_needed = without_first c.args.lines.now c.args.x.now c.loop-first.first (test.ensures.some c.loop-first-test.true) c.loop-first.invariant.is_needed
          (λ last d. shown test.result (test.ensures.last d last) c.loop-first-test.true)
          (λ more d. shown test.result (test.ensures.more d more) c.loop-first-test.true);
      counted = omega (arith, test.ensures.counted, c.loop-first.invariant.counted);
      each = omega (arith, test.ensures.asked (test.ensures.some c.loop-first-test.true), c.loop-first.invariant.each);
      few = omega (arith, test.ensures.few, c.loop-first.invariant.few);
    }

reach : (c : goal.After-loop-first) → (d : RateRequest) → c.loop-first.first < length c.args.lines.now
    → rate_of (get_or c.args.lines.now c.loop-first.first d).tuple * c.args.x.now.tuple.overhead
    < rate_of c.args.x.now.tuple * (get_or c.args.lines.now c.loop-first.first d).tuple.overhead
reach c d below =
    let test = c.is_needless_behind in
    let x = c.args.x.now in
    let first = c.loop-first.first in
    let t = get_or c.args.lines.now first d in
    let ahead = (c.requires.behind first d below).overhead in
    elim (cases_lt (first + 1) (length c.args.lines.now)) [
      | inl more ↦
          reach_from_needed x t (get_or c.args.lines.now (first + 1) d) ahead c.requires.sends
          (refuted test.result (test.ensures.more d more) c.loop-first-test.false)
      | inr ends ↦
          reach_from_needed x t x ahead c.requires.sends
          (refuted test.result (test.ensures.last d (omega arith)) c.loop-first-test.false)
    ]

more : (c : goal.After-loop-first) → (d : RateRequest) → c.loop-first.first + 1 < length c.args.lines.now
    → Turns c.args.x.now (get_or c.args.lines.now c.loop-first.first d) (get_or c.args.lines.now (c.loop-first.first + 1) d)
more c d some =
    let test = c.is_needless_behind in
    let first = c.loop-first.first in
    turns_from_needed c.args.x.now (get_or c.args.lines.now first d) (get_or c.args.lines.now (first + 1) d)
    (c.requires.behind first d (omega arith)).overhead
    (c.requires.hull.crosses first (first + 1) d (omega arith) some).overhead
    (refuted test.result (test.ensures.more d some) c.loop-first-test.false)

pub returns-clause-crosses : goal.returns-clause-crosses
returns-clause-crosses c =
    crosses_behind c.args.lines.now c.args.x.now c.requires.hull c.requires.behind c.loop-first.first (reach c)

pub returns-clause-turns : goal.returns-clause-turns
returns-clause-turns c =
    turns_behind c.args.lines.now c.args.x.now c.requires.hull c.requires.behind c.loop-first.first (more c)
