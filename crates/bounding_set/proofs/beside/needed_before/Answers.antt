use Rattle.std.proofs.Common.{◌≡◌, ◌-◌, ◌<◌, get_or, arith}
use Rattle.rate_cert.proofs.CheckerLemmas.{shown, refuted}
use Rattle.tmmbr_tuple.specs.Tuple.{rate_of}
use Rattle.rate_cert.specs.declared.request.Request.{Request as RateRequest}
use Rattle.bounding_set.specs.Envelope.{Turns}
use Rattle.bounding_set.proofs.EnvelopeLemmas.{needed_turn, needed_rises}
use Rattle.bounding_set.proofs.BesideLemmas.{rises_from_needed, turns_from_needed, without_last}
use Rattle.bounding_set.proofs.beside.needed_before.Goals as goal

pub loop-needed-preserved : goal.loop-needed-preserved
loop-needed-preserved c =
    let test = c.is_needless_before in
    let some : 0 < c.loop-needed.needed = test.ensures.some c.loop-needed-test.true in
    record {
      is_needed = without_last c.args.lines.now c.args.x.now c.loop-needed.needed some c.loop-needed.invariant.is_needed
          (λ one d. shown test.result (test.ensures.one d one) c.loop-needed-test.true)
          (λ more d. shown test.result (test.ensures.more d more) c.loop-needed-test.true);
      counted = omega (arith, test.ensures.counted, c.loop-needed.invariant.counted);
      each = omega (arith, some, test.ensures.asked some, c.loop-needed.invariant.each);
      few = omega (arith, some, test.ensures.few, c.loop-needed.invariant.few);
    }

one : (c : goal.After-loop-needed) → c.loop-needed.needed ≡ 1 → (d : RateRequest) → rate_of (get_or c.args.lines.now 0 d).tuple < rate_of c.args.x.now.tuple
one c is_one d =
    let test = c.is_needless_before in
    rises_from_needed (get_or c.args.lines.now 0 d) c.args.x.now
    (c.requires.beyond 0 d (omega (arith, c.loop-needed.invariant.is_needed.within))).overhead
    (refuted test.result (test.ensures.one d is_one) c.loop-needed-test.false)

more : (c : goal.After-loop-needed) → 1 < c.loop-needed.needed → (d : RateRequest)
    → Turns (get_or c.args.lines.now (c.loop-needed.needed - 2) d) (get_or c.args.lines.now (c.loop-needed.needed - 1) d) c.args.x.now
more c some d =
    let test = c.is_needless_before in
    let needed = c.loop-needed.needed in
    let within = c.loop-needed.invariant.is_needed.within in
    turns_from_needed (get_or c.args.lines.now (needed - 2) d) (get_or c.args.lines.now (needed - 1) d) c.args.x.now
    (c.requires.hull.crosses (needed - 2) (needed - 1) d (omega arith) (omega arith)).overhead
    (c.requires.beyond (needed - 1) d (omega arith)).overhead
    (refuted test.result (test.ensures.more d some) c.loop-needed-test.false)

pub returns-clause-rates : goal.returns-clause-rates
returns-clause-rates c =
    needed_rises c.args.lines.now c.args.x.now c.requires.hull c.requires.beyond c.loop-needed.needed
    c.loop-needed.invariant.is_needed.within (one c) (more c)

pub returns-clause-turns : goal.returns-clause-turns
returns-clause-turns c =
    needed_turn c.args.lines.now c.args.x.now c.requires.hull c.requires.beyond c.loop-needed.needed
    c.loop-needed.invariant.is_needed.within (one c) (more c)
