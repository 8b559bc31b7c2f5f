use Rattle.std.proofs.Common.{ℕ, ◌+◌, ◌<◌, ◌≤◌, List, length, get_or, ap, sym, subst, arith}
use Rattle.std.specs.List.{AllWithin}
use Rattle.std.proofs.lemmas.List.{take_rest, length-take-le, length-drop}
use Rattle.tmmbr_tuple.specs.RatePair.{RatePair, Permits}
use Rattle.rate_cert.specs.declared.request.Request.{Request as RateRequest}
use Rattle.rate_cert.specs.Requests.{IsFeasible}
use Rattle.bounding_set.specs.Envelope.{Crosses, Turns, IsHull}
use Rattle.bounding_set.specs.Place.{StandsFor}
use Rattle.bounding_set.proofs.StandsLemmas.{IsHull-take, IsHull-drop, StandsFor-from_parts}
use Rattle.bounding_set.proofs.SpliceLemmas.{one_of_overhead}
use Rattle.bounding_set.proofs.splice.needless_beside.Goals as goal

pub needed_before-low-requires-clause-hull : goal.needed_before-low-requires-clause-hull
needed_before-low-requires-clause-hull c =
    IsHull-take c.args.lines.now c.args.at (omega (arith, c.requires.place.rising, c.requires.place.in_range)) c.requires.hull

pub needed_behind-requires-clause-hull : goal.needed_behind-requires-clause-hull
needed_behind-requires-clause-hull c =
    subst IsHull (sym (take_rest c.args.lines.now c.args.from)) (IsHull-drop c.args.lines.now c.args.from c.requires.hull)

stands : (c : goal.After-needed_behind) → StandsFor c.args.lines.now c.args.x.now c.needed_before-low.result (c.args.from + c.needed_behind.result)
stands c =
    let lines = c.args.lines.now in
    let x = c.args.x.now in
    let low = c.needed_before-low.ensures in
    let more = c.needed_behind.ensures in
    let rest = take_rest lines c.args.from in
    let at_in : c.args.at ≤ length lines = omega (arith, c.requires.place.rising, c.requires.place.in_range) in
    StandsFor-from_parts lines x c.args.at c.args.from c.needed_before-low.result c.needed_behind.result c.requires.place c.requires.needed
    (omega (arith, low.within, length-take-le c.args.at lines at_in))
    low.covers low.rates low.turns
    (subst (λ (s : List RateRequest). c.needed_behind.result ≤ length s) rest more.within)
    (subst (λ (s : List RateRequest). (p : RatePair) → AllWithin (λ l. Permits l.tuple p) s c.needed_behind.result (length s) → Permits x.tuple p → IsFeasible s p) rest more.covers)
    (subst (λ (s : List RateRequest). AllWithin (Crosses x) s c.needed_behind.result (length s)) rest more.crosses)
    (subst (λ (s : List RateRequest). (i j : ℕ) (d : RateRequest) → c.needed_behind.result ≤ i → i < j → j < length s → Turns x (get_or s i d) (get_or s j d)) rest more.turns)

pub returns-clause-stands : goal.returns-clause-stands
returns-clause-stands c =
    let lines = c.args.lines.now in
    let at_in : c.args.at ≤ length lines = omega (arith, c.requires.place.rising, c.requires.place.in_range) in
    record {
      stands = stands c;
      before = omega (arith, c.needed_before-low.ensures.within, length-take-le c.args.at lines at_in);
      behind = omega arith;
    }

pub returns-clause-tests : goal.returns-clause-tests
returns-clause-tests c =
    let lines = c.args.lines.now in
    let low = c.needed_before-low.ensures in
    let more = c.needed_behind.ensures in
    let at_in : c.args.at ≤ length lines = omega (arith, c.requires.place.rising, c.requires.place.in_range) in
    let taken = length-take-le c.args.at lines at_in in
    let one = one_of_overhead lines c.args.x.now c.args.at c.args.from c.requires.hull c.requires.place in
    let rest = ap length (take_rest lines c.args.from) in
    record {
      counted = omega (arith, low.tests.counted, more.tests.counted);
      asked_before = λ some. omega (arith, low.tests.asked (omega (arith, some, taken)), more.tests.counted);
      asked_behind = λ some. omega (arith, more.tests.asked (omega (arith, some, rest, length-drop c.args.from lines)), low.tests.counted);
      each = omega (arith, one, low.within, low.tests.each, more.tests.each, taken);
      few = omega (arith, low.within, low.tests.few, more.tests.few, taken, c.requires.place.rising);
    }
