use Rattle.std.proofs.Common.{sym, arith}
use Rattle.std.proofs.lemmas.Result.{err_from_is_err_and}
use Rattle.settings.specs.Settings.{additions_of}
use Rattle.settings.proofs.SettingsLemmas.{top_fails, endpoints_fail, legs_fail, sources_fail, all_pass, endpoint_bounds, leg_bound}
use Rattle.settings.proofs.checks.checked.Goals as goal

pub returns-in_err-numbers : goal.returns-in_err-numbers
returns-in_err-numbers c =
    let p = err_from_is_err_and c.from_residual.result c.from_residual.ensures.1 in
    rw (p.1, p.2) (top_fails c.args.parts.now (additions_of c.args.extras.now) c.in_err-numbers.field-0.0 c.in_err-numbers.ensures)

pub returns-in_err-check_endpoints : goal.returns-in_err-check_endpoints
returns-in_err-check_endpoints c =
    let p = err_from_is_err_and c.from_residual-in_err-check_endpoints.result c.from_residual-in_err-check_endpoints.ensures.1 in
    rw (p.1, p.2) (endpoints_fail c.args.parts.now (additions_of c.args.extras.now) c.in_err-check_endpoints.field-0.0 c.in_ok-numbers.ensures.0 c.in_err-check_endpoints.ensures)

pub returns-in_err-check_legs : goal.returns-in_err-check_legs
returns-in_err-check_legs c =
    let p = err_from_is_err_and c.from_residual-in_err-check_legs.result c.from_residual-in_err-check_legs.ensures.1 in
    rw (p.1, p.2) (legs_fail c.args.parts.now (additions_of c.args.extras.now) c.in_err-check_legs.field-0.0 c.in_ok-numbers.ensures.0 c.in_ok-check_endpoints.ensures c.in_err-check_legs.ensures)

pub returns-then-not-are_all_distinct : goal.returns-then-not-are_all_distinct
returns-then-not-are_all_distinct c =
    sources_fail c.args.parts.now (additions_of c.args.extras.now) c.in_ok-numbers.ensures.0 c.in_ok-check_endpoints.ensures c.in_ok-check_legs.ensures (sym c.if-not-are_all_distinct.ensures)

pub returns : goal.returns
returns c = (
  all_pass c.args.parts.now (additions_of c.args.extras.now) c.in_ok-numbers.ensures.0 c.in_ok-check_endpoints.ensures c.in_ok-check_legs.ensures (sym c.if-not-are_all_distinct.ensures),
  c.in_ok-numbers.ensures.1,
)

pub are_all_distinct-requires : goal.are_all_distinct-requires
are_all_distinct-requires c =
    let endpoints = (endpoint_bounds c.args.parts.now (additions_of c.args.extras.now) c.in_ok-numbers.ensures.0).1 in
    let legs = leg_bound c.args.parts.now (additions_of c.args.extras.now) c.in_ok-numbers.ensures.0 in
    omega (arith, endpoints, legs)
