use Rattle.settings.specs.Settings.{additions_of}
use Rattle.settings.proofs.SettingsLemmas.{in_range, endpoint_bounds, names_fit, top_of}
use Rattle.settings.proofs.settings.copied.Goals as goal

pub copied_legs-requires-clause-least : goal.copied_legs-requires-clause-least
copied_legs-requires-clause-least c = (endpoint_bounds c.args.parts.now (additions_of c.args.extras.now) (top_of c.args.parts.now (additions_of c.args.extras.now) c.requires.passes)).0

pub copied_legs-requires-clause-most : goal.copied_legs-requires-clause-most
copied_legs-requires-clause-most c = (endpoint_bounds c.args.parts.now (additions_of c.args.extras.now) (top_of c.args.parts.now (additions_of c.args.extras.now) c.requires.passes)).1

pub copied_cnames-requires : goal.copied_cnames-requires
copied_cnames-requires c = λ k below. names_fit c.args.parts.now (additions_of c.args.extras.now) c.requires.passes k below

pub invariant_of-result : goal.invariant_of-result
invariant_of-result c =
    rw (c.in_ok-cname.ensures, c.in_ok-endpoints.ensures, c.in_ok-cnames.ensures, c.in_ok-legs.ensures, c.source_of.ensures, c.rules_in.ensures)
    (in_range c.args.parts.now (additions_of c.args.extras.now) c.args.numbers c.requires.numbers c.requires.passes)
