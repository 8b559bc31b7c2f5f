use Rattle.std.proofs.Common.{codes, ◌++◌, ◌∙◌, ap}
use Rattle.settings_toml.specs.Wanted.{wanted_words}
use Rattle.settings_toml.proofs.SayingLemmas.{of_line}
use Rattle.settings_toml.proofs.advice.missing_line.Goals as goal

pub returns : goal.returns
returns c =
    of_line c.spotted_line.result _ _ _ (codes " is missing: there is no " ++ wanted_words c.args.wanted)
    (c.as_str.ensures.value ∙ c.in_ok-said.ensures.ok ∙ ap (λ w. codes " is missing: there is no " ++ w) c.in_ok-wanted.ensures) c.spotted_line.ensures
