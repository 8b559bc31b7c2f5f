use Rattle.std.proofs.Common.{codes, ◌++◌, ◌∙◌}
use Rattle.settings_toml.proofs.SayingLemmas.{of_line}
use Rattle.settings_toml.proofs.advice.unsendable_line.Goals as goal

pub returns : goal.returns
returns c = of_line c.spotted_line.result _ _ _ (codes " is no address to send to: " ++ c.args.why.now) (c.as_str.ensures.value ∙ c.in_ok-said.ensures.ok) c.spotted_line.ensures
