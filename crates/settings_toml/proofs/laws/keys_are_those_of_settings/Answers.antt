use Rattle.settings_toml.proofs.KeyLemmas.{endpoint_keys, leg_keys, top_keys}
use Rattle.settings_toml.proofs.laws.keys_are_those_of_settings.Goals as goal

pub returns-clause-top : goal.returns-clause-top
returns-clause-top c = top_keys

pub returns-clause-endpoint : goal.returns-clause-endpoint
returns-clause-endpoint c = endpoint_keys

pub returns-clause-leg : goal.returns-clause-leg
returns-clause-leg c = leg_keys
