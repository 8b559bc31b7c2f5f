use Rattle.std.proofs.Common.{◌∙◌, ap, map}
use Rattle.settings_toml.specs.SettingsFile.{cname_in}
use Rattle.settings_toml.proofs.SettingsLemmas.{map-view}
use Rattle.settings_toml.proofs.settings_file.extras_of.Goals as goal

pub returns : goal.returns
returns c = record {
  report_slots = c.integer_at.ensures;
  early_pictures = c.bool_at.ensures;
  leg_goodbyes = c.bool_at-2.ensures;
  cnames = c.in_ok-cnames_of.ensures ∙ map-view cname_in c.items_at.result.now ∙ ap (map cname_in) c.items_at.ensures;
}
