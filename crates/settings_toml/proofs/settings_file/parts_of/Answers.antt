use Rattle.std.proofs.Common.{◌∙◌, ℤ, Option, ap, map}
use Rattle.std.specs.Prelude.{codes}
use Rattle.toml.specs.Data.{get_member}
use Rattle.toml.specs.View.{table_view}
use Rattle.settings_toml.specs.SettingsFile.{items_in, leg_in, sources_from, text_in}
use Rattle.settings_toml.proofs.SettingsLemmas.{map-view}
use Rattle.settings_toml.proofs.settings_file.parts_of.Goals as goal

pub returns : goal.returns
returns c = record {
  workers = c.integer_at.ensures;
  ring = c.integer_at-2.ensures;
  history = c.integer_at-3.ensures;
  timeout_ms = c.integer_at-4.ensures;
  report_ms = c.integer_at-5.ensures;
  request_ms = c.integer_at-6.ensures;
  pli_gap_ms = c.integer_at-7.ensures;
  unit_ssrc = c.integer_at-unit_ssrc.ensures;
  cname = c.in_ok-text_in.ensures ∙ ap text_in c.value_at.ensures;
  endpoints = c.in_ok-sources_of.ensures ∙ ap (sources_from c.integer_at-unit_ssrc.result 0) c.items_at.ensures
      ∙ ap (λ (u : Option ℤ). sources_from u 0 (items_in (get_member (codes "endpoint") (table_view c.args.table.now)))) c.integer_at-unit_ssrc.ensures;
  legs = c.in_ok-legs_of.ensures ∙ map-view leg_in c.items_at-2.result.now ∙ ap (map leg_in) c.items_at-2.ensures;
}
