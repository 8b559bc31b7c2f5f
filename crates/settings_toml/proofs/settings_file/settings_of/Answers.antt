use Rattle.std.proofs.Common.{◌∙◌, option_map, sym}
use Rattle.toml.specs.View.{table_view}
use Rattle.settings_toml.specs.SettingsFaults.{spot_of}
use Rattle.settings_toml.proofs.SettingsLemmas.{key_stands_first, part_stands_first}
use Rattle.settings_toml.proofs.settings_file.settings_of.Goals as goal

pub returns-in-Some : goal.returns-in-Some
returns-in-Some c =
    key_stands_first (table_view c.args.table.now) c.in_ok-parts.parts c.in_ok-extras.extras (spot_of c.in-Some.place) c.problem_at.result c.in_ok-parts.ensures c.in_ok-extras.ensures
    c.in-Some.ensures c.in-Ok.ensures.ok.0 c.problem_at.ensures

pub returns-in-Ok : goal.returns-in-Ok
returns-in-Ok c = (
  sym c.in-None.ensures,
  record {
    parts = c.in_ok-parts.parts;
    found = c.in_ok-parts.ensures;
    extras = c.in_ok-extras.extras;
    added = c.in_ok-extras.ensures;
    passes = c.in-Ok.ensures.ok.0;
    settings = c.in_ok-file_of-in-None.ensures.settings ∙ c.in-Ok.ensures.ok.1;
    listen = c.in_ok-file_of-in-None.ensures.listen;
    new_starts = c.in_ok-file_of-in-None.ensures.new_starts;
    strict_ssrc = c.in_ok-file_of-in-None.ensures.strict_ssrc;
    bounds = c.in_ok-file_of-in-None.ensures.bounds;
    tick_ms = c.in_ok-file_of-in-None.ensures.tick_ms;
    listen_rtcp = c.in_ok-file_of-in-None.ensures.listen_rtcp;
    clients = c.in_ok-file_of-in-None.ensures.clients;
  },
)

pub returns-in-Some-earlier : goal.returns-in-Some-earlier
returns-in-Some-earlier c =
    part_stands_first (table_view c.args.table.now) c.in_ok-parts.parts c.in_ok-extras.extras (spot_of c.in-Some-earlier.place) c.problem_at-in-Some-earlier.result
    c.in-Err.fault (option_map spot_of c.first_misfit-misfit.result) (option_map spot_of c.place_of.result) c.in_ok-parts.ensures c.in_ok-extras.ensures
    c.first_misfit-misfit.ensures c.place_of.ensures c.in-Some-earlier.ensures c.in-Err.ensures.fault c.in-Err.ensures.no_memory
    c.problem_at-in-Some-earlier.ensures
