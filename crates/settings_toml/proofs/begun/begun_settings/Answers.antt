use Rattle.std.proofs.Common.{◌∙◌, ap, refl}
use Rattle.settings_toml.specs.Begun.{begun_legs}
use Rattle.settings_toml.proofs.begun.begun_settings.Goals as goal

pub returns-in-Ok : goal.returns-in-Ok
returns-in-Ok c =
    let own = c.in_ok-parts.parts in record {
      own = own;
      found = c.in_ok-parts.ensures;
      extras = c.in_ok-extras.extras;
      added = c.in_ok-extras.ensures;
      parts = record own { legs = c.in_ok-parts-2.field-0 };
      others = refl;
      legs = c.in_ok-parts-2.ensures ∙ ap (begun_legs c.args.numbers.now 0) c.as_slice.ensures.value;
      settings = c.in-Ok.ensures.ok.1;
    }
