use Rattle.std.proofs.KnownBytes.{Keeps-refl}
use Rattle.commands.proofs.description.run_sdp.Goals as goal

pub returns-in-Ok-clause-settings : goal.returns-in-Ok-clause-settings
returns-in-Ok-clause-settings g c = λ is.
    let said = c.report_settings.ensures.settings is in
    (Keeps-refl (g.O.Write.contents c.args.writer.now), record { problem = c.in-Err-Settings.problem; fault = said.0; shown = said.1 })
