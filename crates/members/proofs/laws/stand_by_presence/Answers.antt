use Rattle.std.specs.Prelude.{◌≢◌}
use Rattle.std.proofs.lemmas.List.Elements.{All-weaker}
use Rattle.settings.specs.declared.settings.LegSettings.{LegSettings}
use Rattle.settings.specs.Settings.{IsLegAmong}
use Rattle.std.proofs.Common.{length}
use Rattle.members.proofs.StandLemmas.{stand_law}
use Rattle.members.proofs.laws.stand_by_presence.Goals as goal

pub returns : goal.returns
returns c = λ s calls range.
    (stand_law s calls
    (All-weaker (IsLegAmong (length s.endpoints)) (λ (l : LegSettings). l.subscriber ≢ l.publisher) (λ l among. among.different) s.legs range.legs)).matches
