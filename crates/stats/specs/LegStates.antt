-- Whether legs are selected, and the stays that stand on them, as metrics.
use Rattle.std.specs.Prelude.{ℕ, ◌++◌, List, [], ◌∷◌, Option, None, Some, codes, flat_map, if◌then◌else◌}
use Rattle.stats.specs.declared.leg_states.LegState.{LegState}
use Rattle.stats.specs.declared.leg_states.StateFigure.{StateFigure}
use Rattle.stats.specs.declared.leg_states.StateFigure.TheVariants.{On, Stay}
use Rattle.stats.specs.declared.metrics.MetricType.TheVariants.{Gauge}
use Rattle.stats.specs.declared.metrics.Sample.{Sample}
use Rattle.stats.specs.declared.subjects.Subject.{Subject}
use Rattle.stats.specs.Metrics.{metric_text}

abbrev pub state_figures : List StateFigure
state_figures = On ∷ Stay ∷ []

-- 1 if the leg is selected, else 0; the number of its stay, if one stands
abbrev pub state_value : StateFigure → LegState → Option ℕ
state_value On s = Some (if s.on then 1 else 0)
state_value Stay s = s.stay

abbrev pub state_name : StateFigure → List ℕ
state_name On = codes "sfu_leg_on"
state_name Stay = codes "sfu_leg_stay"

abbrev pub state_help : StateFigure → List ℕ
state_help On = codes "Whether the leg is selected."
state_help Stay = codes "The number of the stay that stands on the leg."

abbrev pub sample_if : ℕ → Option ℕ → List Sample
sample_if number None = []
sample_if number (Some value) = record { number = number; value = value } ∷ []

abbrev pub state_sample : StateFigure → LegState → List Sample
state_sample f s = sample_if s.leg (state_value f s)

abbrev pub state_text : StateFigure → List Subject → List LegState → List ℕ
state_text f subjects states =
    metric_text (state_name f) (state_help f) Gauge subjects (flat_map (state_sample f) states)

-- each of these as a metric
abbrev pub leg_states_text : List Subject → List LegState → List ℕ
leg_states_text subjects states =
    flat_map (λ (f : StateFigure). state_text f subjects states) state_figures
