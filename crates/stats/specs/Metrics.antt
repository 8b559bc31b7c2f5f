-- Metrics in the text format of Prometheus: what a metric is, its type, and its samples.
use Rattle.std.specs.Prelude.{ℕ, ◌++◌, List, codes, flat_map}
use Rattle.std.specs.Fmt.{decimal}
use Rattle.stats.specs.declared.metrics.MetricType.{MetricType}
use Rattle.stats.specs.declared.metrics.Sample.{Sample}
use Rattle.stats.specs.declared.metrics.MetricType.TheVariants.{Counter, Gauge}
use Rattle.stats.specs.declared.subjects.Subject.{Subject}
use Rattle.stats.specs.Subjects.{labels_at}

abbrev pub type_word : MetricType → List ℕ
type_word Counter = codes "counter"
type_word Gauge = codes "gauge"

abbrev pub help_line : List ℕ → List ℕ → List ℕ
help_line name help = codes "# HELP " ++ (name ++ (codes " " ++ (help ++ codes "\n")))

abbrev pub type_line : List ℕ → MetricType → List ℕ
type_line name kind = codes "# TYPE " ++ (name ++ (codes " " ++ (type_word kind ++ codes "\n")))

abbrev pub value_line : List ℕ → List ℕ → ℕ → List ℕ
value_line name labels value =
    name ++ (codes "{" ++ (labels ++ (codes "} " ++ (decimal value ++ codes "\n"))))

-- the value of one endpoint, or of one leg
abbrev pub sample_line : List ℕ → List Subject → Sample → List ℕ
sample_line name subjects s = value_line name (labels_at subjects s.number) s.value

-- a metric: what it is, its type, and its samples
abbrev pub metric_text : List ℕ → List ℕ → MetricType → List Subject → List Sample → List ℕ
metric_text name help kind subjects samples =
    help_line name help ++ (type_line name kind ++ flat_map (sample_line name subjects) samples)
