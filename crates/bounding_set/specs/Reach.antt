-- How far requests reach: beyond its rate over its overhead a request forbids packets without media.
use Rattle.std.specs.Prelude.{◌*◌, ◌<◌, ◌⊎◌}
use Rattle.tmmbr_tuple.specs.Tuple.{rate_of}
use Rattle.rate_cert.specs.declared.request.Request.{Request}
use Rattle.bounding_set.specs.Canonical.{ReachesAsFar}

-- x reaches less far than y (rate over overhead, cross-multiplied), or as far by less overhead
abbrev pub ReachesSooner : Request → Request → Type 0
ReachesSooner x y =
    (rate_of x.tuple * y.tuple.overhead < rate_of y.tuple * x.tuple.overhead)
    ⊎ (ReachesAsFar x y × (x.tuple.overhead < y.tuple.overhead))
