use Rattle.bounding_set.specs.State.{announced_of}
use Rattle.desk.proofs.EffectLemmas.{IsEffect-same}
use Rattle.desk.proofs.effect.show_unchanged.Goals as goal

pub returns : goal.returns
returns c = IsEffect-same (announced_of c.args.bounds.now) _ c.list_announced.ensures c.clear.ensures c.clear-2.ensures
