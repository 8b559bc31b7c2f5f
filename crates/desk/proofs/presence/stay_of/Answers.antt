use Rattle.std.proofs.Common.{sym, ap}
use Rattle.std.specs.Option.{option_map_or}
use Rattle.desk.specs.declared.presence.Present.{Present}
use Rattle.desk.proofs.PresenceLemmas.{presence_of-place, presence_of-gap}
use Rattle.desk.proofs.presence.stay_of.Goals as goal

pub returns-in-Ok : goal.returns-in-Ok
returns-in-Ok c =
    sym (ap (λ known. option_map_or (λ (p : Present). p.stay) known 0)
    (presence_of-place c.args.present.now c.args.owner.0 c.in-Ok.place c.index-present-place.result c.requires c.in-Ok.ensures.found))

pub returns-in-Err : goal.returns-in-Err
returns-in-Err c =
    sym (ap (λ known. option_map_or (λ (p : Present). p.stay) known 0)
    (presence_of-gap c.args.present.now c.args.owner.0 c.in-Err.field-0 c.in-Err.ensures.absent))
