use Rattle.std.proofs.Common.{◌<◌, length, subst}
use Rattle.std.specs.Prelude.{IsNone, Option}
use Rattle.settings.specs.declared.fault.RoomFault.{RoomFault}
use Rattle.members.proofs.StayLemmas.{present_within}
use Rattle.members.proofs.room.Room.hear.Goals as goal

-- who is present is known
pub returns-in-Some-clause-calm : goal.returns-in-Some-clause-calm
returns-in-Some-clause-calm c = λ source present calm.
    let known : c.args.endpoint < length c.args.self.now.endpoints = present_within c.args.self.now.endpoints c.args.endpoint present in
    absurd (cc (subst (λ (o : Option RoomFault). IsNone o) c.in-Some.is (c.refuses_source.ensures.own.1 (known, source))))
