use Rattle.std.proofs.Common.{◌∙◌, ap, subst, arith}
use Rattle.std.specs.Prelude.{is_some}
use Rattle.rate_cert.proofs.OwnerLemmas.{set_is, insert_is}
use Rattle.desk.specs.Presence.{IsOwnerPlace, IsGapFor}
use Rattle.desk.proofs.PresenceLemmas.{present_owner, refill-set, presence_of-gap}
use Rattle.desk.proofs.presence.put.Goals as goal

pub insert-requires : goal.insert-requires
insert-requires c =
    let present = c.args.present.now.items in
    let owner = c.args.new.owner.0 in
    let gap : IsGapFor present owner c.in-Err.place = subst (λ ps. IsGapFor ps owner c.in-Err.place) c.as_slice.ensures.value c.in-Err.ensures.absent in
    let room = c.requires.room (ap is_some (presence_of-gap present owner c.in-Err.place gap)) in
    (omega arith, (gap.in_range, room))

pub returns-in-Ok : goal.returns-in-Ok
returns-in-Ok c =
    let present = c.args.present.now.items in
    let is : IsOwnerPlace present c.args.new.owner.0 c.in-Ok.place =
    subst (λ ps. IsOwnerPlace ps c.args.new.owner.0 c.in-Ok.place) c.as_slice.ensures.value c.in-Ok.ensures.found in
    refill-set present c.as_mut_slice-slice.result.now c.in-Ok.place c.args.new c.as_mut_slice-slice.ensures.value
    ∙ set_is present_owner present c.in-Ok.place c.args.new c.requires.rising is

pub returns-in-Err : goal.returns-in-Err
returns-in-Err c =
    let present = c.args.present.now.items in
    let gap : IsGapFor present c.args.new.owner.0 c.in-Err.place =
    subst (λ ps. IsGapFor ps c.args.new.owner.0 c.in-Err.place) c.as_slice.ensures.value c.in-Err.ensures.absent in
    c.insert.ensures.items ∙ insert_is present_owner present c.in-Err.place c.args.new gap
