use Rattle.std.proofs.Common.{◌∙◌, sym, subst}
use Rattle.rate_cert.proofs.OwnerLemmas.{remove_is, without-absent, none_with_gap}
use Rattle.desk.specs.Presence.{IsOwnerPlace, IsGapFor}
use Rattle.desk.proofs.PresenceLemmas.{present_owner}
use Rattle.desk.proofs.presence.leave.Goals as goal

pub returns-in-Ok : goal.returns-in-Ok
returns-in-Ok c =
    let present = c.args.present.now.items in
    let is : IsOwnerPlace present c.args.owner.0 c.in-Ok.place =
    subst (λ ps. IsOwnerPlace ps c.args.owner.0 c.in-Ok.place) c.as_slice.ensures.value c.in-Ok.ensures.found in
    c.remove.ensures.items ∙ remove_is present_owner present c.in-Ok.place c.args.owner.0 c.requires is

pub returns-in_default : goal.returns-in_default
returns-in_default c =
    let present = c.args.present.now.items in
    let gap : IsGapFor present c.args.owner.0 c.in_default.field-0 =
    subst (λ ps. IsGapFor ps c.args.owner.0 c.in_default.field-0) c.as_slice.ensures.value c.in_default.ensures.absent in
    sym (without-absent present_owner present c.args.owner.0 (none_with_gap present_owner present c.args.owner.0 c.in_default.field-0 gap))
