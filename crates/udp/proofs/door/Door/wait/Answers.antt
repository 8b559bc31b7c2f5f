use Rattle.std.proofs.Common.{◌∙◌, ap, inr, refl}
use Rattle.udp.proofs.DoorLemmas.{waits_in}
use Rattle.udp.proofs.door.Door.wait.Goals as goal

pub returns-in_ok-hear_came-in-Ok-clause-waits : goal.returns-in_ok-hear_came-in-Ok-clause-waits
returns-in_ok-hear_came-in-Ok-clause-waits g c =
    waits_in _ _ _ _ _ _ _ _ _ _ c.in-Ok.address c.in-Ok.size c.in_ok-hear_came-in-Ok.ensures.hears
    (ap (λ h. h.who) c.moment-moment.ensures.hearing ∙ c.receive-came.ensures.stays.2)
    (ap (λ h. h.policies) c.moment-moment.ensures.hearing ∙ c.receive-came.ensures.stays.3)

pub returns-in-Err-clause-waits : goal.returns-in-Err-clause-waits
returns-in-Err-clause-waits g c = record {
  filled = c.moment-moment.new.self.hearing;
  who = ap (λ h. h.who) c.moment-moment.ensures.hearing ∙ c.receive-came.ensures.stays.2;
  policies = ap (λ h. h.policies) c.moment-moment.ensures.hearing ∙ c.receive-came.ensures.stays.3;
  heard = inr (tt, refl);
}

pub returns-in-Err-2-clause-waits : goal.returns-in-Err-2-clause-waits
returns-in-Err-2-clause-waits g c = record {
  filled = c.moment-moment.new.self.hearing;
  who = ap (λ h. h.who) c.moment-moment.ensures.hearing ∙ c.receive-came.ensures.stays.2;
  policies = ap (λ h. h.policies) c.moment-moment.ensures.hearing ∙ c.receive-came.ensures.stays.3;
  heard = inr (tt, refl);
}
