-- While nobody is due.
use Rattle.std.proofs.Common.{◌≡◌, ℕ, ◌+◌, false, List, [], ◌∷◌, Option, None, refl, subst}
use Rattle.std.specs.List.{list_any}
use Rattle.policy.specs.Again.{HoldTerms}
use Rattle.policy.specs.JoinedPublishers.{first_due, is_due}
use Rattle.policy.specs.HeldRequests.{HearsAgain, HearsDue}
use Rattle.policy.specs.declared.again.Again.{Again}
use Rattle.policy.specs.declared.held_requests.HeldRequests.{HeldRequests}
use Rattle.policy.specs.declared.joined_publishers.JoinedPublisher.{JoinedPublisher}
use Rattle.policy.specs.declared.joined_publishers.JoinedPublisher.TheVariants.{Over, Waits, Due}

pub nobody_from : (n : ℕ) (joined_publishers : List JoinedPublisher) → list_any is_due joined_publishers ≡ false → first_due n joined_publishers ≡ None
nobody_from n [] h = refl
nobody_from n (Over ∷ joined_publishers) h = nobody_from (n + 1) joined_publishers h
nobody_from n (Waits ∷ joined_publishers) h = nobody_from (n + 1) joined_publishers h
nobody_from n (Due from ∷ joined_publishers) h = absurd (cc)

pub nobody_due : (joined_publishers : List JoinedPublisher) → list_any is_due joined_publishers ≡ false → first_due 0 joined_publishers ≡ None
nobody_due joined_publishers h = nobody_from 0 joined_publishers h

pub hears_of_nobody : (h k : HeldRequests) (t : HoldTerms) (again : Option Again) → list_any is_due h.joined_publishers ≡ false → HearsAgain h k t again → again ≡ None
hears_of_nobody h k t again nobody hears =
    let P : Option (ℕ × ℕ) → Type 0 = λ due. HearsDue due t h.joined_publishers k.joined_publishers again in
    (subst P (nobody_due h.joined_publishers nobody) hears.hears).0
