-- Header fields, one after another, and what is told by them.
use Rattle.std.proofs.Common.{◌≡◌, ◌∙◌, ◌++◌, List, Option, Result, Ok, Err, ap, subst, append_assoc}
use Rattle.std.specs.Prelude.{OnOk}
use Rattle.http1.specs.Fields.{Header}
use Rattle.http_server.specs.declared.response.Response.{Response}
use Rattle.web.specs.declared.answer.Target.{Target}
use Rattle.web.specs.declared.said.Said.{Said}
use Rattle.web.specs.Answers.{Seen, IsAnswer}
use Rattle.web.specs.Told.{IsSent, Tells}

pub two_more : {E : Type 0} (r : Result (Unit {0}) E) (a b c : List Header) (x y : List Header) → b ≡ a ++ x → OnOk r (c ≡ b ++ y)
    → OnOk r (c ≡ a ++ (x ++ y))
two_more r a b c x y first second =
    subst (λ (t : List Header). OnOk r (c ≡ t)) (ap (λ (l : List Header). l ++ y) first ∙ append_assoc a x y) second

-- an answer that is sent is told
pub told : {E : Type 0} (r : Result (Unit {0}) E) (asked : Target) (said : Option Said) (seen : Seen) (response : Response)
    → IsAnswer asked said seen → OnOk r (IsSent seen response) → OnOk r (Tells asked said response)
told (Ok u) asked said seen response a s = (seen, a, s)
told (Err e) asked said seen response a s = tt
