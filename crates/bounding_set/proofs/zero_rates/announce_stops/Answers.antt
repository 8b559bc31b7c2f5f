use Rattle.std.proofs.Common.{◌≡◌, [], ◌∷◌, ◌++◌, refl, sym, ap, subst, ◌∙◌, arith}
use Rattle.std.specs.Prelude.{Any}
use Rattle.bounding_set.specs.Canonical.{StopsMedia}
use Rattle.bounding_set.specs.Announced.{AnnouncesList}
use Rattle.bounding_set.proofs.StopLemmas.{AnnouncesList-strictest, AnnouncesList-first_stop, AnnouncesList-stop_with_reach}
use Rattle.bounding_set.proofs.zero_rates.announce_stops.Goals as goal

pub returns-in-Some-clause-stopped : goal.returns-in-Some-clause-stopped
returns-in-Some-clause-stopped c =
    let stop = c.in-Some.stop in
    let listed : c.push.new.self.items ≡ stop ∷ [] = c.push.ensures.items ∙ ap (λ xs. xs ++ stop ∷ []) c.requires.empty in
    λ _. subst (AnnouncesList c.args.rows.now) (sym listed)
    (AnnouncesList-strictest c.args.rows.now c.requires.rising stop c.in-Some.ensures.0 c.in-Some.ensures.1)

pub returns-in-Some-least_reach-clause-stopped : goal.returns-in-Some-least_reach-clause-stopped
returns-in-Some-least_reach-clause-stopped c =
    let stop = c.in-Some-first_stop.stop in
    let request = c.in-Some-least_reach.request in
    let first : c.push-2.new.self.items ≡ stop ∷ [] = c.push-2.ensures.items ∙ ap (λ xs. xs ++ stop ∷ []) c.requires.empty in
    let listed : c.push-in-Some-least_reach.new.self.items ≡ stop ∷ request ∷ [] =
    c.push-in-Some-least_reach.ensures.items ∙ ap (λ xs. xs ++ request ∷ []) first in
    λ _. subst (AnnouncesList c.args.rows.now) (sym listed)
    (AnnouncesList-stop_with_reach c.args.rows.now c.requires.rising stop c.in-Some-first_stop.ensures.0 c.in-Some-first_stop.ensures.1
    request c.in-Some-least_reach.ensures.0 c.in-Some-least_reach.ensures.1)

pub returns-in_default-least_reach-clause-stopped : goal.returns-in_default-least_reach-clause-stopped
returns-in_default-least_reach-clause-stopped c =
    let stop = c.in-Some-first_stop.stop in
    let listed : c.push-2.new.self.items ≡ stop ∷ [] = c.push-2.ensures.items ∙ ap (λ xs. xs ++ stop ∷ []) c.requires.empty in
    λ _. subst (AnnouncesList c.args.rows.now) (sym listed)
    (AnnouncesList-first_stop c.args.rows.now c.requires.rising stop c.in-Some-first_stop.ensures.0 c.in-Some-first_stop.ensures.1
    c.in_default-least_reach.ensures)

pub returns-in-Some-clause-some : goal.returns-in-Some-clause-some
returns-in-Some-clause-some c =
    let stop = c.in-Some.stop in
    let listed : c.push.new.self.items ≡ stop ∷ [] = c.push.ensures.items ∙ ap (λ xs. xs ++ stop ∷ []) c.requires.empty in
    λ _. subst (Any StopsMedia) (sym listed) (0, stop, omega arith, refl, c.in-Some.ensures.1.stops.0)

pub returns-in-Some-least_reach-clause-some : goal.returns-in-Some-least_reach-clause-some
returns-in-Some-least_reach-clause-some c =
    let stop = c.in-Some-first_stop.stop in
    let request = c.in-Some-least_reach.request in
    let first : c.push-2.new.self.items ≡ stop ∷ [] = c.push-2.ensures.items ∙ ap (λ xs. xs ++ stop ∷ []) c.requires.empty in
    let listed : c.push-in-Some-least_reach.new.self.items ≡ stop ∷ request ∷ [] =
    c.push-in-Some-least_reach.ensures.items ∙ ap (λ xs. xs ++ request ∷ []) first in
    λ _. subst (Any StopsMedia) (sym listed) (0, stop, omega arith, refl, c.in-Some-first_stop.ensures.1.stops)

pub returns-in_default-least_reach-clause-some : goal.returns-in_default-least_reach-clause-some
returns-in_default-least_reach-clause-some c =
    let stop = c.in-Some-first_stop.stop in
    let listed : c.push-2.new.self.items ≡ stop ∷ [] = c.push-2.ensures.items ∙ ap (λ xs. xs ++ stop ∷ []) c.requires.empty in
    λ _. subst (Any StopsMedia) (sym listed) (0, stop, omega arith, refl, c.in-Some-first_stop.ensures.1.stops)
