use Rattle.std.proofs.Common.{◌≡◌, [], ◌∷◌, sym, subst}
use Rattle.bounding_set.specs.Kept.{KeepsRequests}
use Rattle.bounding_set.proofs.KeptLemmas.{KeepsRequests-none, KeepsRequests-push, two_elements}
use Rattle.bounding_set.proofs.certificate.keep.Goals as goal

pub returns-in-len2-clause-requests : goal.returns-in-len2-clause-requests
returns-in-len2-clause-requests c =
    let rows = c.args.rows.now in
    let stop = c.stop-item.result in
    let reach = c.reach-item.result in
    let both : c.args.announced.now ≡ stop ∷ reach ∷ [] =
    two_elements c.args.announced.now stop reach c.in-len2.len_at_least c.in-len2.len_below c.stop-item.is c.reach-item.is in
    let none = subst (KeepsRequests rows []) (sym c.clear.ensures) (KeepsRequests-none rows) in
    let one = subst (KeepsRequests rows (stop ∷ [])) (sym c.push.ensures.items) (KeepsRequests-push rows [] _ _ stop none c.place_in.ensures) in
    subst (λ rs. KeepsRequests rows rs c.push-in-len2.new.self.items) (sym both)
    (subst (KeepsRequests rows (stop ∷ reach ∷ [])) (sym c.push-in-len2.ensures.items)
    (KeepsRequests-push rows (stop ∷ []) _ _ reach one c.place_in-in-len2.ensures))
