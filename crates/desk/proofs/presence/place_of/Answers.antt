use Rattle.std.proofs.Common.{rules}
use Rattle.std.proofs.lemmas.List.Sorted.{answers_always}
use Rattle.rate_cert.proofs.OwnerLemmas.{searched}
use Rattle.desk.proofs.PresenceLemmas.{present_owner}
use Rattle.desk.proofs.presence.place_of.Goals as goal

pub returns : goal.returns
returns c =
    let facts = c.binary_search_by_key.ensures in
    let by_owner = facts.position (λ p. p.owner.0) (answers_always _ _ _ (λ f a r g called. search rules)) in
    let found = searched present_owner c.args.present.now c.args.owner.0 c.binary_search_by_key.result c.requires facts.bound by_owner in
    record { found = found.found; absent = found.absent }
