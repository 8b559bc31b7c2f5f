-- The peers, once one has the place of another, or stays.
use Rattle.std.proofs.Common.{◌≡◌, ◌∙◌, ℕ, suc, ◌+◌, ◌-◌, ◌<◌, true, List, [], ◌∷◌, ◌++◌, length, take, drop, get_or, drop-cons, ap, sym, inr, arith}
use Rattle.std.specs.Prelude.{map, nat_lt, slice_set}
use Rattle.std.specs.List.{take-map}
use Rattle.std.proofs.lemmas.List.{drop_all, length-map, map-append, map-set, set_split, take-append-drop}
use Rattle.control_protocol.specs.Places.{LetsStay, PeerState, may_stay, peer_of, staying}
use Rattle.control_protocol.specs.declared.places.TheConstants.{MAX_STAYING}

pub mapped_set : {A B : Type 0} (view : A → B) (peers : List A) (k : ℕ) (peer : A)
    → map view (slice_set peers k peer) ≡ slice_set (map view peers) k (view peer)
mapped_set view peers k peer = map-set view peers k peer

-- the last of some peers has another state from now on, that of one who stays
pub last_stays : {A : Type 0} (view : A → PeerState) (peers : List A) (k : ℕ) (was is : A) → k + 1 ≡ length peers
    → was ≡ get_or peers k was → view is ≡ peer_of (view was).since true → LetsStay (map view peers) (map view (slice_set peers k is))
last_stays view peers k was is last there stays =
    let low : k < length peers = omega (arith, last) in
    let none : drop (suc k) peers ≡ [] = drop_all (suc k) peers (omega (arith, last)) in
    let front = take k peers in
    let before : peers ≡ front ++ was ∷ [] =
    sym (take-append-drop k peers)
    ∙ ap (λ l. front ++ l) (drop-cons peers k was low ∙ ap (λ x. x ∷ drop (suc k) peers) (sym there) ∙ ap (λ l. was ∷ l) none) in
    let after : slice_set peers k is ≡ front ++ is ∷ [] = set_split peers k is low ∙ ap (λ l. front ++ is ∷ l) none in
    inr (
      map view front,
      (
        view was,
        (
          ap (map view) before ∙ map-append view front (was ∷ []),
          ap (map view) after ∙ map-append view front (is ∷ []) ∙ ap (λ x. map view front ++ x ∷ []) stays,
        ),
      ),
    )

-- whether the last may stay, by how many of the others do
pub may_stay_of : {A : Type 0} (view : A → PeerState) (peers : List A) (state : List PeerState) (others n : ℕ) → state ≡ map view peers
    → others ≡ length peers - 1 → n ≡ staying (map view (take (others) peers)) → nat_lt n MAX_STAYING ≡ may_stay state
may_stay_of view peers state others n is front count =
    let size = length-map peers view in
    let same : others ≡ length (map view peers) - 1 = omega (arith, front, size) in
    let part : map view (take (others) peers) ≡ take (length (map view peers) - 1) (map view peers) =
    sym (take-map view (others) peers) ∙ ap (λ k. take k (map view peers)) same in
    ap (λ k. nat_lt k MAX_STAYING) (count ∙ ap staying part) ∙ ap may_stay (sym is)
