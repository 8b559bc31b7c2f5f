-- A packet that is put by.
use Rattle.std.proofs.Common.{◌≡◌, ◌∙◌, ℕ, List, ap}
use Rattle.std.proofs.lemmas.List.{map-set}
use Rattle.std.specs.Global.{Vec}
use Rattle.std.specs.Prelude.{slice_set}
use Rattle.policy.specs.HeldPackets.{packets_of}

-- these bytes stand where the vector was put
pub kept : (packets : List (Vec ℕ)) (at k : ℕ) (v : Vec ℕ) (before : List (List ℕ)) (bytes : List ℕ) → packets_of packets ≡ before → at ≡ k
    → v.items ≡ bytes → packets_of (slice_set packets at v) ≡ slice_set before k bytes
kept packets at k v before bytes were same is =
    map-set (λ (w : Vec ℕ). w.items) packets at v
    ∙ ap (λ (xs : List (List ℕ)). slice_set xs at v.items) were
    ∙ ap (λ (n : ℕ). slice_set before n v.items) same
    ∙ ap (λ (xs : List ℕ). slice_set before k xs) is
