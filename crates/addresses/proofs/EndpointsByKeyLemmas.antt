-- Who is at keys, in a list and in one with one entry more.
use Rattle.std.proofs.Common.{◌≡◌, ◌∙◌, ℕ, Bool, true, false, cond, refl, sym, ap, List, [], ◌∷◌, ◌++◌, Option, Some, None}
use Rattle.std.specs.Cmp.{IsEquivalence}
use Rattle.addresses.specs.declared.endpoints_by_key.Occupants.{Occupants}
use Rattle.addresses.specs.EndpointsByKey.{beside, occupants_after, occupants_of}

occupants_after-append : {K : Type 0} (same : K → K → Bool) (before : Option Occupants) (entries : List (K × ℕ)) (k : K) (e : ℕ) (q : K)
    → occupants_after same before (entries ++ (k, e) ∷ []) q
    ≡ cond (same q k) (Some (beside (occupants_after same before entries q) e)) (occupants_after same before entries q)
occupants_after-append same before [] k e q = refl
occupants_after-append same before (x ∷ xs) k e q =
    occupants_after-append same (cond (same q x.0) (Some (beside before x.1)) before) xs k e q

-- at keys that are the same are the same
occupants_after-same : {K : Type 0} {same : K → K → Bool} → IsEquivalence same → (before : Option Occupants) (entries : List (K × ℕ)) (k q : K)
    → same k q ≡ true → occupants_after same before entries q ≡ occupants_after same before entries k
occupants_after-same laws before [] k q e = refl
occupants_after-same {same = same} laws before (x ∷ xs) k q e =
    rw (sym (laws.congr k q x.0 e)) (occupants_after-same laws (cond (same k x.0) (Some (beside before x.1)) before) xs k q e)

-- who is at a key once one more came to another
pub occupants_of-append : {K : Type 0} {same : K → K → Bool} → IsEquivalence same → (entries : List (K × ℕ)) (k : K) (e : ℕ) (q : K)
    → occupants_of same (entries ++ (k, e) ∷ []) q
    ≡ cond (same k q) (Some (beside (occupants_of same entries k) e)) (occupants_of same entries q)
occupants_of-append {same = same} laws entries k e q = go (same k q) refl
  where
    go : (b : Bool) → same k q ≡ b → occupants_of same (entries ++ (k, e) ∷ []) q
        ≡ cond b (Some (beside (occupants_of same entries k) e)) (occupants_of same entries q)
    go true is =
        occupants_after-append same None entries k e q
        ∙ rw (laws.symm q k, is) (ap (λ o. Some (beside o e)) (occupants_after-same laws None entries k q is))
    go false is = occupants_after-append same None entries k e q ∙ rw (laws.symm q k, is) refl
