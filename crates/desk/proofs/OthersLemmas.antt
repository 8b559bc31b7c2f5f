-- After a legal history owners rise; and if an arrive is answered that there is no room, as many others are present as may be.
use Rattle.std.proofs.Common.{◌≡◌, ℕ, zero, suc, ◌<◌, ◌≤◌, List, [], ◌∷◌, length, get_or, map, Bool, true, false, Option, None, Some, refl, ap, sym, subst, arith}
use Rattle.std.specs.Prelude.{◌==◌, nat_le, not, All, if◌then◌else◌}
use Rattle.std.specs.Option.{option_map_or}
use Rattle.std.proofs.lemmas.Bool.{eqb-true, leb-true}
use Rattle.std.proofs.lemmas.List.{length-map}
use Rattle.std.proofs.lemmas.Option.{none-some, same_Some}
use Rattle.tmmbr_tuple.specs.declared.ssrc.Ssrc.{Ssrc}
use Rattle.desk.specs.declared.base.Base.{Base}
use Rattle.desk.specs.declared.call.Answer.{Answer}
use Rattle.desk.specs.declared.call.Answer.TheVariants.{AlreadyPresent, Full}
use Rattle.desk.specs.declared.call.Call.{Call}
use Rattle.desk.specs.declared.call.Call.TheVariants.{Stay}
use Rattle.desk.specs.declared.call.Change.TheVariants.{Arrive}
use Rattle.desk.specs.declared.call.Entry.{Entry}
use Rattle.desk.specs.declared.presence.Present.{Present}
use Rattle.desk.specs.declared.presence.TheConstants.{PRESENT_LIMIT}
use Rattle.desk.specs.Answer.{IsAnswerTo, IsAnswerOr}
use Rattle.desk.specs.Call.{HasStay}
use Rattle.desk.specs.History.{IsLegalHistory}
use Rattle.desk.specs.Others.{IsAnother, HasOthers}
use Rattle.desk.specs.Presence.{HasRisingOwners, HasStays, presence_of, stay_in, refusal_of, unless_absent_with_room}
use Rattle.desk.specs.Trace.{IsBase, base_with, base_after}
use Rattle.desk.proofs.PresenceLemmas.{presence_of-place}
use Rattle.desk.proofs.SinceLemmas.{present_law}
use Rattle.desk.proofs.TraceLemmas.{IsBase-with, answer_follows, legal-first, legal-rest}

-- ---- bases

pub base_law : (gap ms : ℕ) (base : Base) (entries : List Entry) → IsBase base → All (λ (e : Entry). HasStay e.call) entries
    → IsLegalHistory gap ms base entries → IsBase (base_after ms base entries)
base_law gap ms base [] is all legal = is
base_law gap ms base (e ∷ entries) is all legal =
    base_law gap ms (base_with ms base e) entries
    (IsBase-with ms base e is (answer_follows gap ms base e (all 0 e (omega arith)) (legal-first gap ms base e entries legal)))
    (λ k d low. all (suc k) d (omega (arith, low))) (legal-rest gap ms base e entries legal)

-- ---- those that are present

owner_at : (xs : List Present) (i o : ℕ) (x : Present) → i < length xs → get_or (map (λ (p : Present). p.owner.0) xs) i o ≡ (get_or xs i x).owner.0
owner_at [] i o x low = absurd (omega (arith, low))
owner_at (x ∷ xs) zero o y low = refl
owner_at (x ∷ xs) (suc i) o y low = owner_at xs i o y (omega (arith, low))

same_at : (xs : List Present) (i : ℕ) (x y : Present) → i < length xs → get_or xs i x ≡ get_or xs i y
same_at [] i x y low = absurd (omega (arith, low))
same_at (z ∷ xs) zero x y low = refl
same_at (z ∷ xs) (suc i) x y low = same_at xs i x y (omega (arith, low))

stay_at : (present : List Present) (k : ℕ) (d : Present) → HasRisingOwners present → HasStays present → k < length present
    → 1 ≤ stay_in present (get_or present k d).owner.0
stay_at present k d rising stays below =
    let owner : ℕ = (get_or present k d).owner.0 in
    let here : presence_of present owner ≡ Some (get_or present k d) =
    presence_of-place present owner k d rising
    (record { in_range = below; is_owner = λ x. ap (λ (p : Present). p.owner.0) (same_at present k x d below) }) in
    let its : stay_in present owner ≡ (get_or present k d).stay =
    ap (λ (o : Option Present). option_map_or (λ (p : Present). p.stay) o 0) here in
    omega (arith, its, stays k d below)

-- ---- no room

no_room : (present : List Present) (owner : ℕ) → unless_absent_with_room present owner ≡ Some Full
    → (stay_in present owner ≡ 0) × (PRESENT_LIMIT ≤ length present)
no_room present owner = step (stay_in present owner == 0) refl (nat_le PRESENT_LIMIT (length present)) refl
  where
    step : (b : Bool) → (stay_in present owner == 0) ≡ b → (c : Bool) → nat_le PRESENT_LIMIT (length present) ≡ c
        → (if not b then Some (AlreadyPresent (stay_in present owner)) else if c then Some Full else None) ≡ Some Full
        → (stay_in present owner ≡ 0) × (PRESENT_LIMIT ≤ length present)
    step false e c f is = absurd (let same : AlreadyPresent (stay_in present owner) ≡ Full = same_Some _ _ is in cc)
    step true e false f is = absurd (none-some Full is)
    step true e true f is = (eqb-true (stay_in present owner) 0 e, leb-true PRESENT_LIMIT (length present) f)

refused_full : (gap ms : ℕ) (base : Base) (call : Call) → IsAnswerTo gap ms base call Full → refusal_of base.present.items call ≡ Some Full
refused_full gap ms base call = step (refusal_of base.present.items call)
  where
    step : (o : Option Answer) → IsAnswerOr gap ms base call o Full → o ≡ Some Full
    step None is = absurd (let same = is.is in cc)
    step (Some r) is = ap (λ (a : Answer). Some a) (sym is)

pub full_law : (gap ms : ℕ) (base : Base) (entries : List Entry) (owner : Ssrc) (stay : ℕ) → IsBase base
    → All (λ (e : Entry). HasStay e.call) entries → IsLegalHistory gap ms base entries
    → IsAnswerTo gap ms (base_after ms base entries) (Stay owner stay Arrive) Full → HasOthers base entries owner.0 PRESENT_LIMIT
full_law gap ms base entries owner stay is all legal answer =
    let now : Base = base_after ms base entries in
    let whole : IsBase now = base_law gap ms base entries is all legal in
    let full = no_room now.present.items owner.0 (refused_full gap ms now (Stay owner stay Arrive) answer) in
    let size : length (map (λ (p : Present). p.owner.0) now.present.items) ≡ length now.present.items =
    length-map now.present.items (λ (p : Present). p.owner.0) in
    record {
      others = map (λ (p : Present). p.owner.0) now.present.items;
      many = omega (arith, size, full.1, whole.few);
      distinct = λ i j d less below. rise now.present.items whole.rising i j d less (omega (arith, below, size));
      present = λ i d below. another i d (omega (arith, below, size)) whole full.0;
    }
  where
    rise : (xs : List Present) → HasRisingOwners xs → (i j d : ℕ) → i < j → j < length xs
        → get_or (map (λ (p : Present). p.owner.0) xs) i d < get_or (map (λ (p : Present). p.owner.0) xs) j d
    rise [] rising i j d less below = absurd (omega (arith, below))
    rise (x ∷ xs) rising i j d less below =
        omega (arith, rising i j x less below, owner_at (x ∷ xs) i d x (omega (arith, less, below)), owner_at (x ∷ xs) j d x below)

    another : (i d : ℕ) → i < length (base_after ms base entries).present.items → IsBase (base_after ms base entries)
        → stay_in (base_after ms base entries).present.items owner.0 ≡ 0
        → IsAnother base entries owner.0 (get_or (map (λ (p : Present). p.owner.0) (base_after ms base entries).present.items) i d)
    another i d low whole absent =
        let present : List Present = (base_after ms base entries).present.items in
        let p : Present = record { owner = owner; stay = 0; asked = None } in
        let some : 1 ≤ stay_in present (get_or present i p).owner.0 = stay_at present i p whole.rising whole.stays low in
        subst (IsAnother base entries owner.0) (sym (owner_at present i d p low)) (
          λ same. absurd (omega (arith, some, ap (stay_in present) same, absent)),
          (
            stay_in present (get_or present i p).owner.0,
            some,
            (present_law gap ms base entries (get_or present i p).owner.0 (stay_in present (get_or present i p).owner.0) legal some).0 refl,
          ),
        )
