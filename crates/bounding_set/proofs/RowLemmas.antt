-- Live requests by rising owner: what is asked for once a row was put in or taken out.
use Rattle.std.proofs.Common.{◌≡◌, ℕ, List, get_or, Some, None, refl, sym, subst}
use Rattle.std.specs.Prelude.{IsNone}
use Rattle.std.specs.List.{insert, remove}
use Rattle.std.proofs.lemmas.Bool.{false≢true}
use Rattle.tmmbr_tuple.specs.declared.tuple.Tuple.{Tuple}
use Rattle.rate_cert.specs.declared.request.Request.{Request}
use Rattle.rate_cert.proofs.OwnerLemmas.{value_for-place, value_for-gap, value_for-with, value_for-with_other, value_for-without, value_for-without_other, insert_is, remove_is}
use Rattle.bounding_set.specs.Rows.{HasRisingOwners, tuple_of, IsRowOf, IsGapFor, Puts}

-- what of a request the lemmas on rows by owner ask for
abbrev pub row_owner : Request → ℕ
row_owner r = r.owner.0

abbrev pub row_tuple : Request → Tuple
row_tuple r = r.tuple

pub tuple_of-row : (rows : List Request) (place owner : ℕ) (d : Request) → HasRisingOwners rows → IsRowOf rows owner place
    → tuple_of rows owner ≡ Some (get_or rows place d).tuple
tuple_of-row rows place owner d rising is = value_for-place row_owner row_tuple rows owner place d rising is

pub tuple_of-no_row : (rows : List Request) (owner place : ℕ) → IsGapFor rows owner place → tuple_of rows owner ≡ None
tuple_of-no_row rows owner place gap = value_for-gap row_owner row_tuple rows owner place gap

pub live_at_row : (rows : List Request) → HasRisingOwners rows → (place : ℕ) (new : Request) → IsRowOf rows new.owner.0 place
    → IsNone (tuple_of rows new.owner.0) → ⊥
live_at_row rows rising place new is none = false≢true (sym (rw (tuple_of-row rows place new.owner.0 new rising is) at none))

pub Puts-insert : (rows : List Request) (place : ℕ) (new : Request) → IsGapFor rows new.owner.0 place
    → Puts rows (insert rows place new) new.owner.0 (Some new.tuple)
Puts-insert rows place new gap =
    subst (λ rs. Puts rows rs new.owner.0 (Some new.tuple)) (sym (insert_is row_owner rows place new gap)) (record {
      changed = value_for-with row_owner row_tuple rows new;
      others = value_for-with_other row_owner row_tuple rows new;
    })

pub Puts-remove : (rows : List Request) (place owner : ℕ) → HasRisingOwners rows → IsRowOf rows owner place → Puts rows (remove rows place) owner None
Puts-remove rows place owner rising is =
    subst (λ rs. Puts rows rs owner None) (sym (remove_is row_owner rows place owner rising is)) (record {
      changed = value_for-without row_owner row_tuple rows owner;
      others = value_for-without_other row_owner row_tuple rows owner;
    })

-- taking nothing out of rows that lack the owner
pub Puts-nothing : (rows : List Request) (owner : ℕ) → tuple_of rows owner ≡ None → Puts rows rows owner None
Puts-nothing rows owner none = record { changed = none; others = λ q differs. refl }
