-- Live requests as members of the rows: who is live has a row, and what an edit does to the rows' envelope.
use Rattle.std.proofs.Common.{◌≡◌, ◌≢◌, ℕ, IsTrue, Bool, List, [], ◌∷◌, get_or, take, drop, Some, None, Option, inl, inr, refl, sym, ap, ◌∙◌, subst, arith}
use Rattle.std.specs.Prelude.{◌↔◌, All, Contains}
use Rattle.std.specs.Bool.{Decides}
use Rattle.std.specs.Option.{option_eq}
use Rattle.std.proofs.lemmas.Bool.{cases_eq}
use Rattle.std.proofs.lemmas.Bool.Decides.{nat_tests, Decides-eqb, Decides-and, Decides-like}
use Rattle.std.proofs.lemmas.List.Elements.{All-contains, Contains-get_or, Contains-append_right}
use Rattle.tmmbr_tuple.specs.declared.tuple.Tuple.{Tuple}
use Rattle.tmmbr_tuple.specs.contracts.tuple.TuplePartialEq.TheImpl.{eq-value as tuple_eq}
use Rattle.tmmbr_tuple.proofs.TupleLemmas.{same_tuple}
use Rattle.rate_cert.specs.declared.request.Request.{Request}
use Rattle.rate_cert.proofs.CheckerLemmas.{no_of}
use Rattle.rate_cert.proofs.OwnerLemmas.{place_of-row}
use Rattle.bounding_set.specs.Rows.{HasRisingOwners, Puts, tuple_of}
use Rattle.bounding_set.specs.Envelope.{IsEnvelopeOf}
use Rattle.bounding_set.specs.Live.{HasLineOf}
use Rattle.bounding_set.specs.Spliced.{IsSpliced}
use Rattle.bounding_set.proofs.RowLemmas.{row_owner, tuple_of-row}
use Rattle.bounding_set.proofs.SplicedLemmas.{Contains-cons_cases, Contains-head, Contains-tail, IsEnvelopeOf-members}

-- `==` of tuples, and of what was asked for
Decides-tuple_eq : (a b : Tuple) → Decides (tuple_eq.it a b) (a ≡ b)
Decides-tuple_eq a b =
    Decides-like (tuple_eq.it a b)
    (λ same. same_tuple a b same.0 same.1.0 same.1.1)
    (λ same. (ap (λ (t : Tuple). t.exp) same, (ap (λ (t : Tuple). t.mantissa) same, ap (λ (t : Tuple). t.overhead) same)))
    (Decides-and _ _ (Decides-eqb a.exp b.exp) (Decides-and _ _ (Decides-eqb a.mantissa b.mantissa) (Decides-eqb a.overhead b.overhead)))

pub asked_is : (asked : Option Tuple) (t : Tuple) (b : Bool) → b ≡ option_eq tuple_eq.it asked (Some t) → (IsTrue b ↔ (asked ≡ Some t))
asked_is None t b is = no_of b is (λ e. cc)
asked_is (Some s) t b is = (λ true_is. ap Some ((Decides-tuple_eq s t).0 (sym is ∙ true_is)), λ e. is ∙ (Decides-tuple_eq s t).1 (cc))

-- a row's owner asks for its tuple
tuple_of-member : (rows : List Request) (r : Request) → HasRisingOwners rows → Contains rows r → tuple_of rows r.owner.0 ≡ Some r.tuple
tuple_of-member rows r rising is =
    tuple_of-row rows is.0 r.owner.0 r rising (place_of-row row_owner rows r is) ∙ ap (λ (q : Request). Some q.tuple) is.2

-- who is live has a row
member_of-live : (rows : List Request) (r : Request) → tuple_of rows r.owner.0 ≡ Some r.tuple → Contains rows r
member_of-live [] r live = cc
member_of-live (x ∷ rows) r live =
    elim (cases_eq x.owner.0 r.owner.0) [
      | inl same ↦
          let asked : Some x.tuple ≡ Some r.tuple = grind (arith, nat_tests, same, live) in
          let tuples : x.tuple ≡ r.tuple = cc in
          let is : x ≡ r = λ i. record { owner = record { 0 = same i }; tuple = tuples i } in
          subst (Contains (x ∷ rows)) is (Contains-head x rows)
      | inr differs ↦
          let behind : tuple_of rows r.owner.0 ≡ Some r.tuple = grind (arith, nat_tests, differs, live) in
          Contains-tail x rows r (member_of-live rows r behind)
    ]

-- no row has an owner that isn't live
pub absent_owner : (rows : List Request) (owner : ℕ) → HasRisingOwners rows → tuple_of rows owner ≡ None → All (λ r. r.owner.0 ≢ owner) rows
absent_owner rows owner rising none = λ k d below same.
    let r = get_or rows k d in
    let live : tuple_of rows r.owner.0 ≡ Some r.tuple = tuple_of-member rows r rising (Contains-get_or rows k d below) in
    let clash : Some r.tuple ≡ None = sym live ∙ ap (tuple_of rows) same ∙ none in
    cc

-- The one list has just the other's members, and x.
pub record HasOneMore (more fewer : List Request) (x : Request) : Type 0 where
  pub to : (r : Request) → Contains more r → Contains (x ∷ fewer) r
  pub back : (r : Request) → Contains (x ∷ fewer) r → Contains more r

module _ (more fewer : List Request) (x : Request) (rising_more : HasRisingOwners more) (rising_fewer : HasRisingOwners fewer)
    (live : tuple_of more x.owner.0 ≡ Some x.tuple) (absent : tuple_of fewer x.owner.0 ≡ None)
    (others : (other : ℕ) → other ≢ x.owner.0 → tuple_of more other ≡ tuple_of fewer other) where
  to_fewer : (r : Request) → Contains more r → Contains (x ∷ fewer) r
  to_fewer r is =
      let asks : tuple_of more r.owner.0 ≡ Some r.tuple = tuple_of-member more r rising_more is in
      elim (cases_eq r.owner.0 x.owner.0) [
        | inl same ↦
            let asked : Some x.tuple ≡ Some r.tuple = sym live ∙ ap (tuple_of more) (sym same) ∙ asks in
            let tuples : x.tuple ≡ r.tuple = cc in
            let owners : x.owner.0 ≡ r.owner.0 = sym same in
            let is_x : x ≡ r = λ i. record { owner = record { 0 = owners i }; tuple = tuples i } in
            subst (Contains (x ∷ fewer)) is_x (Contains-head x fewer)
        | inr differs ↦ Contains-tail x fewer r (member_of-live fewer r (sym (others r.owner.0 differs) ∙ asks))
      ]

  from_fewer : (r : Request) → Contains (x ∷ fewer) r → Contains more r
  from_fewer r is =
      elim (Contains-cons_cases x fewer r is) [
        | inl is_x ↦ subst (Contains more) is_x (member_of-live more x live)
        | inr behind ↦
            let asks : tuple_of fewer r.owner.0 ≡ Some r.tuple = tuple_of-member fewer r rising_fewer behind in
            let differs : r.owner.0 ≢ x.owner.0 = λ same.
            let clash : Some r.tuple ≡ None = sym asks ∙ ap (tuple_of fewer) same ∙ absent in cc in
            member_of-live more r (others r.owner.0 differs ∙ asks)
      ]

  has_one_more : HasOneMore more fewer x
  has_one_more = record { to = to_fewer; back = from_fewer }

-- rows that the owner's row was taken from, and rows that one came into
pub HasOneMore-taken : (old new : List Request) (x : Request) → HasRisingOwners old → HasRisingOwners new → tuple_of old x.owner.0 ≡ Some x.tuple
    → Puts old new x.owner.0 None → HasOneMore old new x
HasOneMore-taken old new x rising_old rising_new live puts =
    has_one_more old new x rising_old rising_new live puts.changed (λ other differs. sym (puts.others other differs))

pub HasOneMore-put : (old new : List Request) (x : Request) → HasRisingOwners old → HasRisingOwners new → tuple_of old x.owner.0 ≡ None
    → Puts old new x.owner.0 (Some x.tuple) → HasOneMore new old x
HasOneMore-put old new x rising_old rising_new absent puts = has_one_more new old x rising_new rising_old puts.changed absent puts.others

pub IsEnvelopeOf-more : (more fewer lines : List Request) (x : Request) → HasOneMore more fewer x → IsEnvelopeOf (x ∷ fewer) lines → IsEnvelopeOf more lines
IsEnvelopeOf-more more fewer lines x one = IsEnvelopeOf-members (x ∷ fewer) more lines one.back one.to

pub IsEnvelopeOf-fewer : (more fewer lines : List Request) (x : Request) → HasOneMore more fewer x → IsEnvelopeOf more lines → IsEnvelopeOf (x ∷ fewer) lines
IsEnvelopeOf-fewer more fewer lines x one = IsEnvelopeOf-members more (x ∷ fewer) lines one.to one.back

-- what holds of all rows holds of those that are left
pub All-fewer : (P : Request → Type 0) (more fewer : List Request) (x : Request) → HasOneMore more fewer x → All P more → All P fewer
All-fewer P more fewer x one all = λ k d below.
    All-contains P more (get_or fewer k d) all (one.back (get_or fewer k d) (Contains-tail x fewer (get_or fewer k d) (Contains-get_or fewer k d below)))

-- what holds of all rows and of the one that was put in holds of the rows then
pub All-put : (P : Request → Type 0) (old new : List Request) (x : Request) → HasRisingOwners new → Puts old new x.owner.0 (Some x.tuple)
    → All P old → P x → All P new
All-put P old new x rising puts all here = λ k d below.
    let r = get_or new k d in
    let asks : tuple_of new r.owner.0 ≡ Some r.tuple = tuple_of-member new r rising (Contains-get_or new k d below) in
    elim (cases_eq r.owner.0 x.owner.0) [
      | inl same ↦
          let asked : Some x.tuple ≡ Some r.tuple = sym puts.changed ∙ ap (tuple_of new) (sym same) ∙ asks in
          let tuples : x.tuple ≡ r.tuple = cc in
          let owners : x.owner.0 ≡ r.owner.0 = sym same in
          let is_x : x ≡ r = λ i. record { owner = record { 0 = owners i }; tuple = tuples i } in
          subst P is_x here
      | inr differs ↦ All-contains P old r all (member_of-live old r (sym (puts.others r.owner.0 differs) ∙ asks))
    ]

pub HasLineOf-line : (x : Request) (lines : List Request) → Contains lines x → HasLineOf x.owner.0 lines
HasLineOf-line x lines (k, below, is) = (k, x, below, is, refl)

pub Contains-spliced : (old new : List Request) (x : Request) (tests : ℕ) → IsSpliced old x new tests → Contains new x
Contains-spliced old new x tests spliced =
    subst (λ ls. Contains ls x) (sym spliced.is)
    (Contains-append_right (take spliced.low old) (x ∷ drop spliced.high old) x (Contains-head x (drop spliced.high old)))

-- The owner asked for something else before; so an envelope before is none of now, if it has a line of the owner.
pub lines_differ : (rows rows' lines lines' : List Request) (x : Request) → HasRisingOwners rows → HasRisingOwners rows' → IsEnvelopeOf rows lines
    → IsEnvelopeOf rows' lines' → tuple_of rows x.owner.0 ≢ Some x.tuple → tuple_of rows' x.owner.0 ≡ Some x.tuple → HasLineOf x.owner.0 lines
    → lines' ≢ lines
lines_differ rows rows' lines lines' x rising rising' envelope envelope' differs asks (k, l, below, is, owner) same =
    let row : Contains rows l = All-contains (Contains rows) lines l envelope.are_rows (k, below, is) in
    let row' : Contains rows' l = All-contains (Contains rows') lines' l envelope'.are_rows (subst (λ ls. Contains ls l) (sym same) (k, below, is)) in
    let asked : tuple_of rows l.owner.0 ≡ Some l.tuple = tuple_of-member rows l rising row in
    let asked' : tuple_of rows' l.owner.0 ≡ Some l.tuple = tuple_of-member rows' l rising' row' in
    differs (ap (tuple_of rows) (sym owner) ∙ asked ∙ sym asked' ∙ ap (tuple_of rows') owner ∙ asks)
