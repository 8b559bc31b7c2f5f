-- Live requests as words by owner, and as rows.
use Rattle.std.proofs.Common.{◌≡◌, ℕ, ◌+◌, ◌≤◌, eqb, nat_lt, Bool, List, [], ◌∷◌, ◌++◌, length, if◌then◌else◌, Option, None, Some, Result, Ok, Err, true, false, refl, sym, ap, subst, ◌∙◌, inl, inr, arith}
use Rattle.std.specs.Prelude.{IfNone, IsNone, OnSome, is_some, option_map}
use Rattle.std.proofs.lemmas.Bool.{cases_eq, eqb-true}
use Rattle.std.proofs.lemmas.Bool.Decides.{nat_tests}
use Rattle.tmmbr_tuple.specs.declared.tuple.Tuple.{Tuple}
use Rattle.tmmbr_tuple.specs.Tuple.{word_of}
use Rattle.rate_cert.specs.declared.request.Request.{Request}
use Rattle.bounding_set.specs.declared.rows.TheConstants.{LIVE_LIMIT}
use Rattle.bounding_set.specs.State.{State}
use Rattle.bounding_set.specs.Rows.{HasRisingOwners, tuple_of, Puts, count_with}
use Rattle.request_text.specs.declared.fault.LineFault.TheVariants.{Full}
use Rattle.request_text.specs.declared.fault.LineFault.{LineFault}
use Rattle.request_text.specs.Asked.{Change, asks}
use Rattle.request_text.specs.Lines.{Asked, word_for, put_word, without, after_change, after_changes, ◌>>=◌, AreRowsOf, HasOwnersOnce}
use Rattle.request_text.specs.Outcome.{HasRowsOf}

pub word_for-put_word : (live : List Asked) (owner word q : ℕ) → word_for (put_word live owner word) q ≡ (if eqb owner q then Some word else word_for live q)
word_for-put_word [] owner word q = refl
word_for-put_word (a ∷ live) owner word q =
    elim (cases_eq a.owner owner) [
      | inl same ↦ grind (arith, nat_tests)
      | inr differs ↦ grind (arith, nat_tests, word_for-put_word live owner word q)
    ]

length-put_word : (live : List Asked) (owner word : ℕ) → length (put_word live owner word) ≡ (if is_some (word_for live owner) then length live else length live + 1)
length-put_word [] owner word = refl
length-put_word (a ∷ live) owner word =
    elim (cases_eq a.owner owner) [
      | inl same ↦ grind (arith, nat_tests)
      | inr differs ↦ grind (arith, nat_tests, length-put_word live owner word)
    ]

-- putting a word keeps each owner once
pub once_put : (live : List Asked) (owner word : ℕ) → HasOwnersOnce live → HasOwnersOnce (put_word live owner word)
once_put [] owner word once = (refl, tt)
once_put (a ∷ live) owner word once = go (once_put live owner word once.1) (eqb a.owner owner) refl
  where
    go : HasOwnersOnce (put_word live owner word) → (b : Bool) → eqb a.owner owner ≡ b
        → HasOwnersOnce (if b then record { owner = owner; word = word } ∷ live else a ∷ put_word live owner word)
    go others true e = (ap (word_for live) (sym (eqb-true a.owner owner e)) ∙ once.0, once.1)
    go others false e =
        let other : eqb owner a.owner ≡ false = grind (arith, nat_tests) in
        (word_for-put_word live owner word a.owner ∙ (λ i. if other i then Some word else word_for live a.owner) ∙ once.0, others)

either : (b : Bool) (o : Option ℕ) → o ≡ (if b then o else o)
either true o = refl
either false o = refl

pub word_for-without : (live : List Asked) (owner q : ℕ) → HasOwnersOnce live → word_for (without live owner) q ≡ (if eqb owner q then None else word_for live q)
word_for-without [] owner q once = either (eqb owner q) None
word_for-without (a ∷ live) owner q once =
    elim (cases_eq a.owner owner) [
      | inl same ↦ grind (arith, nat_tests, once.0)
      | inr differs ↦ grind (arith, nat_tests, word_for-without live owner q once.1)
    ]

length-without : (live : List Asked) (owner : ℕ) → (if is_some (word_for live owner) then length (without live owner) + 1 else length (without live owner)) ≡ length live
length-without [] owner = refl
length-without (a ∷ live) owner =
    elim (cases_eq a.owner owner) [
      | inl same ↦ grind (arith, nat_tests)
      | inr differs ↦ grind (arith, nat_tests, length-without live owner)
    ]

pub once_without : (live : List Asked) (owner : ℕ) → HasOwnersOnce live → HasOwnersOnce (without live owner)
once_without [] owner once = tt
once_without (a ∷ live) owner once = go (once_without live owner once.1) (eqb a.owner owner) refl
  where
    go : HasOwnersOnce (without live owner) → (b : Bool) → eqb a.owner owner ≡ b → HasOwnersOnce (if b then live else a ∷ without live owner)
    go others true e = once.1
    go others false e =
        let other : eqb owner a.owner ≡ false = grind (arith, nat_tests) in
        (word_for-without live owner a.owner once.1 ∙ (λ i. if other i then None else word_for live a.owner) ∙ once.0, others)

is_some-map : {A B : Type 0} (f : A → B) (o : Option A) → is_some (option_map f o) ≡ is_some o
is_some-map f None = refl
is_some-map f (Some x) = refl

-- the owner is live in the rows if it is live
same_live : (live : List Asked) (rows : List Request) (owner : ℕ) → AreRowsOf live rows → is_some (word_for live owner) ≡ is_some (tuple_of rows owner)
same_live live rows owner are = ap is_some (sym (are.words owner)) ∙ is_some-map word_of (tuple_of rows owner)

-- there are as many rows once the owner has one as words once its word is put
count_put : (live : List Asked) (old : List Request) (owner word : ℕ) → AreRowsOf live old → length (put_word live owner word) ≡ count_with old owner
count_put live old owner word are =
    length-put_word live owner word
    ∙ (λ i. if same_live live old owner are i then sym are.count i else sym are.count i + 1)

same_count : (a b : Bool) (new without old live : ℕ) → a ≡ b → (if a then new + 1 else new) ≡ old → (if b then without + 1 else without) ≡ live
    → old ≡ live → new ≡ without
same_count true true new without old live same x y z = omega (arith, x, y, z)
same_count false false new without old live same x y z = x ∙ z ∙ sym y
same_count true false new without old live same x y z = cc
same_count false true new without old live same x y z = cc

below_limit : (n limit : ℕ) → n ≤ limit → nat_lt n (limit + 1) ≡ true
below_limit n limit le = grind (arith, nat_tests)

past_limit : (n limit : ℕ) → n ≡ limit + 1 → nat_lt n (limit + 1) ≡ false
past_limit n limit e = grind (arith, nat_tests)

pub takes_request : (live : List Asked) (old new : List Request) (owner word : ℕ) (tuple : Tuple) → AreRowsOf live old
    → Puts old new owner (Some tuple) → word_of tuple ≡ word → HasRisingOwners new → length new ≡ count_with old owner → length new ≤ LIVE_LIMIT
    → HasRowsOf (after_change (asks owner word) live) new
takes_request live old new owner word tuple are puts spelled rising grows within =
    let put = put_word live owner word in
    let count : length put ≡ length new = count_put live old owner word are ∙ sym grows in
    let fits : nat_lt (length put) (LIVE_LIMIT + 1) ≡ true = below_limit (length put) LIVE_LIMIT (omega (arith, count)) in
    let words : (q : ℕ) → option_map word_of (tuple_of new q) ≡ word_for put q = λ q.
    elim (cases_eq owner q) [
      | inl same ↦
          let here : option_map word_of (tuple_of new q) ≡ Some word =
          ap (λ o. option_map word_of (tuple_of new o)) (sym same) ∙ ap (option_map word_of) puts.changed ∙ ap Some spelled in
          grind (arith, nat_tests, word_for-put_word live owner word q, here)
      | inr differs ↦
          let there : option_map word_of (tuple_of new q) ≡ word_for live q =
          ap (option_map word_of) (puts.others q (λ e. differs (sym e))) ∙ are.words q in
          grind (arith, nat_tests, word_for-put_word live owner word q, there)
    ] in
    (put, ap (λ b. if b then Ok put else Err Full) fits, record { once = once_put live owner word are.once; rising = rising; words = words; count = sym count })

pub refuses_request : (live : List Asked) (old : List Request) (owner word : ℕ) → AreRowsOf live old
    → IsNone (tuple_of old owner) → length old ≡ LIVE_LIMIT → after_change (asks owner word) live ≡ Err Full
refuses_request live old owner word are none full =
    let put = put_word live owner word in
    let more : length put ≡ LIVE_LIMIT + 1 =
    count_put live old owner word are ∙ ap (λ b. if b then length old else length old + 1) none ∙ ap (λ n. n + 1) full in
    ap (λ b. if b then Ok put else Err Full) (past_limit (length put) LIVE_LIMIT more)

-- how many rows are left, from what a removal says
pub left_count : (tuple : Option Tuple) (old new : State) → OnSome tuple (length new.rows + 1 ≡ length old.rows) → IfNone tuple (new ≡ old)
    → (if is_some tuple then length new.rows + 1 else length new.rows) ≡ length old.rows
left_count None old new some unchanged = ap (λ (s : State). length s.rows) unchanged
left_count (Some t) old new shrinks unchanged = shrinks

-- what is left once an owner leaves
pub takes_leave : (live : List Asked) (old new : List Request) (owner : ℕ) (tuple : Option Tuple) → AreRowsOf live old → tuple ≡ tuple_of old owner
    → Puts old new owner None → (if is_some tuple then length new + 1 else length new) ≡ length old → HasRisingOwners new
    → AreRowsOf (without live owner) new
takes_leave live old new owner tuple are value puts shrinks rising =
    let words : (q : ℕ) → option_map word_of (tuple_of new q) ≡ word_for (without live owner) q = λ q.
    elim (cases_eq owner q) [
      | inl same ↦
          let here : option_map word_of (tuple_of new q) ≡ None =
          ap (λ o. option_map word_of (tuple_of new o)) (sym same) ∙ ap (option_map word_of) puts.changed in
          grind (arith, nat_tests, word_for-without live owner q are.once, here)
      | inr differs ↦
          let there : option_map word_of (tuple_of new q) ≡ word_for live q =
          ap (option_map word_of) (puts.others q (λ e. differs (sym e))) ∙ are.words q in
          grind (arith, nat_tests, word_for-without live owner q are.once, there)
    ] in
    let tests : is_some tuple ≡ is_some (word_for live owner) = ap is_some value ∙ sym (same_live live old owner are) in
    record {
      once = once_without live owner are.once;
      rising = rising;
      words = words;
      count = same_count (is_some tuple) (is_some (word_for live owner)) (length new) (length (without live owner)) (length old) (length live)
          tests shrinks (length-without live owner) are.count;
    }

pub bind_ok : {A B E : Type 0} (r : Result A E) (x : A) (f : A → Result B E) → r ≡ Ok x → (r >>= f) ≡ f x
bind_ok r x f is = ap (λ r. r >>= f) is

pub bind_err : {A B E : Type 0} (r : Result A E) (e : E) (f : A → Result B E) → r ≡ Err e → (r >>= f) ≡ Err e
bind_err r e f is = ap (λ r. r >>= f) is

-- changes after others
pub after_changes-append : (first others : List Change) (live : List Asked)
    → after_changes (first ++ others) live ≡ (after_changes first live >>= after_changes others)
after_changes-append [] others live = refl
after_changes-append (c ∷ first) others live = go (after_changes-append first others) (after_change c live)
  where
    go : ((next : List Asked) → after_changes (first ++ others) next ≡ (after_changes first next >>= after_changes others))
        → (r : Result (List Asked) LineFault) → (r >>= after_changes (first ++ others)) ≡ ((r >>= after_changes first) >>= after_changes others)
    go more (Ok next) = more next
    go more (Err fault) = refl

-- no row is of no request
pub no_rows : (rows : List Request) → rows ≡ [] → AreRowsOf [] rows
no_rows rows none =
    subst (AreRowsOf []) (sym none) (record { once = tt; rising = λ i j d before below. absurd (omega arith); words = λ owner. refl; count = refl })
