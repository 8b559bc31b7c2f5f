-- People are told of just those keys with which settings are read.
use Rattle.std.proofs.Common.{◌≡◌, ◌∙◌, ℕ, pos, Bool, true, false, List, [], ◌∷◌, Option, None, Some, IsSome, if◌then◌else◌, refl, sym, subst}
use Rattle.std.proofs.lemmas.Bool.{false≢true}
use Rattle.std.proofs.lemmas.Slice.Eq.{bytes_eq-Decides}
use Rattle.std.specs.Str.{bytes_eq}
use Rattle.toml.specs.Data.{Data, array, boolean, integer, no_items, string}
use Rattle.settings_toml.specs.SettingsFaults.{takes_endpoint, takes_leg, takes_top}
use Rattle.settings_toml.specs.declared.wanted.Wanted.{Wanted}
use Rattle.settings_toml.specs.Wanted.{AreTheKeys, IsTaken, KeyRow, endpoint_rows, leg_rows, top_rows, wanted_in}

-- ---- a key of the rows is taken

abbrev EachTaken : (List ℕ → Data → Bool) → List KeyRow → Type 0
EachTaken takes [] = Unit {0}
EachTaken takes (r ∷ rows) = IsTaken takes r.key × EachTaken takes rows

taken_here : (takes : List ℕ → Data → Bool) (r : KeyRow) (rows : List KeyRow) (key : List ℕ) (b : Bool) → b ≡ bytes_eq key r.key
    → IsTaken takes r.key → (IsSome (wanted_in rows key) → IsTaken takes key) → IsSome (if b then Some r.takes else wanted_in rows key) → IsTaken takes key
taken_here takes r rows key true is taken others some =
    let P : List ℕ → Type 0 = λ k. IsTaken takes k in
    subst P (sym ((bytes_eq-Decides key r.key).0 (sym is))) taken
taken_here takes r rows key false is taken others some = others some

taken_in : (takes : List ℕ → Data → Bool) (rows : List KeyRow) (key : List ℕ) → EachTaken takes rows → IsSome (wanted_in rows key) → IsTaken takes key
taken_in takes [] key each some = absurd (false≢true some)
taken_in takes (r ∷ rows) key each some =
    taken_here takes r rows key (bytes_eq key r.key) refl each.0 (taken_in takes rows key each.1) some

-- ---- a key that is taken is one of the rows

-- the key is that of no key_row
abbrev Misses : List KeyRow → List ℕ → Type 0
Misses [] key = Unit {0}
Misses (r ∷ rows) key = (bytes_eq key r.key ≡ false) × Misses rows key

misses_here : (r : KeyRow) (rows : List KeyRow) (key : List ℕ) (b : Bool) → b ≡ bytes_eq key r.key
    → (wanted_in rows key ≡ None → Misses rows key) → (if b then Some r.takes else wanted_in rows key) ≡ None → Misses (r ∷ rows) key
misses_here r rows key true is others none = absurd cc
misses_here r rows key false is others none = (sym is, others none)

misses : (rows : List KeyRow) (key : List ℕ) → wanted_in rows key ≡ None → Misses rows key
misses [] key none = tt
misses (r ∷ rows) key none = misses_here r rows key (bytes_eq key r.key) refl (misses rows key) none

some_unless : (o : Option Wanted) → (o ≡ None → ⊥) → IsSome o
some_unless None never = absurd (never refl)
some_unless (Some w) never = refl

told_in : (takes : List ℕ → Data → Bool) (rows : List KeyRow) → ((key : List ℕ) (value : Data) → Misses rows key → takes key value ≡ false)
    → (key : List ℕ) → IsTaken takes key → IsSome (wanted_in rows key)
told_in takes rows unless key taken =
    some_unless (wanted_in rows key) (λ none. false≢true (sym (unless key taken.0 (misses rows key none)) ∙ taken.1))

-- ---- the tables: each key_row with a value that is taken, and no other key

no_top : (key : List ℕ) (value : Data) → Misses top_rows key → takes_top key value ≡ false
no_top key value m =
    let v = m.1.1 in
    simp (
      m.0,
      m.1.0,
      v.0,
      v.1.0,
      v.1.1.0,
      v.1.1.1.0,
      v.1.1.1.1.0,
      v.1.1.1.1.1.0,
      v.1.1.1.1.1.1.0,
      v.1.1.1.1.1.1.1.0,
      v.1.1.1.1.1.1.1.1.0,
      v.1.1.1.1.1.1.1.1.1.0,
      v.1.1.1.1.1.1.1.1.1.1.0,
      v.1.1.1.1.1.1.1.1.1.1.1.0,
      v.1.1.1.1.1.1.1.1.1.1.1.1.0,
      v.1.1.1.1.1.1.1.1.1.1.1.1.1.0,
      v.1.1.1.1.1.1.1.1.1.1.1.1.1.1.0,
      v.1.1.1.1.1.1.1.1.1.1.1.1.1.1.1.0,
      v.1.1.1.1.1.1.1.1.1.1.1.1.1.1.1.1.0,
      v.1.1.1.1.1.1.1.1.1.1.1.1.1.1.1.1.1.0,
      v.1.1.1.1.1.1.1.1.1.1.1.1.1.1.1.1.1.1.0,
      v.1.1.1.1.1.1.1.1.1.1.1.1.1.1.1.1.1.1.1.0,
      v.1.1.1.1.1.1.1.1.1.1.1.1.1.1.1.1.1.1.1.1.0,
      v.1.1.1.1.1.1.1.1.1.1.1.1.1.1.1.1.1.1.1.1.1.0,
      v.1.1.1.1.1.1.1.1.1.1.1.1.1.1.1.1.1.1.1.1.1.1.0,
      v.1.1.1.1.1.1.1.1.1.1.1.1.1.1.1.1.1.1.1.1.1.1.1.0,
    ) refl

each_top : EachTaken takes_top top_rows
each_top = ((array no_items, refl), ((array no_items, refl), ((string [], refl), ((boolean true, refl), ((integer (pos 0), refl), ((integer (pos 0), refl), ((string [], refl), ((boolean true, refl), ((string [], refl), ((string [], refl), ((boolean true, refl), ((string [], refl), ((integer (pos 0), refl), ((string [], refl), ((integer (pos 0), refl), ((integer (pos 0), refl), ((integer (pos 0), refl), ((integer (pos 0), refl), ((integer (pos 0), refl), ((string [], refl), ((integer (pos 0), refl), ((boolean true, refl), ((integer (pos 1), refl), ((string [], refl), ((string [], refl), ((string [], refl), tt))))))))))))))))))))))))))

pub top_keys : AreTheKeys takes_top top_rows
top_keys = record { taken = λ key. taken_in takes_top top_rows key each_top; told = told_in takes_top top_rows no_top }

no_endpoint : (key : List ℕ) (value : Data) → Misses endpoint_rows key → takes_endpoint key value ≡ false
no_endpoint key value m =
    simp (m.0, m.1.0, m.1.1.0, m.1.1.1.0, m.1.1.1.1.0, m.1.1.1.1.1.0, m.1.1.1.1.1.1.0, m.1.1.1.1.1.1.1.0, m.1.1.1.1.1.1.1.1.0) refl

each_endpoint : EachTaken takes_endpoint endpoint_rows
each_endpoint = ((string [], refl), ((string [], refl), ((array no_items, refl), ((string [], refl), ((string (97 ∷ []), refl), ((boolean true, refl), ((string [], refl), ((array no_items, refl), ((string [], refl), tt)))))))))

pub endpoint_keys : AreTheKeys takes_endpoint endpoint_rows
endpoint_keys = record { taken = λ key. taken_in takes_endpoint endpoint_rows key each_endpoint; told = told_in takes_endpoint endpoint_rows no_endpoint }

no_leg : (key : List ℕ) (value : Data) → Misses leg_rows key → takes_leg key value ≡ false
no_leg key value m = simp (m.0, m.1.0, m.1.1.0, m.1.1.1.0, m.1.1.1.1.0) refl

each_leg : EachTaken takes_leg leg_rows
each_leg = ((integer (pos 0), refl), ((boolean true, refl), ((string [], refl), ((string [], refl), ((string [], refl), tt)))))

pub leg_keys : AreTheKeys takes_leg leg_rows
leg_keys = record { taken = λ key. taken_in takes_leg leg_rows key each_leg; told = told_in takes_leg leg_rows no_leg }
