-- Names that are exchanged.
use Rattle.std.proofs.Common.{◌≡◌, ◌∙◌, ℕ, Bool, true, false, refl, sym, ap}
use Rattle.std.specs.Prelude.{◌==◌}
use Rattle.std.proofs.lemmas.Bool.{cond-true, cond-false, eq-eqb, eqb-true}
use Rattle.seats.specs.Names.{exchanged}

-- the one becomes the other
to_other : (one other : ℕ) → exchanged one other one ≡ other
to_other one other = cond-true (one == one) _ _ (eq-eqb one one refl)

-- and the other the one, if both aren't the same
to_one_by : (one other : ℕ) (b : Bool) → (other == one) ≡ b → exchanged one other other ≡ one
to_one_by one other true same = cond-true (other == one) _ _ same ∙ eqb-true other one same
to_one_by one other false apart = cond-false (other == one) _ _ apart ∙ cond-true (other == other) _ _ (eq-eqb other other refl)

pub to_one : (one other : ℕ) → exchanged one other other ≡ one
to_one one other = to_one_by one other (other == one) refl

back_by : (one other name : ℕ) (is_one is_other : Bool) → (name == one) ≡ is_one → (name == other) ≡ is_other
    → exchanged one other (exchanged one other name) ≡ name
back_by one other name true b same e =
    ap (exchanged one other) (cond-true (name == one) _ _ same) ∙ to_one one other ∙ sym (eqb-true name one same)
back_by one other name false true apart same =
    ap (exchanged one other) (cond-false (name == one) _ _ apart ∙ cond-true (name == other) _ _ same) ∙ to_other one other ∙ sym (eqb-true name other same)
back_by one other name false false apart unlike =
    let stays : exchanged one other name ≡ name = cond-false (name == one) _ _ apart ∙ cond-false (name == other) _ _ unlike in
    ap (exchanged one other) stays ∙ stays

pub back : (one other name : ℕ) → exchanged one other (exchanged one other name) ≡ name
back one other name = back_by one other name (name == one) (name == other) refl refl

pub apart : (one other a b : ℕ) → exchanged one other a ≡ exchanged one other b → a ≡ b
apart one other a b e = sym (back one other a) ∙ ap (exchanged one other) e ∙ back one other b
