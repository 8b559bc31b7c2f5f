-- Networks that texts spell.
use Rattle.std.proofs.Common.{◌≡◌, ℕ, List, Option, None, Some, MatchOption, subst, inr}
use Rattle.addresses.specs.declared.network.Network.{Network}
use Rattle.addresses.specs.Network.{HasSlash, SpellsNetwork, SpellsNoNetwork, SpellsNoPair, SpellsPairWithin, after_slash, before_slash}

of_parts : (r : Option Network) (text : List ℕ) → HasSlash text
    → MatchOption r (SpellsNoPair (before_slash text) (after_slash text)) (SpellsPairWithin (before_slash text) (after_slash text))
    → MatchOption r (SpellsNoNetwork text) (SpellsNetwork text)
of_parts None text slash spells = inr spells
of_parts (Some network) text slash spells = (slash, spells)

-- what the parts of a text spell, the text spells
pub joined : (r : Option Network) (text a b : List ℕ) → HasSlash text → a ≡ before_slash text → b ≡ after_slash text
    → MatchOption r (SpellsNoPair a b) (SpellsPairWithin a b) → MatchOption r (SpellsNoNetwork text) (SpellsNetwork text)
joined r text a b slash front back spells =
    of_parts r text slash
    (subst (λ (y : List ℕ). MatchOption r (SpellsNoPair (before_slash text) y) (SpellsPairWithin (before_slash text) y)) back
    (subst (λ (x : List ℕ). MatchOption r (SpellsNoPair x b) (SpellsPairWithin x b)) front spells))
