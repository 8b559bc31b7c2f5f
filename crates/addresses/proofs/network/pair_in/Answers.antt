use Rattle.std.proofs.Common.{◌<◌, ◌^◌, ℕ, subst, sym}
use Rattle.addresses.proofs.network.pair_in.Goals as goal

pub returns-in_default-parse : goal.returns-in_default-parse
returns-in_default-parse c = λ network spells.
    c.in_default-parse.ensures.value.0 (spells.number, subst (λ (n : ℕ). n < 2 ^ 8) (sym spells.value) spells.fits)
