-- The numbers of refusals.
use Rattle.std.specs.Prelude.{ℕ}
use Rattle.rewrite.specs.declared.skip.Skip.{Skip}
use Rattle.rewrite.specs.declared.skip.Skip.TheVariants.{Old, Spent}

abbrev pub skip_number : Skip → ℕ
skip_number Old = 1
skip_number Spent = 2
