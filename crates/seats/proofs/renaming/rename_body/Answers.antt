use Rattle.std.proofs.Common.{◌∙◌, ◌+◌, ◌-◌, ◌*◌, ◌≤◌, ℕ, subst, sym, arith}
use borrow.Rule.Slice.PartMut.{same_len_mid}
use Rattle.seats.specs.Names.{renamed}
use Rattle.seats.proofs.EntryLemmas.{entry_more, fits_here, fits_on}
use Rattle.seats.proofs.renaming.rename_body.Goals as goal

pub loop-left-preserved : goal.loop-left-preserved
loop-left-preserved c =
    let size = c.args.places.size in
    let at = c.loop-left.at in
    let left = c.loop-left.left in
    let fits = c.loop-left.invariant.fits in
    let same = same_len_mid at _ c.loop-left.body c.rename_word.new.bytes c.rename_word.auto.bytes in
    record {
      fits = λ more. subst (λ (n : ℕ). at + size + size * (left - 1) ≤ n) (sym same) (fits_on at size left _ fits c.loop-left-test.true more);
      goes = entry_more (renamed c.args.places.by) size at left _ c.loop-left.body c.rename_word.new.bytes c.requires.size (omega arith) c.loop-left-test.true
          (fits_here at size left _ fits c.loop-left-test.true) c.rename_word.ensures ∙ c.loop-left.invariant.goes;
    }
