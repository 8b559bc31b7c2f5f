use Rattle.std.proofs.Common.{refl}
use Rattle.tmmbr_c.specs.Numbers.{IsKeptInRange, kept_entry}
use Rattle.tmmbr_c.proofs.ReadLemmas.{read_more}
use Rattle.tmmbr_c.proofs.reading.read_kept_entries.Goals as goal

pub loop-place-preserved : goal.loop-place-preserved
loop-place-preserved c =
    let read = c.in-Some.ensures in
    read_more kept_entry IsKeptInRange c.args.entries.now c.loop-place.kept.items c.push.new.self.items c.loop-place.place _ c.in-Some.entry
    c.loop-place-test.true c.push.ensures.items c.loop-place.invariant read.value (read.in_range.0 refl)
