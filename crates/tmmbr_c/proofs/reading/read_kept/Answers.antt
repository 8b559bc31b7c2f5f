use Rattle.std.proofs.Common.{◌≡◌, ◌∙◌, arith}
use Rattle.std.proofs.lemmas.Grind.{common_steps}
use Rattle.tmmbr_c.proofs.NumberLemmas.{kept_entry-in_range}
use Rattle.tmmbr_c.proofs.reading.read_kept.Goals as goal

pub returns-clause-value : goal.returns-clause-value
returns-clause-value c =
    let place : c.in_ok-place.place ≡ c.args.entry.now.place = grind (arith, common_steps, c.in_ok-place.ensures) in
    let made = c.in_ok-pair.ensures.value in
    kept_entry-in_range c.args.entry.now c.in_ok-place.place c.in_ok-pair.pair place
    (made.0 ∙ c.join-packets.ensures) (made.1 ∙ c.join-bits.ensures) (made.2 ∙ c.from.ensures)
