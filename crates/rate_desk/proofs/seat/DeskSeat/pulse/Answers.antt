use Rattle.std.proofs.Common.{sym, ◌∙◌, ap, ◌+◌, ℕ}
use Rattle.rate_desk.proofs.ShareLemmas.{one_more}
use Rattle.rate_desk.proofs.seat.DeskSeat.pulse.Goals as goal

-- one call more, in the desk and in its share
pub invariant_of-held-2 : goal.invariant_of-held-2
invariant_of-held-2 g c =
    let held = c.args.held.now in
    let records = c.in-Ok.ensures.recorded in
    record {
      one_part = c.count.ensures.parts;
      counted = c.count.ensures.amount ∙ ap (λ (n : ℕ). n + 1) held.counted ∙ sym (one_more held.desk _ _ _ c.pulse.new.self records);
      gap = records.gap ∙ held.gap;
      request_ms = records.request_ms ∙ held.request_ms;
    }
