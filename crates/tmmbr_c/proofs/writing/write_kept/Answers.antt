use Rattle.tmmbr_c.proofs.NumberLemmas.{kept_entry-written}
use Rattle.tmmbr_c.specs.Order.{place_in}
use Rattle.tmmbr_c.specs.declared.numbers.TmmbrKept.{TmmbrKept}
use Rattle.tmmbr_c.proofs.writing.write_kept.Goals as goal

pub returns-clause-value : goal.returns-clause-value
returns-clause-value c =
    let pair = c.args.entry.now.pair in
    let written : TmmbrKept = record {
      packets_high = c.upper_half.result;
      packets_low = c.lower_half.result;
      bits_high = c.upper_half-2.result;
      bits_low = c.lower_half-2.result;
      seconds = pair.seconds;
      place = c.moved.result;
    } in
    kept_entry-written written (place_in c.args.order.now c.args.entry.now.place) pair c.moved.ensures.value
    c.upper_half.ensures c.lower_half.ensures c.upper_half-2.ensures c.lower_half-2.ensures (λ i. pair.seconds)
