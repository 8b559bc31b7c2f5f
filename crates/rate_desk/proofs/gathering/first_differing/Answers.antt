use Rattle.std.proofs.Common.{sym, ◌∙◌, ap}
use Rattle.std.specs.Prelude.{Some}
use Rattle.std.proofs.lemmas.Option.{slice_get-get_or}
use Rattle.rate_cert.proofs.CheckerLemmas.{refuted}
use Rattle.rate_desk.proofs.gathering.first_differing.Goals as goal

pub returns-then-not-fits : goal.returns-then-not-fits
returns-then-not-fits c = record {
  place = c.loop-receipt.receipt-index;
  there = slice_get-get_or c.args.receipts.now c.loop-receipt.receipt-index c.receipt-item.result c.loop-receipt-test.true
      ∙ ap Some (sym c.receipt-item.is);
  here = refuted c.fits.result c.fits.ensures c.if-not-fits.true;
  before = c.loop-receipt.invariant;
}
