use Rattle.std.proofs.Common.{rules}
use Rattle.std.proofs.lemmas.List.Sorted.{IsNonDecreasingBy-from_sort_by_key}
use Rattle.rate_cert.specs.declared.request.Request.{Request}
use Rattle.web.proofs.sets.rows_in.Goals as goal

pub returns : goal.returns
returns c = record {
  told = c.in_ok-rows.rows.items;
  asked = c.in_ok-rows.ensures;
  same = c.sort_unstable_by_key.ensures.permutation;
  sorted =
      IsNonDecreasingBy-from_sort_by_key (λ (r : Request). r.owner.0) c.sort_unstable_by_key.new.self.items
      c.sort_unstable_by_key.ensures.sorted (λ a r f k. search rules);
}
