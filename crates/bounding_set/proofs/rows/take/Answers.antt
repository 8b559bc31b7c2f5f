use Rattle.std.proofs.Common.{◌∙◌, sym, ap, subst, ◌<◌, None, Some}
use Rattle.std.proofs.lemmas.List.Quantifiers.{all_pairs_remove}
use Rattle.rate_cert.specs.declared.request.Request.{Request}
use Rattle.bounding_set.specs.Rows.{HasRisingOwners, IsRowOf, IsGapFor, Puts}
use Rattle.bounding_set.proofs.RowLemmas.{Puts-remove, Puts-nothing, tuple_of-row, tuple_of-no_row}
use Rattle.bounding_set.proofs.rows.take.Goals as goal

pub returns-in-Ok-clause-value : goal.returns-in-Ok-clause-value
returns-in-Ok-clause-value c =
    let row : IsRowOf c.args.rows.now.items c.args.owner.0 c.in-Ok.place =
    subst (λ rows. IsRowOf rows c.args.owner.0 c.in-Ok.place) c.as_slice.ensures.value c.in-Ok.ensures.found in
    ap (λ (r : Request). Some r.tuple) c.remove.ensures.value
    ∙ sym (tuple_of-row c.args.rows.now.items c.in-Ok.place c.args.owner.0 c.remove.result c.requires row)

pub returns-in-Ok-clause-taken : goal.returns-in-Ok-clause-taken
returns-in-Ok-clause-taken c =
    let row : IsRowOf c.args.rows.now.items c.args.owner.0 c.in-Ok.place =
    subst (λ rows. IsRowOf rows c.args.owner.0 c.in-Ok.place) c.as_slice.ensures.value c.in-Ok.ensures.found in
    subst (λ new. Puts c.args.rows.now.items new c.args.owner.0 None) (sym c.remove.ensures.items)
    (Puts-remove c.args.rows.now.items c.in-Ok.place c.args.owner.0 c.requires row)

pub returns-in-Ok-clause-rising : goal.returns-in-Ok-clause-rising
returns-in-Ok-clause-rising c =
    let row : IsRowOf c.args.rows.now.items c.args.owner.0 c.in-Ok.place =
    subst (λ rows. IsRowOf rows c.args.owner.0 c.in-Ok.place) c.as_slice.ensures.value c.in-Ok.ensures.found in
    subst HasRisingOwners (sym c.remove.ensures.items)
    (all_pairs_remove (λ (x y : Request). x.owner.0 < y.owner.0) c.args.rows.now.items c.in-Ok.place row.in_range c.requires)

gap : (c : goal.In-Err) → IsGapFor c.args.rows.now.items c.args.owner.0 c.in-Err.field-0
gap c = subst (λ rows. IsGapFor rows c.args.owner.0 c.in-Err.field-0) c.as_slice.ensures.value c.in-Err.ensures.absent

pub returns-in-Err-clause-value : goal.returns-in-Err-clause-value
returns-in-Err-clause-value c = sym (tuple_of-no_row c.args.rows.now.items c.args.owner.0 c.in-Err.field-0 (gap c))

pub returns-in-Err-clause-taken : goal.returns-in-Err-clause-taken
returns-in-Err-clause-taken c =
    Puts-nothing c.args.rows.now.items c.args.owner.0 (tuple_of-no_row c.args.rows.now.items c.args.owner.0 c.in-Err.field-0 (gap c))
