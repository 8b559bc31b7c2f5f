use Rattle.std.proofs.Common.{◌∙◌, refl, sym, subst, Some}
use Rattle.std.specs.Prelude.{IsNone}
use Rattle.rate_cert.proofs.OwnerLemmas.{insert_is, rising-with}
use Rattle.bounding_set.specs.Rows.{HasRisingOwners, IsRowOf, IsGapFor, Puts}
use Rattle.bounding_set.proofs.RowLemmas.{row_owner, Puts-insert, live_at_row}
use Rattle.bounding_set.proofs.rows.add.Goals as goal

gap : (c : goal.After-insert) → IsGapFor c.args.rows.now.items c.args.request.owner.0 c.in-Err.place
gap c = subst (λ rows. IsGapFor rows c.args.request.owner.0 c.in-Err.place) c.as_slice.ensures.value c.in-Err.ensures.absent

pub returns-in-Err-clause-put : goal.returns-in-Err-clause-put
returns-in-Err-clause-put c =
    subst (λ new. Puts c.args.rows.now.items new c.args.request.owner.0 (Some c.args.request.tuple)) (sym c.insert.ensures.items)
    (Puts-insert c.args.rows.now.items c.in-Err.place c.args.request (gap c))

pub returns-in-Err-clause-rising : goal.returns-in-Err-clause-rising
returns-in-Err-clause-rising c =
    subst HasRisingOwners (sym (c.insert.ensures.items ∙ insert_is row_owner c.args.rows.now.items c.in-Err.place c.args.request (gap c)))
    (rising-with row_owner c.args.rows.now.items c.args.request c.requires.rising)

-- the owner isn't live
no_row : (c : goal.In_default) → ⊥
no_row c =
    let is : IsRowOf c.args.rows.now.items c.args.request.owner.0 c.in_default.field-0 =
    subst (λ rows. IsRowOf rows c.args.request.owner.0 c.in_default.field-0) c.as_slice.ensures.value c.in_default.ensures.found in
    live_at_row c.args.rows.now.items c.requires.rising c.in_default.field-0 c.args.request is (subst IsNone (sym c.requires.absent) refl)

pub returns-in_default-clause-put : goal.returns-in_default-clause-put
returns-in_default-clause-put c = absurd (no_row c)

pub returns-in_default-clause-grows : goal.returns-in_default-clause-grows
returns-in_default-clause-grows c = absurd (no_row c)
