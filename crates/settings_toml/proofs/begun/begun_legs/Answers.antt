use Rattle.std.proofs.Common.{◌≡◌, ◌∙◌, ◌+◌, ◌<◌, List, ℕ, [], ◌∷◌, ◌++◌, length, drop, get_or, sym, ap, arith, append_assoc}
use Rattle.std.specs.Prelude.{None, slice_get}
use Rattle.settings.specs.declared.parts.LegParts.{LegParts}
use Rattle.settings_toml.specs.Begun.{begun_leg, begun_legs}
use Rattle.settings_toml.proofs.BegunLemmas.{begun_more}
use Rattle.settings_toml.proofs.begun.begun_legs.Goals as goal

pub loop-k-preserved : goal.loop-k-preserved
loop-k-preserved c =
    let numbers = c.args.numbers.now in
    let legs = c.args.legs.now in
    let k = c.loop-k.k in
    let before = c.loop-k.begun.items in
    let behind = begun_legs numbers (k + 1) (drop (k + 1) legs) in
    let below : k < length legs = omega arith in
    let leg : LegParts = c.begun_leg.result in
    let other : LegParts = record { subscriber = None; publisher = None; out_ssrc = None; first_seq = None; on = None } in
    let is : leg ≡ begun_leg (slice_get numbers k) (get_or legs k other) =
    c.begun_leg.ensures ∙ ap (λ n. begun_leg n (get_or legs k other)) c.number_at.ensures in
    ap (λ (ys : List LegParts). ys ++ behind) c.in_ok-push.ensures.items
    ∙ append_assoc before (leg ∷ []) behind
    ∙ ap (λ (l : LegParts). before ++ (l ∷ behind)) is
    ∙ ap (λ (ys : List LegParts). before ++ ys) (sym (begun_more numbers legs k other below))
    ∙ c.loop-k.invariant
