use Rattle.std.proofs.Common.{◌∙◌, ◌+◌, ◌<◌, List, ℕ, [], ◌∷◌, ◌++◌, length, drop, sym, ap, arith, append_assoc}
use Rattle.settings.specs.Settings.{additions_of, said_names}
use Rattle.settings.proofs.SettingsLemmas.{names_more}
use Rattle.settings.proofs.settings.copied_cnames.Goals as goal

pub new-requires : goal.new-requires
new-requires c =
    let below : c.loop-k.k < length c.args.parts.now.endpoints.items = omega (arith, c.len-count.ensures) in
    rw c.said_name.ensures (c.requires c.loop-k.k below)

pub loop-k-preserved : goal.loop-k-preserved
loop-k-preserved c =
    let p = c.args.parts.now in
    let x = additions_of c.args.extras.now in
    let es = p.endpoints.items in
    let k = c.loop-k.k in
    let before = c.loop-k.cnames.items in
    let behind = said_names p x (k + 1) (drop (k + 1) es) in
    let below : k < length es = omega (arith, c.len-count.ensures) in
    let name = c.in_ok-new.ensures ∙ c.said_name.ensures in
    ap (λ (ys : List (List ℕ)). ys ++ behind) c.in_ok-push.ensures.items
    ∙ append_assoc before (c.in_ok-new.field-0 ∷ []) behind
    ∙ ap (λ (n : List ℕ). before ++ (n ∷ behind)) name
    ∙ ap (λ (ys : List (List ℕ)). before ++ ys) (sym (names_more p x es k below))
    ∙ c.loop-k.invariant
