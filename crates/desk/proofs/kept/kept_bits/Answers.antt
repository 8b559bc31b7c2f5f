use Rattle.std.proofs.Common.{◌≡◌, ◌<◌, ◌≤◌, length, get_or, ap, sym, ◌∙◌, subst, arith, w64}
use mir.Val.{bits}
use Rattle.std.proofs.lemmas.List.{take_all}
use Rattle.rate_cert.specs.declared.certificate.Kept.{Kept}
use Rattle.rate_cert.specs.Certificate.{places_of}
use Rattle.bounding_set.specs.declared.rows.TheConstants.{LIVE_LIMIT}
use Rattle.desk.proofs.KeptLemmas.{HasBits, HasBits-none, HasBits-more, KeepsRows-from_bits}
use Rattle.desk.proofs.kept.kept_bits.Goals as goal

pub loop-kept-init : goal.loop-kept-init
loop-kept-init c = HasBits-none

pub loop-kept-preserved : goal.loop-kept-preserved
loop-kept-preserved c =
    let kept = c.args.cert.now.kept.items in
    let i = c.loop-kept.kept-index in
    let k = c.kept-item.result in
    let whole = c.as_slice-kept-items.ensures.value in
    let below : i < length kept = subst (λ ks. i < length ks) whole c.loop-kept-test.true in
    let is : k ≡ get_or kept i k = c.kept-item.is ∙ ap (λ ks. get_or ks i k) whole in
    let within : k.place < LIVE_LIMIT = subst (λ (e : Kept). e.place < LIVE_LIMIT) (sym is) (c.requires i k below) in
    HasBits-more kept i (bits w64) c.loop-kept.words k below is (omega (arith, within)) (omega arith) c.loop-kept.invariant

pub returns : goal.returns
returns c = λ rows canonical.
    let kept = c.args.cert.now.kept.items in
    let i = c.loop-kept.kept-index in
    let past : length kept ≤ i = subst (λ ks. length ks ≤ i) c.as_slice-kept-items.ensures.value c.loop-kept-test.false in
    KeepsRows-from_bits rows (places_of kept) c.loop-kept.words canonical
    (subst (λ ks. HasBits (places_of ks) c.loop-kept.words) (take_all i kept past) c.loop-kept.invariant)
