use Rattle.std.proofs.Common.{◌<◌, length, sym, ◌∙◌, arith}
use Rattle.std.proofs.lemmas.List.{get_or_read}
use Rattle.rate_cert.proofs.RequestLemmas.{Decides-request_eq}
use Rattle.bounding_set.proofs.places.is_at.Goals as goal

pub returns-then-place-rows : goal.returns-then-place-rows
returns-then-place-rows c =
    let rows = c.args.rows.now in
    let row = c.index-rows-place.result in
    let below : c.args.place < length rows = omega (arith, c.from-place.ensures, c.if-place-rows.true) in
    λ is. record {
      in_range = below;
      is = λ d. rw (sym c.from-place.ensures) (sym (get_or_read rows c.from-place.result row (omega (arith, c.if-place-rows.true)) c.index-rows-place.is d)
          ∙ (Decides-request_eq row c.args.request.now).0 (sym c.eq.ensures ∙ is));
    }
