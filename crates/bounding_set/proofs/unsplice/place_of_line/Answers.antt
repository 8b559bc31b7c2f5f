use Rattle.std.proofs.Common.{◌<◌, length, sym, ◌∙◌, arith}
use Rattle.std.proofs.lemmas.Bool.{false≢true}
use Rattle.std.proofs.lemmas.List.{get_or_read}
use Rattle.rate_cert.proofs.RequestLemmas.{Decides-request_eq}
use Rattle.bounding_set.proofs.UnspliceLemmas.{StandsAt-overhead}
use Rattle.bounding_set.proofs.unsplice.place_of_line.Goals as goal
use Rattle.bounding_set.proofs.unsplice.place_of_line.Goals.{else-at-lines-via-then-at-lines+else-eq, else-at-lines-via-else-at-lines}

pub returns-then-eq-clause-found : goal.returns-then-eq-clause-found
returns-then-eq-clause-found c =
    let lines = c.args.lines.now in
    let at = c.lines_before-at.result in
    let below : at < length lines = omega (arith, c.if-at-lines.true) in
    let same = (Decides-request_eq c.index-lines-at.result c.args.request.now).0 (sym c.eq.ensures ∙ c.if-eq.true) in
    record { in_range = below; is = λ d. sym (get_or_read lines at c.index-lines-at.result below c.index-lines-at.is d) ∙ same }

pub returns-else-at-lines-clause-absent : goal.returns-else-at-lines-clause-absent
returns-else-at-lines-clause-absent c =
    let lines = c.args.lines.now in
    let x = c.args.request.now in
    let at = c.lines_before-at.result in
    λ is.
    let stands = StandsAt-overhead lines x at c.requires c.lines_before-at.ensures.before c.lines_before-at.ensures.behind is in
    elim c.else-at-lines.branch [
      | else-at-lines-via-then-at-lines+else-eq w ↦
          let same = get_or_read lines at w.index-lines-at.result stands.in_range w.index-lines-at.is x ∙ stands.is x in
          false≢true (sym w.if-eq.false ∙ w.eq.ensures ∙ (Decides-request_eq w.index-lines-at.result x).1 same)
      | else-at-lines-via-else-at-lines w ↦ omega (arith, stands.in_range, w.if-at-lines.false)
    ]
