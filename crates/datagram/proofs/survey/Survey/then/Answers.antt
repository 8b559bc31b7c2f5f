use Rattle.std.proofs.Common.{◌≡◌, refl}
use Rattle.std.specs.Prelude.{◌||◌}
use Rattle.datagram.proofs.ReaderLemmas.{kept_of_both}
use Rattle.datagram.proofs.survey.Survey.then.Goals as goal
use Rattle.datagram.proofs.survey.Survey.then.Goals.{then-self, else-self, then-self-2, else-self-2}

pub returns-clause-joined : goal.returns-clause-joined
returns-clause-joined c = λ a b sx sy.
    let x = c.args.self in
    let y = c.args.next in
    let own = c.args.own.0 in
    let goodbye : c.if-self.result ≡ (x.goodbye || y.goodbye) = elim c.if-self.branch [
      | then-self w ↦ rw (w.result-is, w.if-self.true) refl
      | else-self w ↦ rw (w.if-self.false, w.result-is) refl
    ] in
    let asking : c.if-self-2.result ≡ (x.asking || y.asking) = elim c.if-self-2.branch [
      | then-self-2 w ↦ rw (w.result-is, w.if-self-2.true) refl
      | else-self-2 w ↦ rw (w.if-self-2.false, w.result-is) refl
    ] in
    kept_of_both own x y _ a b sx sy goodbye asking c.first_other.ensures c.or.ensures refl c.first_other-2.ensures
