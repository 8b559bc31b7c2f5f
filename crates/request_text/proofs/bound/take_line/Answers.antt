use Rattle.std.proofs.Common.{◌≡◌, ◌⊎◌, ◌∙◌, [], Ok, length, get_or, inl, inr, refl, subst, sym}
use Rattle.std.proofs.lemmas.Bool.{eqb-false, eqb-true}
use Rattle.request_text.specs.Lines.{Demands, Spelled}
use Rattle.request_text.proofs.AskedLemmas.{skipped_line, refuses_hex}
use Rattle.request_text.proofs.bound.take_line.Goals as goal
use Rattle.request_text.proofs.bound.take_line.Goals.{then-is_empty-via-then-is_empty, then-is_empty-via-else-is_empty+then-line-eq35}

pub returns-then-is_empty : goal.returns-then-is_empty
returns-then-is_empty c = λ live are.
    let line = c.args.line.now in
    let why : (length line ≡ 0) ⊎ (get_or line 0 0 ≡ 35) = elim c.then-is_empty.branch [
      | then-is_empty-via-then-is_empty w ↦ inl (eqb-true (length line) 0 (sym c.is_empty.ensures ∙ w.if-is_empty.true))
      | then-is_empty-via-else-is_empty+then-line-eq35 w ↦ inr w.if-line-eq35.true
    ] in
    let says = subst (λ (s : Spelled). Demands c.args.media.0 s (Ok [])) (sym (skipped_line line why)) refl in
    (live, record { asked = Ok []; says = says; done = refl }, are)

pub returns-in-Err : goal.returns-in-Err
returns-in-Err c = λ live are.
    let line = c.args.line.now in
    let some = eqb-false (length line) 0 (sym c.is_empty.ensures ∙ c.if-is_empty.false) in
    let refuses = refuses_hex c.args.media.0 c.args.number line live c.in-Err.error some c.if-line-eq35.false c.in-Err.ensures.err in
    rw c.undecoded.ensures refuses
