use Rattle.std.proofs.Common.{ℕ, List, ◌∙◌, subst, sym}
use Rattle.std.specs.Str.Parse.{ParsesUnsigned}
use Rattle.request_text.proofs.NumberLemmas.{digits_utf8, parsed_number}
use Rattle.request_text.proofs.words.number.Goals as goal

pub returns-in-Ok : goal.returns-in-Ok
returns-in-Ok c =
    c.ok.ensures.value ∙ parsed_number 128 _ c.args.word.now c.parse.result (sym c.if-not-are_digits.ensures)
    (subst (λ (t : List ℕ). ParsesUnsigned 128 10 t c.parse.result) c.in-Ok.ensures.cases.0 c.parse.ensures.value.0)

pub returns-in-Err : goal.returns-in-Err
returns-in-Err c = absurd (c.in-Err.ensures.cases.0 (digits_utf8 c.args.word.now (sym c.if-not-are_digits.ensures)))
