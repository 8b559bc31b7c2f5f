use Rattle.std.proofs.Common.{◌∙◌, length, sym}
use Rattle.std.proofs.lemmas.Bool.{eqb-false}
use Rattle.std.proofs.lemmas.Result.{IfOk-weaker}
use Rattle.replay.proofs.ScriptLemmas.{text_read}
use Rattle.replay.proofs.script.read_line.Goals as goal

pub returns : goal.returns
returns c =
    let line = c.args.line.now in
    let some = eqb-false (length line) 0 (sym c.is_empty.ensures ∙ c.if-is_empty.false) in
    let is = sym (text_read c.args.numbers line some c.if-line-eq35.false) in
    IfOk-weaker c.read_text.result _ _ (λ r same. same ∙ is) c.read_text.ensures
