use Rattle.std.proofs.Common.{◌∙◌, Some, ap, refl, sym}
use Rattle.std.proofs.lemmas.Result.{IfErr-weaker, IfOk-weaker}
use Rattle.cli.proofs.CommandLineLemmas.{asked_as_found, asked_version, refused_for_memory, typed}
use Rattle.cli.proofs.words.read_words.Goals as goal

pub returns-in_err-command-clause-asks : goal.returns-in_err-command-clause-asks
returns-in_err-command-clause-asks g c = λ media types. typed _ media types

pub returns-in-Ok-clause-asks : goal.returns-in-Ok-clause-asks
returns-in-Ok-clause-asks g c = λ media types. typed _ media types

pub returns-clause-asks : goal.returns-clause-asks
returns-clause-asks g c = λ media types. typed _ media types

pub returns-in-Ok-clause-asked : goal.returns-in-Ok-clause-asked
returns-in-Ok-clause-asked g c =
    IfOk-weaker c.found_in.result _ _
    (λ action is. asked_as_found _ _ c.in-Ok.matches _ c.in_ok-command.ensures c.in-Ok.ensures.kinds c.in-Ok.ensures.ok.2 (sym is))
    c.found_in.ensures.asked

pub returns-in-Ok-clause-refused : goal.returns-in-Ok-clause-refused
returns-in-Ok-clause-refused g c = λ asked is other.
    let found = asked_as_found _ _ c.in-Ok.matches _ c.in_ok-command.ensures c.in-Ok.ensures.kinds c.in-Ok.ensures.ok.2 refl in
    c.found_in.ensures.refused asked (sym found ∙ is)

pub returns-clause-asked : goal.returns-clause-asked
returns-clause-asked g c =
    IfOk-weaker c.version_or.result _ _
    (λ action told. asked_version _ _ c.in-Err.error c.in_ok-command.ensures c.in-Err.ensures.kinds told.1 ∙ ap Some (sym told.0))
    c.version_or.ensures.asked

pub returns-clause-refused : goal.returns-clause-refused
returns-clause-refused g c = λ asked is other.
    IfErr-weaker c.version_or.result _ _
    (λ e same. rw same.0 (refused_for_memory _ _ c.in-Err.error asked c.in_ok-command.ensures c.in-Err.ensures.kinds is other))
    c.version_or.ensures.refused
