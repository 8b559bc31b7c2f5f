use Rattle.std.proofs.Common.{sym}
use Rattle.web.proofs.WordLemmas.{plain_utf8}
use Rattle.web.proofs.words.plain_word.Goals as goal

pub returns-in-Err : goal.returns-in-Err
returns-in-Err c = absurd (c.in-Err.ensures.cases.0 (plain_utf8 c.args.word.now (sym c.if-not-is_plain.ensures)))
