use Rattle.std.proofs.Common.{sym}
use Rattle.web.proofs.WordLemmas.{printed_utf8}
use Rattle.web.proofs.words.printed_word.Goals as goal

pub returns-in-Err : goal.returns-in-Err
returns-in-Err c = absurd (c.in-Err.ensures.cases.0 (printed_utf8 c.args.word.now (sym c.if-not-is_printed.ensures)))
