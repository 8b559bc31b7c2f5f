use Rattle.std.proofs.Common.{None, Some, map}
use Rattle.std.proofs.lemmas.Result.{IfOk-weaker}
use Rattle.clap.specs.Words.{found_of}
use Rattle.cli.proofs.CommandLineLemmas.{words_read}
use Rattle.cli.proofs.words.words_in.Goals as goal

pub returns-in-Some : goal.returns-in-Some
returns-in-Some c =
    let read = words_read (found_of c.args.matches.now) c.args.id.now (Some (map (λ word. word.now) c.in-Some.words.now)) c.in-Some.ensures in
    IfOk-weaker c.from_slice.result _ _ (λ words is. rw is read) c.from_slice.ensures.items

pub returns-in-None : goal.returns-in-None
returns-in-None c = rw c.new.ensures.items (words_read (found_of c.args.matches.now) c.args.id.now None c.in-None.ensures)
