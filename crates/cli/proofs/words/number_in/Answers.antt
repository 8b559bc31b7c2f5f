use Rattle.std.proofs.Common.{◌∙◌, ap}
use Rattle.std.specs.Prelude.{option_and_then}
use Rattle.std.specs.Str.Parse.{ParsesUnsigned, ExplainsUnsignedError, HasUnsignedDigitsIfOk}
use Rattle.clap.specs.Words.{found_of, one_text}
use Rattle.clap.proofs.WalkLemmas.{one_text-rows}
use Rattle.cli.specs.CommandLine.{number_of}
use Rattle.cli.proofs.CommandLineLemmas.{one_read}
use Rattle.cli.proofs.words.number_in.Goals as goal

pub returns : goal.returns
returns c =
    let f = found_of c.args.matches.now in
    one_read 32 _ (λ bs r. ParsesUnsigned 32 10 bs r × ExplainsUnsignedError 10 bs r × HasUnsignedDigitsIfOk bs r) (one_text f c.args.id.now) c.get_one.result
    (λ u x g. g.0) c.get_one.ensures.none c.get_one.ensures.value ∙ ap (option_and_then number_of) (one_text-rows f c.args.id.now)
