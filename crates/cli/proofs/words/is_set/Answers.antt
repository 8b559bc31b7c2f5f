use Rattle.std.proofs.Common.{None, Some, ◌∙◌}
use Rattle.clap.specs.Words.{found_of}
use Rattle.cli.proofs.CommandLineLemmas.{set_read}
use Rattle.cli.proofs.words.is_set.Goals as goal

pub returns-in-Some : goal.returns-in-Some
returns-in-Some c = c.eq.ensures ∙ set_read (found_of c.args.matches.now) c.args.id.now (Some c.in-Some.text.now) c.in-Some.ensures

pub returns-in-None : goal.returns-in-None
returns-in-None c = set_read (found_of c.args.matches.now) c.args.id.now None c.in-None.ensures
