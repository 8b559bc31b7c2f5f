use Rattle.std.proofs.Common.{None, Some, refl}
use Rattle.clap.specs.Words.{found_of}
use Rattle.cli.proofs.CommandLineLemmas.{asked_ask, asked_sdp}
use Rattle.cli.proofs.words.action_named.Goals as goal

pub returns-in_ok-words_in-in-Some : goal.returns-in_ok-words_in-in-Some
returns-in_ok-words_in-in-Some c =
    rw c.in-ask.is (asked_ask (found_of c.args.matches.now) (Some c.in-Some.path.now) _ c.in-Some.ensures c.in_ok-words_in-in-Some.ensures)

pub returns-in-None : goal.returns-in-None
returns-in-None c = rw c.in-ask.is (asked_ask (found_of c.args.matches.now) None _ c.in-None.ensures refl)

pub returns-in_ok-words_in-in-Some-get_str : goal.returns-in_ok-words_in-in-Some-get_str
returns-in_ok-words_in-in-Some-get_str c =
    rw c.in-sdp.is (asked_sdp (found_of c.args.matches.now) (Some c.in-Some-get_str.file.now) _ c.in-Some-get_str.ensures c.in_ok-words_in-in-Some-get_str.ensures)

pub returns-in-None-get_str : goal.returns-in-None-get_str
returns-in-None-get_str c = rw c.in-sdp.is (asked_sdp (found_of c.args.matches.now) None _ c.in-None-get_str.ensures refl)
