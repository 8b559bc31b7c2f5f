use Rattle.std.proofs.Common.{None, Some, refl}
use Rattle.clap.specs.Words.{found_of}
use Rattle.cli.proofs.CommandLineLemmas.{asked_serve}
use Rattle.cli.proofs.words.serve_named.Goals as goal

pub returns-in_err-record : goal.returns-in_err-record
returns-in_err-record c =
    rw c.from_residual.ensures
    (asked_serve (found_of c.args.matches.now) None _ _ _ _ _ _ _ _ _ _ c.in_err-record.ensures c.get_str-path.ensures c.moment_in-limit.ensures c.is_set-next.ensures refl refl refl refl refl refl refl)

pub returns-in_err-get_str : goal.returns-in_err-get_str
returns-in_err-get_str c =
    rw c.from_residual-in_err-get_str.ensures
    (asked_serve (found_of c.args.matches.now) _ _ _ _ None _ _ _ _ _ _ c.in_ok-record.ensures c.get_str-path.ensures c.moment_in-limit.ensures c.is_set-next.ensures c.in_err-get_str.ensures refl refl refl refl refl refl)

pub returns : goal.returns
returns c =
    asked_serve (found_of c.args.matches.now) _ _ _ _ (Some c.in_ok-get_str.field-0.now) _ _ _ _ _ _ c.in_ok-record.ensures c.get_str-path.ensures c.moment_in-limit.ensures c.is_set-next.ensures
    c.in_ok-get_str.ensures c.number_in.ensures c.number_in-2.ensures c.get_str-2.ensures c.is_set.ensures c.get_str-3.ensures c.is_set-2.ensures
