use Rattle.std.proofs.Common.{None, Some, refl}
use Rattle.clap.specs.Words.{found_of}
use Rattle.cli.proofs.CommandLineLemmas.{asked_check, asked_page, asked_plan, asked_replay}
use Rattle.cli.proofs.words.plain_named.Goals as goal

pub returns-in_err-get_str-in-check : goal.returns-in_err-get_str-in-check
returns-in_err-get_str-in-check c =
    rw (c.from_residual-in_err-get_str-in-check.ensures, c.in-check.is) (asked_check (found_of c.args.matches.now) None c.in_err-get_str-in-check.ensures)

pub returns-in_ok-get_str-in-check : goal.returns-in_ok-get_str-in-check
returns-in_ok-get_str-in-check c = rw c.in-check.is (asked_check (found_of c.args.matches.now) (Some c.in_ok-get_str-in-check.field-0.now) c.in_ok-get_str-in-check.ensures)

pub returns-in_err-get_str-in-replay : goal.returns-in_err-get_str-in-replay
returns-in_err-get_str-in-replay c =
    rw (c.from_residual-in_err-get_str-in-replay.ensures, c.in-replay.is) (asked_replay (found_of c.args.matches.now) None _ _ _ _ _ _ _ c.in_err-get_str-in-replay.ensures refl refl refl refl refl refl refl)

pub returns-in_ok-get_str-in-replay : goal.returns-in_ok-get_str-in-replay
returns-in_ok-get_str-in-replay c = rw c.in-replay.is (asked_replay (found_of c.args.matches.now) (Some c.in_ok-get_str-in-replay.field-0.now) _ _ _ _ _ _ _ c.in_ok-get_str-in-replay.ensures c.number_in-in-replay.ensures c.number_in-in-replay-2.ensures c.moment_in.ensures c.is_set.ensures
    c.moment_in-in-replay.ensures c.is_set-in-replay.ensures c.is_set-in-replay-2.ensures)

pub returns-in_err-get_str-in-page : goal.returns-in_err-get_str-in-page
returns-in_err-get_str-in-page c =
    rw (c.from_residual-in_err-get_str-in-page.ensures, c.in-page.is)
    (asked_page (found_of c.args.matches.now) None _ _ _ c.in_err-get_str-in-page.ensures refl refl refl)

pub returns-in_err-get_str-in-page-2 : goal.returns-in_err-get_str-in-page-2
returns-in_err-get_str-in-page-2 c =
    rw (c.from_residual-in_err-get_str-in-page-2.ensures, c.in-page.is)
    (asked_page (found_of c.args.matches.now) (Some c.in_ok-get_str-in-page.field-0.now) None _ _ c.in_ok-get_str-in-page.ensures c.in_err-get_str-in-page-2.ensures refl refl)

pub returns-in_ok-get_str-in-page-2 : goal.returns-in_ok-get_str-in-page-2
returns-in_ok-get_str-in-page-2 c =
    rw c.in-page.is
    (asked_page (found_of c.args.matches.now) (Some c.in_ok-get_str-in-page.field-0.now) (Some c.in_ok-get_str-in-page-2.field-0.now) _ _ c.in_ok-get_str-in-page.ensures
    c.in_ok-get_str-in-page-2.ensures c.is_set-in-page.ensures c.get_str-in-page-3.ensures)

pub returns-in_err-get_str-in-settings : goal.returns-in_err-get_str-in-settings
returns-in_err-get_str-in-settings c =
    rw (c.from_residual-in_err-get_str-in-settings.ensures, c.in-settings.is) (asked_plan (found_of c.args.matches.now) None c.in_err-get_str-in-settings.ensures)

pub returns-in_ok-get_str-in-settings : goal.returns-in_ok-get_str-in-settings
returns-in_ok-get_str-in-settings c =
    rw c.in-settings.is (asked_plan (found_of c.args.matches.now) (Some c.in_ok-get_str-in-settings.field-0.now) c.in_ok-get_str-in-settings.ensures)
