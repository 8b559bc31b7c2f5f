use Rattle.std.proofs.Common.{codes, pos}
use Rattle.clap.specs.Words.{App, with_rule}
use Rattle.cli.specs.CommandLine.{file_app, flag_rule, moment_rule, number_to_rule}
use Rattle.cli.proofs.command_line.replay_command.Goals as goal

pub returns-clause-app : goal.returns-clause-app
returns-clause-app c =
    let app-0 : App = file_app (codes "replay") in
    let made-0 = c.file_command-replay.ensures.app in
    let made-1 = c.asking-replay.ensures.shape app-0 (number_to_rule (codes "only-leg") (pos 65535)) made-0 c.number_to.ensures.rule c.number_to.ensures.local in
    let app-1 : App = with_rule app-0 (number_to_rule (codes "only-leg") (pos 65535)) in
    let made-2 = c.asking-replay-2.ensures.shape app-1 (number_to_rule (codes "only-endpoint") (pos 65535)) made-1 c.number_to-2.ensures.rule c.number_to-2.ensures.local in
    let app-2 : App = with_rule app-1 (number_to_rule (codes "only-endpoint") (pos 65535)) in
    let made-3 = c.asking-replay-3.ensures.shape app-2 (moment_rule (codes "from") 0) made-2 c.moment.ensures.rule c.moment.ensures.local in
    let app-3 : App = with_rule app-2 (moment_rule (codes "from") 0) in
    let made-4 = c.asking-replay-4.ensures.shape app-3 (flag_rule (codes "events")) made-3 c.flag.ensures.rule c.flag.ensures.local in
    let app-4 : App = with_rule app-3 (flag_rule (codes "events")) in
    let made-5 = c.asking-replay-5.ensures.shape app-4 (moment_rule (codes "gaps") 1) made-4 c.moment-2.ensures.rule c.moment-2.ensures.local in
    let app-5 : App = with_rule app-4 (moment_rule (codes "gaps") 1) in
    let made-6 = c.asking-replay-6.ensures.shape app-5 (flag_rule (codes "utc")) made-5 c.flag-2.ensures.rule c.flag-2.ensures.local in
    let app-6 : App = with_rule app-5 (flag_rule (codes "utc")) in
    c.asking.ensures.shape app-6 (flag_rule (codes "other-settings")) made-6 c.flag-3.ensures.rule c.flag-3.ensures.local

pub returns-clause-local : goal.returns-clause-local
returns-clause-local c =
    let local-0 = c.file_command-replay.ensures.local in
    let local-1 = c.asking-replay.ensures.local local-0 c.number_to.ensures.local in
    let local-2 = c.asking-replay-2.ensures.local local-1 c.number_to-2.ensures.local in
    let local-3 = c.asking-replay-3.ensures.local local-2 c.moment.ensures.local in
    let local-4 = c.asking-replay-4.ensures.local local-3 c.flag.ensures.local in
    let local-5 = c.asking-replay-5.ensures.local local-4 c.moment-2.ensures.local in
    let local-6 = c.asking-replay-6.ensures.local local-5 c.flag-2.ensures.local in
    c.asking.ensures.local local-6 c.flag-3.ensures.local
