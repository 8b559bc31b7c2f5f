use Rattle.std.proofs.Common.{codes, pos}
use Rattle.clap.specs.Words.{App, with_rule}
use Rattle.cli.specs.CommandLine.{file_app, flag_rule, max_status, max_ticks, moment_rule, optional_rule, word_rule}
use Rattle.cli.proofs.command_line.serve_command.Goals as goal

pub returns-clause-app : goal.returns-clause-app
returns-clause-app c =
    let app-0 : App = file_app (codes "serve") in
    let made-0 = c.file_command-serve.ensures.app in
    let made-1 = c.asking-serve.ensures.shape app-0 (optional_rule (codes "ticks") (pos max_ticks)) made-0 c.optional_number.ensures.rule c.optional_number.ensures.local in
    let app-1 : App = with_rule app-0 (optional_rule (codes "ticks") (pos max_ticks)) in
    let made-2 = c.asking-serve-2.ensures.shape app-1 (optional_rule (codes "status") (pos max_status)) made-1 c.optional_number-2.ensures.rule c.optional_number-2.ensures.local in
    let app-2 : App = with_rule app-1 (optional_rule (codes "status") (pos max_status)) in
    let made-3 = c.asking-serve-3.ensures.shape app-2 (word_rule (codes "control")) made-2 c.optional_word.ensures.rule c.optional_word.ensures.local in
    let app-3 : App = with_rule app-2 (word_rule (codes "control")) in
    let made-4 = c.asking-serve-4.ensures.shape app-3 (word_rule (codes "record")) made-3 c.optional_word-2.ensures.rule c.optional_word-2.ensures.local in
    let app-4 : App = with_rule app-3 (word_rule (codes "record")) in
    let made-5 = c.asking-serve-5.ensures.shape app-4 (moment_rule (codes "record-limit") 1) made-4 c.moment.ensures.rule c.moment.ensures.local in
    let app-5 : App = with_rule app-4 (moment_rule (codes "record-limit") 1) in
    let made-6 = c.asking-serve-6.ensures.shape app-5 (flag_rule (codes "record-next")) made-5 c.flag.ensures.rule c.flag.ensures.local in
    let app-6 : App = with_rule app-5 (flag_rule (codes "record-next")) in
    let made-7 = c.asking-serve-7.ensures.shape app-6 (word_rule (codes "numbers")) made-6 c.optional_word-3.ensures.rule c.optional_word-3.ensures.local in
    let app-7 : App = with_rule app-6 (word_rule (codes "numbers")) in
    let made-8 = c.asking-serve-8.ensures.shape app-7 (flag_rule (codes "log-time")) made-7 c.flag-2.ensures.rule c.flag-2.ensures.local in
    let app-8 : App = with_rule app-7 (flag_rule (codes "log-time")) in
    c.asking.ensures.shape app-8 (flag_rule (codes "log-why")) made-8 c.flag-3.ensures.rule c.flag-3.ensures.local

pub returns-clause-local : goal.returns-clause-local
returns-clause-local c =
    let local-0 = c.file_command-serve.ensures.local in
    let local-1 = c.asking-serve.ensures.local local-0 c.optional_number.ensures.local in
    let local-2 = c.asking-serve-2.ensures.local local-1 c.optional_number-2.ensures.local in
    let local-3 = c.asking-serve-3.ensures.local local-2 c.optional_word.ensures.local in
    let local-4 = c.asking-serve-4.ensures.local local-3 c.optional_word-2.ensures.local in
    let local-5 = c.asking-serve-5.ensures.local local-4 c.moment.ensures.local in
    let local-6 = c.asking-serve-6.ensures.local local-5 c.flag.ensures.local in
    let local-7 = c.asking-serve-7.ensures.local local-6 c.optional_word-3.ensures.local in
    let local-8 = c.asking-serve-8.ensures.local local-7 c.flag-2.ensures.local in
    c.asking.ensures.local local-8 c.flag-3.ensures.local
