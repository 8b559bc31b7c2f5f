use Rattle.std.proofs.Common.{codes}
use Rattle.clap.specs.Words.{App, with_subcommand}
use Rattle.cli.specs.CommandLine.{ask_app, file_app, page_app, replay_app, sdp_app, sender_app, serve_app, sfu_top}
use Rattle.cli.proofs.command_line.command.Goals as goal

pub returns : goal.returns
returns c =
    let bound_app : App = sender_app (codes "bound") in
    let check_app : App = file_app (codes "check") in
    let draw_app : App = sender_app (codes "draw") in
    let to_bound : App = with_subcommand sfu_top bound_app.top in
    let to_check : App = with_subcommand to_bound check_app.top in
    let to_replay : App = with_subcommand to_check replay_app.top in
    let to_serve : App = with_subcommand to_replay serve_app.top in
    let to_draw : App = with_subcommand to_serve draw_app.top in
    let to_sdp : App = with_subcommand to_draw sdp_app.top in
    let to_page : App = with_subcommand to_sdp page_app.top in
    let settings_app : App = file_app (codes "settings") in
    let to_settings : App = with_subcommand to_page settings_app.top in
    let bound = c.with-program.ensures sfu_top bound_app c.top_command.ensures c.sender_command.ensures.app c.sender_command.ensures.local in
    let check = c.with-program-2.ensures to_bound check_app bound c.file_command.ensures.app c.file_command.ensures.local in
    let replay = c.with-program-3.ensures to_check replay_app check c.replay_command.ensures.app c.replay_command.ensures.local in
    let serve = c.with-program-4.ensures to_replay serve_app replay c.serve_command.ensures.app c.serve_command.ensures.local in
    let draw = c.with-program-5.ensures to_serve draw_app serve c.sender_command-2.ensures.app c.sender_command-2.ensures.local in
    let sdp = c.with-program-6.ensures to_draw sdp_app draw c.sdp_command.ensures.app c.sdp_command.ensures.local in
    let page = c.with-program-7.ensures to_sdp page_app sdp c.page_command.ensures.app c.page_command.ensures.local in
    let plan = c.with-program-8.ensures to_page settings_app page c.file_command-2.ensures.app c.file_command-2.ensures.local in
    c.with.ensures to_settings ask_app plan c.ask_command.ensures.app c.ask_command.ensures.local
