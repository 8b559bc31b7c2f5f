use Rattle.cli.specs.CommandLine.{bound}
use Rattle.commands.proofs.CommandLemmas.{ends_asked, no_set, of_unit, offline_ends, replay_ends, unread}
use Rattle.commands.proofs.command.run_metered.Goals as goal

pub returns-in-Err : goal.returns-in-Err
returns-in-Err g c =
    let no = c.refuse_words.ensures in record {
      ends = λ asked is. unread asked _ _ _ _ _ no.done no.refused no.settings no.control no.said;
      settings = λ is. absurd (no.settings is);
      asks = c.in-Err.ensures.asks;
      understood = λ media types is. no.memory (c.in-Err.ensures.refused (bound media) (c.in-Err.ensures.asks media types) (λ e. cc)) is;
      said = λ _. no.said;
    }

pub returns-in-Ok-Offline : goal.returns-in-Ok-Offline
returns-in-Ok-Offline g c =
    let here = rw c.in-Ok-Offline.field-0-is at c.in-Ok-Offline.ensures.asked in
    let ran = c.run_offline.ensures in record {
      ends = λ asked. ends_asked _ _ asked _ _ _ _ _ _ here (offline_ends c.in-Ok-Offline.what _ _ _ _ _ _ ran.ends);
      settings = λ is. absurd (ran.understood.1 is);
      asks = c.in-Ok-Offline.ensures.asks;
      understood = λ _ _. ran.understood.0;
      said = λ _. ran.said;
    }

pub returns-in-Ok-Replay : goal.returns-in-Ok-Replay
returns-in-Ok-Replay g c =
    let words = c.in-Ok-Replay in
    let here = rw words.field-0-is at words.ensures.asked in
    let ran = c.run_replay.ensures in record {
      ends = λ asked. ends_asked _ _ asked _ _ _ _ _ _ here
          (replay_ends words.only_leg words.only_endpoint words.from words.events words.gaps words.utc words.other_settings _ _ _ _ _ _ _
          c.unwrap_or.ensures ran.ends);
      settings = ran.settings;
      asks = words.ensures.asks;
      understood = λ _ _. ran.understood;
      said = λ _. ran.said;
    }

pub returns-in-Ok-Serve : goal.returns-in-Ok-Serve
returns-in-Ok-Serve g c =
    let here = rw c.in-Ok-Serve.field-0-is at c.in-Ok-Serve.ensures.asked in
    let ran = c.run_serve.ensures in record {
      ends = λ asked. ends_asked _ _ asked _ _ _ _ _ _ here ran.ends;
      settings = ran.settings;
      asks = c.in-Ok-Serve.ensures.asks;
      understood = λ _ _. ran.understood.0;
      said = of_unit _ _ _ _ _ here tt;
    }

pub returns-in-Ok-Ask : goal.returns-in-Ok-Ask
returns-in-Ok-Ask g c =
    let here = rw c.in-Ok-Ask.field-0-is at c.in-Ok-Ask.ensures.asked in
    let ran = c.run_ask.ensures in record {
      ends = λ asked. ends_asked _ _ asked _ _ _ _ _ _ here (record { refused = ran.refused; control = ran.control });
      settings = λ is. absurd (ran.understood.1 is);
      asks = c.in-Ok-Ask.ensures.asks;
      understood = λ _ _. ran.understood.0;
      said = of_unit _ _ _ _ _ here tt;
    }

pub returns-in-Ok-Page : goal.returns-in-Ok-Page
returns-in-Ok-Page g c =
    let here = rw c.in-Ok-Page.field-0-is at c.in-Ok-Page.ensures.asked in
    let ran = c.run_page.ensures in record {
      ends = λ asked. ends_asked _ _ asked _ _ _ _ _ _ here (record { never = ran.never; read = ran.read.1 });
      settings = λ is. absurd (ran.read.0 is);
      asks = c.in-Ok-Page.ensures.asks;
      understood = λ media types is. absurd (no_set _ _ _ _ _ media here (c.in-Ok-Page.ensures.asks media types));
      said = of_unit _ _ _ _ _ here tt;
    }

pub returns-in-Ok-Sdp : goal.returns-in-Ok-Sdp
returns-in-Ok-Sdp g c =
    let here = rw c.in-Ok-Sdp.field-0-is at c.in-Ok-Sdp.ensures.asked in
    let ran = c.run_sdp.ensures in record {
      ends = λ asked. ends_asked _ _ asked _ _ _ _ _ _ here (record { refused = ran.refused; settings = λ is. (ran.settings is).0 });
      settings = ran.settings;
      asks = c.in-Ok-Sdp.ensures.asks;
      understood = λ _ _. ran.understood;
      said = λ _. ran.said;
    }

pub returns-in-Ok-Settings : goal.returns-in-Ok-Settings
returns-in-Ok-Settings g c =
    let here = rw c.in-Ok-Settings.field-0-is at c.in-Ok-Settings.ensures.asked in
    let ran = c.run_settings.ensures in record {
      ends = λ asked. ends_asked _ _ asked _ _ _ _ _ _ here (record { done = ran.done; read = ran.understood.1 });
      settings = ran.settings;
      asks = c.in-Ok-Settings.ensures.asks;
      understood = λ _ _. ran.understood.0;
      said = λ _. ran.said;
    }
