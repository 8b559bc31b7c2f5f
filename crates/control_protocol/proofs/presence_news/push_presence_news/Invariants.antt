use Rattle.std.proofs.Common.{◌≡◌, ◌++◌, drop, string_bytes}
use Rattle.control_protocol.specs.PresenceNews.{presence_news}
use Rattle.control_protocol.proofs.presence_news.push_presence_news.Given as goal

abbrev pub invariant-loop-endpoint : goal.invariant-loop-endpoint
invariant-loop-endpoint l =
    string_bytes l.text ++ presence_news l.endpoint (drop l.endpoint l.before) (drop l.endpoint l.after)
    ≡ string_bytes l.fn.text ++ presence_news 0 l.before l.after
