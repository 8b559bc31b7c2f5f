use Rattle.std.proofs.Common.{◌≡◌, sym, ap, ◌∙◌, length, None}
use Rattle.desk.specs.Presence.{refusal_of}
use Rattle.desk.specs.Trace.{present_unless}
use Rattle.desk.specs.Call.{moment_after}
use Rattle.desk.specs.Standing.{count_by}
use Rattle.desk.proofs.PresenceLemmas.{length-by}
use Rattle.desk.proofs.base.Base.count_behind.Goals as goal

pub returns-in-None-clause-count : goal.returns-in-None-clause-count
returns-in-None-clause-count c request_ms =
    let base = c.args.self.now in
    let call = c.args.call.now in
    let present = base.present.items in
    let accepted : refusal_of present call ≡ None = sym c.refusal.ensures ∙ c.in-None.is in
    c.count_by.ensures
    ∙ ap (count_by call) c.len-count.ensures.value
    ∙ sym (length-by request_ms (moment_after base.greatest call) present call c.requires.base.rising c.requires.base.stays c.requires.stays accepted)
    ∙ sym (ap (λ o. length (present_unless request_ms base call o)) accepted)
