use Rattle.udp.proofs.ScribeLemmas.{takes_down}
use Rattle.udp.proofs.scribe.Scribe.note_taken.Goals as goal

pub returns-in-Ok : goal.returns-in-Ok
returns-in-Ok c = λ on heard.
    takes_down c.args.moment c.args.kept.now c.args.heard_ms c.args.recorder.now.tape c.note_heard.new.recorder.tape c.in-Ok.is_what_came c.if-kept.false
    (c.in-Ok.ensures heard) (λ is. c.note_heard.ensures.came is on) (λ is. c.note_heard.ensures.changed is on)
