use Rattle.std.proofs.Common.{refl}
use Rattle.request_text.proofs.LiveLemmas.{takes_request, refuses_request}
use Rattle.request_text.proofs.bound.take_request.Goals as goal

pub returns-in-Ok : goal.returns-in-Ok
returns-in-Ok c = λ live are.
    let set = c.in-Ok.ensures in
    takes_request live c.args.bounds.now.rows c.set.new.self.rows c.args.owner.0 c.args.word c.from_word.result are
    set.put c.from_word.ensures.spelled set.rising set.grows set.within

pub returns-in-Err : goal.returns-in-Err
returns-in-Err c = λ live are.
    let full = c.in-Err.ensures.full.0 refl in
    refuses_request live c.args.bounds.now.rows c.args.owner.0 c.args.word are full.0 full.1
