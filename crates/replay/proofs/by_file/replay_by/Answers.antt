use Rattle.std.proofs.Common.{false, true}
use Rattle.std.proofs.KnownBytes.{Keeps-refl}
use Rattle.replay.proofs.ByFileLemmas.{others_by_file, played_by_file, refused_at, unread_by_file, whole_at}
use Rattle.replay.proofs.by_file.replay_by.Goals as goal

pub returns-in-Err-clause-ends : goal.returns-in-Err-clause-ends
returns-in-Err-clause-ends g c = λ text held. unread_by_file c.args.shown c.args.others c.in-Err.failure _ _ _ _ _ c.in-Err.ensures.outside c.report.ensures

pub returns-in-Ok-true-clause-ends : goal.returns-in-Ok-true-clause-ends
returns-in-Ok-true-clause-ends g c = λ text held.
    let script = c.as_slice-script.result.now in
    let whole = whole_at (g.I.Read.remaining c.args.reader.now) script c.in-Ok.script.items c.as_slice-script.ensures.value c.in-Ok.ensures.whole in
    let differs = refused_at c.args.others c.as_slice.result.now c.args.settings.now.digest script c.in-Ok-true.field-0 true c.as_slice.ensures
    c.in-Ok-true.ensures c.in-Ok-true.field-0-test in
    others_by_file c.args.settings.now c.args.shown c.args.others text script _ _ _ _ _ held whole differs (Keeps-refl _)
    c.say_others.ensures.understood.0 c.say_others.ensures.refused

pub returns-in-Ok-false-clause-ends : goal.returns-in-Ok-false-clause-ends
returns-in-Ok-false-clause-ends g c = λ text held.
    let script = c.as_slice-script.result.now in
    let whole = whole_at (g.I.Read.remaining c.args.reader.now) script c.in-Ok.script.items c.as_slice-script.ensures.value c.in-Ok.ensures.whole in
    let fits = refused_at c.args.others c.as_slice.result.now c.args.settings.now.digest script c.in-Ok-false.field-0 false c.as_slice.ensures
    c.in-Ok-false.ensures c.in-Ok-false.field-0-test in
    played_by_file c.args.settings.now c.args.shown c.args.others text script _ _ _ _ _ _ held whole fits c.replay_text.ensures
