use Rattle.std.proofs.Common.{inl, inr, sym}
use Rattle.std.proofs.KnownBytes.{Keeps-refl}
use Rattle.replay.proofs.by_file.run_replay.Goals as goal

pub returns-in-Some-clause-ends : goal.returns-in-Some-clause-ends
returns-in-Some-clause-ends g c = record {
  done = λ is. absurd (c.say_unknown.ensures.understood.0 is);
  refused = λ is. inl (record {
    file = c.in-Ok.ensures.0;
    settings = c.in-Ok.settings.file;
    gives = c.in-Ok.ensures.1.gives;
    whom = c.in-Some.unknown;
    lacks = sym c.in-Some.ensures;
    kept = Keeps-refl _;
    said = c.say_unknown.ensures.refused is;
  });
}

pub returns-in-Ok-clause-ends : goal.returns-in-Ok-clause-ends
returns-in-Ok-clause-ends g c = c.replay_by.ensures.ends c.in-Ok.ensures.0 c.in-Ok.ensures.1
