use Rattle.std.proofs.Common.{◌∙◌, ap}
use Rattle.udp.specs.Policies.{ruling_of}
use Rattle.udp.proofs.hearing.Hearing.hear.Goals as goal

pub returns-clause-judged : goal.returns-clause-judged
returns-clause-judged c =
    let judged = c.judge-judged.ensures.judged in
    let lets = c.let_in-admitted.ensures.lets in
    record {
      read = c.read.new.self;
      left = c.judge-judged.new.kept;
      after = ruling_of c.welcome.new.self;
      between = ruling_of c.judge-judged.new.self;
      judged = c.judge-judged.result;
      reads = c.in_ok-read.ensures.from;
      welcomes = c.welcome.ensures.welcomes;
      judges = judged;
      lets = lets;
      bytes = ap (λ b. b.items) (lets.same.buffer ∙ judged.same.buffer ∙ c.in_ok-read.ensures.buffer);
    }
