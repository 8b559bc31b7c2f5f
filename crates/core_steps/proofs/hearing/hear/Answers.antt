use Rattle.std.proofs.Common.{ℕ, ap, subst}
use Rattle.datagram.specs.Reads.{Admission, admission_of, was_read}
use Rattle.datagram.proofs.ReaderLemmas.{read_whole}
use Rattle.core_steps.specs.Hearing.{IsHearing}
use Rattle.core_steps.specs.Machine.{alone}
use Rattle.core_steps.specs.TakingIn.{TakesIn}
use Rattle.core_steps.specs.World.{WorldState}
use Rattle.core_steps.proofs.HearingLeaves.{read_says}
use Rattle.core_steps.proofs.hearing.hear.Goals as goal

pub returns-clause-ok : goal.returns-clause-ok
returns-clause-ok c =
    subst (λ (e : ℕ). TakesIn c.args.front.now (λ (w : WorldState). IsHearing w c.args.moment e c.args.bytes.now) c.take.new.front
    c.args.outs.now.items c.take.new.outs.items c.take.result) (ap (λ (t : Admission). t.endpoint) c.taking.ensures)
    (c.take.ensures.ok c.args.bytes.now
    (read_says (alone c.args.front.now) c.own_source-own.result c.args.endpoint c.args.bytes.now (was_read c.read.new.reading)
    (admission_of c.taking.result) c.own_source-own.ensures
    (read_whole c.own_source-own.result.0 c.args.bytes.now c.read.new.reading c.in_ok-read.ensures.ok) c.taking.ensures))
