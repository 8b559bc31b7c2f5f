use Rattle.std.proofs.Common.{List, [], Result, refl, sym, subst}
use Rattle.rtcp_compound.specs.Left.{contents_left}
use Rattle.rtcp_feedback.specs.declared.fault.FbFault.{FbFault}
use Rattle.datagram.specs.declared.survey.Survey.{Survey}
use Rattle.datagram.specs.declared.reading.Ask.{Ask}
use Rattle.datagram.specs.Reads.{IsListed, Surveys}
use Rattle.datagram.specs.Saying.{PacketsSay, control, speaker_of}
use Rattle.datagram.proofs.ReaderLemmas.{control_heard, control_said, not_true, some_listed}
use Rattle.datagram.proofs.reader.read_packets.Goals as goal

pub returns-then-not-survey-clause-heard : goal.returns-then-not-survey-clause-heard
returns-then-not-survey-clause-heard c =
    let own = c.args.own.0 in
    let survey = c.in-Ok.survey in
    let (g, say, is) = subst (λ (r : Result Survey FbFault). Surveys own (PacketsSay (contents_left c.args.packets)) r) c.in-Ok.is c.requires.surveyed in
    let lists : List Ask → Type 0 = λ asks. IsListed c.args.most asks c.args.reading.now in (
      g.asks,
      (
        control (speaker_of own g.senders) g.reports g.tmmbns g.asks,
        (g, say, control_said own survey g is c.if-survey.false),
        control_heard own survey g is,
        refl,
      ),
      subst lists (sym (is.asking (not_true survey.asking c.if-not-survey.true))) c.requires.listed,
    )

pub returns-in-Ok-collect-clause-heard : goal.returns-in-Ok-collect-clause-heard
returns-in-Ok-collect-clause-heard c =
    let own = c.args.own.0 in
    let survey = c.in-Ok.survey in
    let (g, say, is) = subst (λ (r : Result Survey FbFault). Surveys own (PacketsSay (contents_left c.args.packets)) r) c.in-Ok.is c.requires.surveyed in (
      g.asks,
      (
        control (speaker_of own g.senders) g.reports g.tmmbns g.asks,
        (g, say, control_said own survey g is c.if-survey.false),
        control_heard own survey g is,
        refl,
      ),
      c.in-Ok-collect.ensures g say [] c.requires.listed,
    )

pub returns-in-Err-collect-clause-heard : goal.returns-in-Err-collect-clause-heard
returns-in-Err-collect-clause-heard c =
    let own = c.args.own.0 in
    let survey = c.in-Ok.survey in
    let (g, say, is) = subst (λ (r : Result Survey FbFault). Surveys own (PacketsSay (contents_left c.args.packets)) r) c.in-Ok.is c.requires.surveyed in
    let wants = c.in-Err-collect.ensures g say in (
      control (speaker_of own g.senders) g.reports g.tmmbns g.asks,
      (g, say, control_said own survey g is c.if-survey.false),
      some_listed c.args.most g.asks wants.1 wants.0,
    )
