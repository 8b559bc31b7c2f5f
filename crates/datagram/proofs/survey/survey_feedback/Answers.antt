use Rattle.std.proofs.Common.{[], ◌∷◌, map, sym, subst, arith}
use Rattle.rtcp_feedback.specs.declared.feedback.Feedback.{Feedback}
use Rattle.rtcp_feedback.specs.Reading.{entries_left, message_of, nacks_left}
use Rattle.datagram.specs.declared.reading.Ask.TheVariants.{Rate, Resend, Picture}
use Rattle.datagram.specs.Reads.{IsSurveyOf}
use Rattle.datagram.specs.Saying.{gist_of}
use Rattle.datagram.proofs.survey.survey_feedback.Goals as goal

pub returns-in-Nack-clause-said : goal.returns-in-Nack-clause-said
returns-in-Nack-clause-said c =
    let says : Feedback → Type 0 = λ f. IsSurveyOf c.args.own.0 c.of_asking.result (gist_of (message_of f)) in
    subst says (sym c.in-Nack.is) (c.of_asking.ensures (map (λ n. Resend c.in-Nack.media n) (nacks_left c.in-Nack.entries)))

pub returns-in-Nack-clause-counted : goal.returns-in-Nack-clause-counted
returns-in-Nack-clause-counted c = let none = (c.of_asking.ensures []).tmmbns in omega arith

pub returns-in-Pli-clause-said : goal.returns-in-Pli-clause-said
returns-in-Pli-clause-said c =
    let says : Feedback → Type 0 = λ f. IsSurveyOf c.args.own.0 c.of_asking-in-Pli.result (gist_of (message_of f)) in
    subst says (sym c.in-Pli.is) (c.of_asking-in-Pli.ensures (Picture c.in-Pli.media ∷ []))

pub returns-in-Pli-clause-counted : goal.returns-in-Pli-clause-counted
returns-in-Pli-clause-counted c = let none = (c.of_asking-in-Pli.ensures []).tmmbns in omega arith

pub returns-in-Tmmbr-clause-said : goal.returns-in-Tmmbr-clause-said
returns-in-Tmmbr-clause-said c =
    let says : Feedback → Type 0 = λ f. IsSurveyOf c.args.own.0 c.of_asking-in-Tmmbr.result (gist_of (message_of f)) in
    subst says (sym c.in-Tmmbr.is) (c.of_asking-in-Tmmbr.ensures (map (λ e. Rate e.ssrc e.word) (entries_left c.in-Tmmbr.entries)))

pub returns-in-Tmmbr-clause-counted : goal.returns-in-Tmmbr-clause-counted
returns-in-Tmmbr-clause-counted c = let none = (c.of_asking-in-Tmmbr.ensures []).tmmbns in omega arith
