use Rattle.std.proofs.Common.{List, length, Result, Ok, Err, inl, refl, sym, ap, subst, arith}
use Rattle.std.proofs.lemmas.Result.{err_from_is_err_and}
use Rattle.rtcp_compound.specs.Content.{Content}
use Rattle.rtcp_compound.specs.Left.{contents_left}
use Rattle.rtcp_feedback.specs.declared.fault.FbFault.{FbFault}
use Rattle.datagram.specs.Saying.{Gist, PacketsSay, joint_gist, empty_gist}
use Rattle.datagram.proofs.ReaderLemmas.{behind, behind_both, joined_nothing, say_more}
use Rattle.datagram.proofs.survey.survey_packets.Goals as goal

pub loop-packet-preserved : goal.loop-packet-preserved
loop-packet-preserved c =
    let before = c.loop-packet.invariant in
    let said = c.in_ok-survey_packet.ensures.said in
    let is = c.then-all.ensures.joined before.0 said.0 before.1 said.2 in
    let left = ap length c.in-Some.ensures.steps in
    let fits = before.2 in
    let old = before.1.tmmbns in
    let one = said.2.tmmbns in
    let few = c.in_ok-survey_packet.ensures.counted in
    let new = is.tmmbns in (
      joint_gist before.0 said.0,
      is,
      omega arith,
      λ r say.
          let all : Result Gist FbFault → Type 0 = λ x. PacketsSay (contents_left c.args.packets) x in
          let here : List Content → Type 0 = λ cs. PacketsSay cs (behind said.0 r) in
          subst all (behind_both before.0 said.0 r)
          (before.3 (behind said.0 r) (subst here (sym c.in-Some.ensures.steps) (say_more _ _ said.0 r said.1 say))),
    )

pub returns-in_err-survey_packet : goal.returns-in_err-survey_packet
returns-in_err-survey_packet c =
    let before = c.loop-packet.invariant in
    let fault = c.in_err-survey_packet.field-0.0 in
    let here : List Content → Type 0 = λ cs. PacketsSay cs (Err fault) in
    let p = err_from_is_err_and c.from_residual.result c.from_residual.ensures.1 in
    rw (p.1, p.2) (before.3 (Err fault) (subst here (sym c.in-Some.ensures.steps) (inl c.in_err-survey_packet.ensures.said)))

pub returns : goal.returns
returns c =
    let before = c.loop-packet.invariant in
    let all : Gist → Type 0 = λ g. PacketsSay (contents_left c.args.packets) (Ok g) in
    let here : List Content → Type 0 = λ cs. PacketsSay cs (Ok empty_gist) in
    (before.0, subst all (joined_nothing before.0) (before.3 (Ok empty_gist) (subst here (sym c.in-None.ensures.steps.0) refl)), before.1)
