use Rattle.std.proofs.Common.{◌∙◌, ◌+◌, ◌++◌, List, ℕ, length, ap, ap₂, refl}
use Rattle.std.specs.List.{flat_map}
use Rattle.std.proofs.lemmas.List.{take_all}
use Rattle.rtcp_feedback.specs.declared.nack.Nack.{Nack}
use Rattle.rtcp_feedback.specs.Grammar.{nack_bytes}
use Rattle.rtcp_feedback.specs.Writing.{front_bytes}
use Rattle.rtcp_feedback.proofs.NackWriteLemmas.{nack_is}
use Rattle.rtcp_feedback.proofs.nack.write_nack.Goals as goal

pub returns-clause-written : goal.returns-clause-written
returns-clause-written g c =
    let entries = c.args.entries.now in
    let words = 2 + length entries in
    let all = take_all c.loop-entry.entry-index entries c.loop-entry-test.false in
    c.loop-entry.invariant.written
    ∙ ap₂ (λ (x : List ℕ) (y : List Nack). x ++ flat_map nack_bytes y)
    (c.put_front.ensures.items ∙ ap (λ (x : List ℕ). x ++ front_bytes 1 205 words c.args.sender.0 c.args.media.0) c.in_ok-reserve.ensures.items) all
    ∙ nack_is c.args.out.now.items words c.args.sender.0 c.args.media.0 entries refl
