use Rattle.std.proofs.Common.{◌∙◌, ◌+◌, ◌*◌, ◌++◌, ℕ, List, length, ap, ap₂, refl}
use Rattle.std.specs.List.{flat_map}
use Rattle.std.proofs.lemmas.List.{take_all}
use Rattle.rtcp_feedback.specs.declared.tmmb.TmmbrEntry.{TmmbrEntry}
use Rattle.rtcp_feedback.specs.Grammar.{entry_bytes}
use Rattle.rtcp_feedback.specs.Writing.{front_bytes}
use Rattle.rtcp_feedback.proofs.WriteLemmas.{packet_is}
use Rattle.rtcp_feedback.proofs.tmmb.write_entries.Goals as goal

pub returns-clause-written : goal.returns-clause-written
returns-clause-written g c =
    let entries = c.args.entries.now in
    let words = 2 + 2 * length entries in
    let all = take_all c.loop-entry.entry-index entries c.loop-entry-test.false in
    c.loop-entry.invariant.written
    ∙ ap₂ (λ (x : List ℕ) (y : List TmmbrEntry). x ++ flat_map entry_bytes y)
    (c.put_front.ensures.items ∙ ap (λ (x : List ℕ). x ++ front_bytes c.args.fmt 205 words c.args.sender.0 0) c.in_ok-reserve.ensures.items) all
    ∙ packet_is c.args.out.now.items c.args.fmt words c.args.sender.0 entries refl
