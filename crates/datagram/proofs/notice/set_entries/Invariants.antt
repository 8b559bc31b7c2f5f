use Rattle.std.proofs.Common.{◌≡◌, ◌≤◌, List, ◌++◌, length, take, vec_capacity}
use Rattle.rtcp_feedback.specs.Reading.{entries_in}
use Rattle.rtcp_feedback.specs.declared.tmmb.TmmbrEntry.{TmmbrEntry}
use Rattle.datagram.proofs.notice.set_entries.Given as goal

abbrev pub invariant-loop-entry : goal.invariant-loop-entry
invariant-loop-entry l = (l.most ≤ vec_capacity l.entries)
    × ((done : List TmmbrEntry) × (l.entries.items ≡ take l.most done) × (entries_in l.bytes ≡ done ++ entries_in l.rest))

abbrev pub decreases-loop-entry : goal.decreases-loop-entry
decreases-loop-entry l = length l.rest
