use Rattle.std.proofs.Common.{sym, subst}
use Rattle.rate_cert.proofs.CheckerLemmas.{refuted}
use Rattle.tmmbr_c.specs.Verdict.{CanBeRead, IsUnreadRequest, IsUnreadKept, IsUnreadImplied}
use Rattle.tmmbr_c.proofs.CheckLemmas.{Unread, unread_request, unread_kept, unread_implied, read_refuses_none}
use Rattle.tmmbr_c.proofs.checking.tmmbr_check.Goals as goal

request_unread : (c : goal.After-unread-in-Err) → Unread c.args.asked.now c.args.kept.now c.args.implied.now c.unread-in-Err.result
request_unread c =
    unread_request c.args.asked.now c.args.kept.now c.args.implied.now c.unread-in-Err.result c.unread-in-Err.ensures.fault
    (subst (IsUnreadRequest c.args.asked.now c.args.kept.now c.args.implied.now) (sym c.unread-in-Err.ensures.place)
    (record { few = refuted c.has_too_many.result c.has_too_many.ensures c.if-has_too_many.false; first = c.in-Err.ensures.first }))

kept_unread : (c : goal.After-unread-in-Err-read_kept_entries)
    → Unread c.args.asked.now c.args.kept.now c.args.implied.now c.unread-in-Err-read_kept_entries.result
kept_unread c =
    unread_kept c.args.asked.now c.args.kept.now c.args.implied.now c.unread-in-Err-read_kept_entries.result
    c.unread-in-Err-read_kept_entries.ensures.fault
    (subst (IsUnreadKept c.args.asked.now c.args.kept.now c.args.implied.now) (sym c.unread-in-Err-read_kept_entries.ensures.place)
    (record {
      few = refuted c.has_too_many.result c.has_too_many.ensures c.if-has_too_many.false;
      requests = c.in-Ok.ensures.in_range;
      first = c.in-Err-read_kept_entries.ensures.first;
    }))

implied_unread : (c : goal.After-unread-in-Err-read_implied_entries)
    → Unread c.args.asked.now c.args.kept.now c.args.implied.now c.unread-in-Err-read_implied_entries.result
implied_unread c =
    unread_implied c.args.asked.now c.args.kept.now c.args.implied.now c.unread-in-Err-read_implied_entries.result
    c.unread-in-Err-read_implied_entries.ensures.fault
    (subst (IsUnreadImplied c.args.asked.now c.args.kept.now c.args.implied.now) (sym c.unread-in-Err-read_implied_entries.ensures.place)
    (record {
      few = refuted c.has_too_many.result c.has_too_many.ensures c.if-has_too_many.false;
      requests = c.in-Ok.ensures.in_range;
      kept_entries = c.in-Ok-read_kept_entries.ensures.in_range;
      first = c.in-Err-read_implied_entries.ensures.first;
    }))

pub returns-in-Err-clause-readable : goal.returns-in-Err-clause-readable
returns-in-Err-clause-readable c = (request_unread c).readable

pub returns-in-Err-clause-certified : goal.returns-in-Err-clause-certified
returns-in-Err-clause-certified c = (request_unread c).certified

pub returns-in-Err-clause-first_fault : goal.returns-in-Err-clause-first_fault
returns-in-Err-clause-first_fault c = (request_unread c).first_fault

pub returns-in-Err-clause-request_range : goal.returns-in-Err-clause-request_range
returns-in-Err-clause-request_range c = (request_unread c).request_range

pub returns-in-Err-clause-kept_range : goal.returns-in-Err-clause-kept_range
returns-in-Err-clause-kept_range c = (request_unread c).kept_range

pub returns-in-Err-clause-implied_range : goal.returns-in-Err-clause-implied_range
returns-in-Err-clause-implied_range c = (request_unread c).implied_range

pub returns-in-Err-read_kept_entries-clause-readable : goal.returns-in-Err-read_kept_entries-clause-readable
returns-in-Err-read_kept_entries-clause-readable c = (kept_unread c).readable

pub returns-in-Err-read_kept_entries-clause-certified : goal.returns-in-Err-read_kept_entries-clause-certified
returns-in-Err-read_kept_entries-clause-certified c = (kept_unread c).certified

pub returns-in-Err-read_kept_entries-clause-first_fault : goal.returns-in-Err-read_kept_entries-clause-first_fault
returns-in-Err-read_kept_entries-clause-first_fault c = (kept_unread c).first_fault

pub returns-in-Err-read_kept_entries-clause-request_range : goal.returns-in-Err-read_kept_entries-clause-request_range
returns-in-Err-read_kept_entries-clause-request_range c = (kept_unread c).request_range

pub returns-in-Err-read_kept_entries-clause-kept_range : goal.returns-in-Err-read_kept_entries-clause-kept_range
returns-in-Err-read_kept_entries-clause-kept_range c = (kept_unread c).kept_range

pub returns-in-Err-read_kept_entries-clause-implied_range : goal.returns-in-Err-read_kept_entries-clause-implied_range
returns-in-Err-read_kept_entries-clause-implied_range c = (kept_unread c).implied_range

pub returns-in-Err-read_implied_entries-clause-readable : goal.returns-in-Err-read_implied_entries-clause-readable
returns-in-Err-read_implied_entries-clause-readable c = (implied_unread c).readable

pub returns-in-Err-read_implied_entries-clause-certified : goal.returns-in-Err-read_implied_entries-clause-certified
returns-in-Err-read_implied_entries-clause-certified c = (implied_unread c).certified

pub returns-in-Err-read_implied_entries-clause-first_fault : goal.returns-in-Err-read_implied_entries-clause-first_fault
returns-in-Err-read_implied_entries-clause-first_fault c = (implied_unread c).first_fault

pub returns-in-Err-read_implied_entries-clause-request_range : goal.returns-in-Err-read_implied_entries-clause-request_range
returns-in-Err-read_implied_entries-clause-request_range c = (implied_unread c).request_range

pub returns-in-Err-read_implied_entries-clause-kept_range : goal.returns-in-Err-read_implied_entries-clause-kept_range
returns-in-Err-read_implied_entries-clause-kept_range c = (implied_unread c).kept_range

pub returns-in-Err-read_implied_entries-clause-implied_range : goal.returns-in-Err-read_implied_entries-clause-implied_range
returns-in-Err-read_implied_entries-clause-implied_range c = (implied_unread c).implied_range

readable : (c : goal.After-judge) → CanBeRead c.args.asked.now c.args.kept.now c.args.implied.now
readable c = record {
  few = refuted c.has_too_many.result c.has_too_many.ensures c.if-has_too_many.false;
  requests = c.in-Ok.ensures.in_range;
  kept_entries = c.in-Ok-read_kept_entries.ensures.in_range;
  implied_entries = c.in-Ok-read_implied_entries.ensures.in_range;
}

pub returns-clause-request_range : goal.returns-clause-request_range
returns-clause-request_range c =
    (read_refuses_none c.args.asked.now c.args.kept.now c.args.implied.now c.judge.result (readable c) c.judge.ensures.numbered).request_range

pub returns-clause-kept_range : goal.returns-clause-kept_range
returns-clause-kept_range c =
    (read_refuses_none c.args.asked.now c.args.kept.now c.args.implied.now c.judge.result (readable c) c.judge.ensures.numbered).kept_range

pub returns-clause-implied_range : goal.returns-clause-implied_range
returns-clause-implied_range c =
    (read_refuses_none c.args.asked.now c.args.kept.now c.args.implied.now c.judge.result (readable c) c.judge.ensures.numbered).implied_range
