use Rattle.std.proofs.Common.{sym, subst}
use Rattle.routes.specs.Views.{ReaderView}
use mathlib.Core.List.{IsPrefix}
use Rattle.forwarding.proofs.PrefixLemmas.{prefix_trans}
use Rattle.forwarding.proofs.notifier.Notifier.ask_held.Goals as goal
use Rattle.forwarding.proofs.notifier.Notifier.ask_held.Goals.{in-Some, in-None}

pub returns-clause-known : goal.returns-clause-known
returns-clause-known g c = elim c.match-pending.branch [
  | in-Some w ↦ subst (λ (r : ReaderView). IsPrefix c.args.reader.now.known r.known) (sym w.reader-is) (
      prefix_trans c.args.reader.now.known c.learn.new.self.known w.tell_held.new.reader.known c.learn.ensures.old w.tell_held.ensures.known)
  | in-None w ↦ subst (λ (r : ReaderView). IsPrefix c.args.reader.now.known r.known) (sym w.reader-is) c.learn.ensures.old
]

pub returns-clause-note : goal.returns-clause-note
returns-clause-note g c = elim c.match-pending.branch [
  | in-Some w ↦ subst (λ (r : ReaderView). IsPrefix c.args.note r.known) (sym w.reader-is) (
      prefix_trans c.args.note c.learn.new.self.known w.tell_held.new.reader.known c.learn.ensures.note w.tell_held.ensures.known)
  | in-None w ↦ subst (λ (r : ReaderView). IsPrefix c.args.note r.known) (sym w.reader-is) c.learn.ensures.note
]
