use Rattle.std.proofs.Common.{◌∙◌, ◌++◌, ◌∷◌, [], sym, ap, subst}
use Rattle.circular_buffer.specs.Buffer.{keep_last}
use Rattle.desk.specs.declared.base.Base.{Base}
use Rattle.desk.specs.Trace.{IsBase}
use Rattle.desk.specs.History.{StandsForEntries}
use Rattle.desk.proofs.TraceLemmas.{IsBase-with}
use Rattle.desk.proofs.DeskLemmas.{stands-folded, first-out_is}
use Rattle.desk.proofs.history.list.Goals as goal

pub take_in-requires : goal.take_in-requires
take_in-requires c = record {
  base = c.requires.base;
  follows = c.requires.follows c.in-Some.oldest
      (first-out_is c.args.history.now.capacity c.args.history.now.items c.args.entry c.in-Some.oldest (sym c.push_back.ensures.value ∙ c.in-Some.is));
  room = c.requires.room;
}

pub returns-in-Some-clause-stands : goal.returns-in-Some-clause-stands
returns-in-Some-clause-stands c =
    let history = c.args.history.now in
    let entries = history.items ++ c.args.entry ∷ [] in
    subst (StandsForEntries c.args.request_ms c.args.base.now entries c.take_in.new.self) (sym (ap (λ b. b.items) c.push_back.ensures.items))
    (subst (λ (b : Base). StandsForEntries c.args.request_ms c.args.base.now entries b (keep_last history.capacity entries)) (sym c.take_in.ensures)
    (stands-folded c.args.request_ms c.args.base.now history.items c.args.entry c.in-Some.oldest history.capacity c.requires.capacity c.requires.listed
    (sym c.push_back.ensures.value ∙ c.in-Some.is)))

pub returns-in-Some-clause-base : goal.returns-in-Some-clause-base
returns-in-Some-clause-base c =
    subst IsBase (sym c.take_in.ensures)
    (IsBase-with c.args.request_ms c.args.base.now c.in-Some.oldest c.requires.base
    (c.requires.follows c.in-Some.oldest
    (first-out_is c.args.history.now.capacity c.args.history.now.items c.args.entry c.in-Some.oldest (sym c.push_back.ensures.value ∙ c.in-Some.is))))
