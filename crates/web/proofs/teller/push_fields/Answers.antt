use Rattle.std.proofs.Common.{◌≡◌, ◌∙◌, ◌++◌, List, ap, append_assoc, subst}
use Rattle.std.specs.Prelude.{OnOk}
use Rattle.http1.specs.Fields.{Header}
use Rattle.http_server.specs.Response.{fields_of}
use Rattle.web.specs.Told.{guard_fields, handling_fields, kind_fields, policy_for}
use Rattle.web.proofs.FieldLemmas.{two_more}
use Rattle.web.proofs.teller.push_fields.Goals as goal

pub returns-clause-fields : goal.returns-clause-fields
returns-clause-fields c =
    two_more c.push_guards.result (fields_of c.args.response.now) (fields_of c.push_handling.new.response) (fields_of c.push_guards.new.response)
    _ (guard_fields (policy_for c.args.kind))
    (c.in_ok-push_handling.ensures.fields ∙ ap (λ (l : List Header). l ++ handling_fields) (c.in_ok-push_kind.ensures.fields ∙ ap (λ t. fields_of c.args.response.now ++ kind_fields t) c.kind_text.ensures.text) ∙ append_assoc (fields_of c.args.response.now) _ handling_fields)
    (subst (λ t. OnOk c.push_guards.result (fields_of c.push_guards.new.response ≡ fields_of c.push_handling.new.response ++ guard_fields t)) c.policy_for.ensures.text c.push_guards.ensures.fields)
