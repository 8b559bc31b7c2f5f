use Rattle.http_server.specs.Response.{fields_of}
use Rattle.web.proofs.FieldLemmas.{two_more}
use Rattle.web.proofs.teller.push_guards.Goals as goal

pub returns-clause-fields : goal.returns-clause-fields
returns-clause-fields c =
    two_more c.add-2.result (fields_of c.args.response.now) (fields_of c.add.new.response) (fields_of c.add-2.new.response) _ _
    c.in_ok-add.ensures.fields c.add-2.ensures.fields
