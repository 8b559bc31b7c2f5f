use Rattle.desk.proofs.desk.Desk.request.Goals as goal

pub returns : goal.returns
returns c = c.reply.ensures
