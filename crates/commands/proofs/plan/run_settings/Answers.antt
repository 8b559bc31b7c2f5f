use Rattle.commands.proofs.plan.run_settings.Goals as goal

pub returns-in-Ok-clause-done : goal.returns-in-Ok-clause-done
returns-in-Ok-clause-done g c = λ is. record {
  settings = c.in-Ok.file.settings.settings;
  of_text = c.in-Ok.ensures;
  printed = c.print_plan.ensures.done is;
}
