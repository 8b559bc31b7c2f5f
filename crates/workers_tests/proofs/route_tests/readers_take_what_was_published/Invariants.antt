use Rattle.workers_tests.proofs.route_tests.readers_take_what_was_published.Given as goal

-- the table that was just opened
abbrev pub ghosts-take_published : goal.ghosts-take_published
ghosts-take_published g a = record {
  book = a.blank.book;
  legs = a.blank.legs;
}
