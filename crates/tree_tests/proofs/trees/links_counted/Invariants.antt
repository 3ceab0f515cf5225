use Rattle.tree_tests.proofs.trees.links_counted.Given as goal

abbrev pub ghosts-path_counted : goal.ghosts-path_counted
ghosts-path_counted a = record { name = a.blank.name; parts = a.blank.parts }
