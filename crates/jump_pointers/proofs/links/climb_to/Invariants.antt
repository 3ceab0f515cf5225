use Rattle.jump_pointers.proofs.links.climb_to.Given as goal

abbrev pub ghosts-climb_from : goal.ghosts-climb_from
ghosts-climb_from g a = record { name = a.blank.name; parts = a.blank.parts }
