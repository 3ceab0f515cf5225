use Rattle.finding_tests.proofs.findings.is_right.Goals as goal

pub new-requires-clause-small : goal.new-requires-clause-small
new-requires-clause-small c = c.requires.nested.small

pub new-requires-clause-some : goal.new-requires-clause-some
new-requires-clause-some c = c.requires.nested.some

pub new-requires-clause-nested : goal.new-requires-clause-nested
new-requires-clause-nested c = c.requires.nested.nested

pub new-requires-clause-below : goal.new-requires-clause-below
new-requires-clause-below c = c.requires.nested.below
