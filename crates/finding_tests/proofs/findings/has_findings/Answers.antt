use Rattle.finding_tests.proofs.findings.has_findings.Goals as goal

pub find_uses-requires-clause-tasks : goal.find_uses-requires-clause-tasks
find_uses-requires-clause-tasks c = (c.requires.read.extent, c.requires.read.log)
