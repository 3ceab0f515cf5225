use Rattle.log_told.proofs.Common.{◌≡◌, ◌++◌, take, flat_map, lines_of_finding}
use Rattle.log_told.proofs.lines.add_findings.Given as goal

abbrev pub invariant-loop-finding : goal.invariant-loop-finding
invariant-loop-finding l = l.lines.items ≡ l.initial.lines.items ++ flat_map lines_of_finding (take l.finding-index l.findings)
