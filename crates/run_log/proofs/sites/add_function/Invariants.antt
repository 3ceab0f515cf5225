use Rattle.run_log.proofs.Common.{◌≡◌, ◌++◌, take, flat_map, site_line}
use Rattle.run_log.proofs.sites.add_function.Given as goal

abbrev pub invariant-loop-line : goal.invariant-loop-line
invariant-loop-line l = l.text.items ≡ l.initial.text.items ++ flat_map (site_line l.function.name) (take l.line-index l.function.code)
