use Rattle.run_log.proofs.Common.{◌≡◌, ◌++◌, take, flat_map, function_sites}
use Rattle.run_log.proofs.sites.add_sites.Given as goal

abbrev pub invariant-loop-function : goal.invariant-loop-function
invariant-loop-function l = l.text.items ≡ l.initial.text.items ++ flat_map function_sites (take l.function-index l.program.functions)
