use Rattle.run_trace.proofs.Common.{◌≡◌, ◌++◌, take, flat_map, entry_line, version_line}
use Rattle.run_trace.proofs.trace.trace_text.Given as goal

abbrev pub invariant-loop-entry : goal.invariant-loop-entry
invariant-loop-entry l = l.text.items ≡ version_line l.fn.version ++ flat_map entry_line (take l.entry-index l.journal)
