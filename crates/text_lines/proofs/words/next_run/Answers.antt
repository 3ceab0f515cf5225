use Rattle.std.proofs.Common.{sym, ◌∙◌}
use Rattle.text_lines.proofs.Runs.{run_first}
use Rattle.text_lines.proofs.words.next_run.Goals as goal

pub returns-then-end-gt0-clause-runs : goal.returns-then-end-gt0-clause-runs
returns-then-end-gt0-clause-runs c = rw c.behind.ensures (sym c.loop-rest.invariant.0 ∙ run_first c.loop-rest.rest.now c.run_end-end.result c.run_end-end.ensures.end c.run_end-end.ensures.within c.if-end-gt0.true)
