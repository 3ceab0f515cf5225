use Rattle.race_report.proofs.Common.{◌≡◌, ◌+◌, ◌≤◌, length, drop, tasks_of, Key, key_cmp, watched_from, seen_from}
use Rattle.std.specs.BTreeMap as tree
use Rattle.race_report.proofs.scan.take_entries.Given as goal

abbrev pub invariant-loop-entry : goal.invariant-loop-entry
invariant-loop-entry l = record {
  program : l.machine.program ≡ l.program;
  few : l.machine.steps + length (tasks_of (drop l.entry-index l.journal)) ≤ l.initial.machine.steps + length (tasks_of l.journal);
  kept : (q : Key) → watched_from q (tree.get key_cmp l.kept q) (seen_from l.sight l.program l.machine.state (tasks_of (drop l.entry-index l.journal))) ≡ watched_from q (tree.get key_cmp l.initial.kept q) (seen_from l.sight l.program l.initial.machine.state (tasks_of l.journal));
}
