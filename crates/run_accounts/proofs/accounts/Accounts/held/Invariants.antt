use Rattle.run_accounts.proofs.Common.{◌≡◌, ◌+◌, drop, length, words_sum, held_not_running_from, held_not_running}
use Rattle.run_accounts.proofs.accounts.Accounts.held.Given as goal

abbrev pub invariant-loop-task : goal.invariant-loop-task
invariant-loop-task l = record {
  objects : l.held.objects + length (held_not_running_from l.self.ledger.machine.tasks (drop l.task l.heap-items) l.task) ≡ length (held_not_running l.self.ledger);
  words : l.held.words + words_sum l.self.ledger.machine (held_not_running_from l.self.ledger.machine.tasks (drop l.task l.heap-items) l.task) ≡ words_sum l.self.ledger.machine (held_not_running l.self.ledger);
}
