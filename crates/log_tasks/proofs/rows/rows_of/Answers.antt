use Rattle.log_tasks.proofs.Common.{◌≡◌, ℕ, length, subst, arith, Fits-lt-pow, AreFirstRows}
use Rattle.log_tasks.proofs.ToldRows.{rows_small}
use Rattle.log_tasks.proofs.rows.rows_of.Goals as goal

pub returns-clause-small : goal.returns-clause-small
returns-clause-small c =
    let done = c.loop-task-test.false in
    let within = c.loop-task.auto.task-index-end in
    let end : c.loop-task.task-index ≡ length c.args.numbers.now = omega (arith, done, within) in
    rows_small c.args.told.now c.args.numbers.now c.loop-task.rows c.requires.numbers (λ k. Fits-lt-pow (c.type_inv.numbers k))
    (subst (λ (n : ℕ). AreFirstRows c.args.told.now c.args.numbers.now n c.loop-task.rows) end c.loop-task.invariant)
