use Rattle.fork_graph.proofs.Common.{◌≡◌, ◌<◌, ◌≤◌, ◌^◌, ℕ, List, Some, length, slice_get, inl, inr, sym, subst, refl, ◌∙◌, arith, cases_lt, false≢true, same_Some, slice_get_within, GraphTurn}
use Rattle.fork_graph.proofs.Smallness.{too_many, too_long, all_short}
use Rattle.fork_graph.proofs.small.are_small.Goals as goal

pub returns-then-count-gt-NUMBERS : goal.returns-then-count-gt-NUMBERS
returns-then-count-gt-NUMBERS c = (λ is. absurd (false≢true is), λ s. absurd (too_many c.args.tasks.now (omega arith) s))

pub returns-then-len-ge-NUMBERS : goal.returns-then-len-ge-NUMBERS
returns-then-len-ge-NUMBERS c = (λ is. absurd (false≢true is), λ s. absurd (too_long c.args.tasks.now c.loop-task.task c.at-turns.result.now c.at-turns.ensures (omega arith) s))

pub loop-task-preserved : goal.loop-task-preserved
loop-task-preserved c = λ k row lt h.
    elim (cases_lt k c.loop-task.task) [
      | inl before ↦ c.loop-task.invariant k row before h
      | inr ge ↦
          let same : k ≡ c.loop-task.task = omega arith in
          let is : row ≡ c.at-turns.result.now = same_Some row c.at-turns.result.now (sym (subst (λ i. slice_get c.args.tasks.now i ≡ Some row) same h) ∙ c.at-turns.ensures) in
          subst (λ (r : List GraphTurn). length r < 2 ^ 32) (sym is) (omega arith)
    ]

pub returns : goal.returns
returns c = (
  λ is. all_short c.args.tasks.now (omega arith) (λ k row h.
      let lt : k < length c.args.tasks.now = slice_get_within c.args.tasks.now k row h in
      c.loop-task.invariant k row (omega arith) h),
  λ s. refl,
)
