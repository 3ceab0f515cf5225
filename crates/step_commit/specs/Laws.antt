-- The laws of the two meanings of a part that fits.
use Rattle.std.specs.Prelude.{◌≡◌, ℕ, ◌+◌, ◌≤◌, None}
use Rattle.core_invariant.specs.below.run_ledger.{most_steps}
use Rattle.core_invariant.specs.below.task_machine.{Private, KeepsAccounts, KeepsRest, RunsSteps}
use Rattle.core_invariant.specs.SharedValue.{SharedValue, accounts}
use Rattle.core_invariant.specs.Stands.{IsSharedValue}
use Rattle.core_invariant.specs.WorkerPartFits.{WorkerPartFits}

-- before the run's end, in no leaf collection, it fits the shared value again after private steps, at most as many as
-- one entry holds
abbrev pub PartsFitAgain : Type 0
PartsFitAgain =
    (w : SharedValue) (k : ℕ) (p q : Private) (n : ℕ) → IsSharedValue w → WorkerPartFits w k p → (accounts w).end ≡ None → p.begun ≡ None → RunsSteps w.program p n q → KeepsAccounts w.program p n q → KeepsRest p q
    → p.fresh + n ≤ most_steps → WorkerPartFits w k q
