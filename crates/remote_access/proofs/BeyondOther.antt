-- A step that `ran_alone` doesn't handle, and that neither forks nor returns, works on an object of another task.
use Rattle.remote_access.proofs.Common.{◌≡◌, ℕ, ◌||◌, Bool, true, false, Some, None, refl, ap, ap₂, sym, ◌∙◌, MachineState, Task, task_steps, Private, SharedValue, accounts, IsSharedValue, WorkerPartFits, IsShared}
use Rattle.step_commit.proofs.below.core_invariant.PartFitsMachine as link
use Rattle.remote_access.proofs.ForeignObject.{x}

right_of : (a b : Bool) → a ≡ false → (a || b) ≡ true → b ≡ true
right_of true b e h = absurd cc
right_of false b e h = h

module _ (w : SharedValue) (k : ℕ) (p : Private) (I : IsSharedValue w) (F : WorkerPartFits w k p) (shared : IsShared w p) (on : (accounts w).end ≡ None) where
  abbrev t : ℕ
  t = p.task

  abbrev m : MachineState
  m = (task_steps w.program (accounts w) t p.fresh).machine

  abbrev X : Task
  X = x w k p I F on
