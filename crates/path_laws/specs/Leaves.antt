-- What a step leaves unchanged of the other running tasks.
use Rattle.std.specs.Prelude.{◌≡◌, ◌↔◌, ℕ, true, None, List, slice_get}
use Rattle.path_laws.specs.Common.{ProgramText, Name, MachineState, object_at, can_step, owner_of, run, step, waiting}

-- the task u is unchanged, and so are the objects that it owns, and which these are
pub record LeavesOwner (m m' : MachineState) (u : ℕ) : Type 0 where
  pub task : slice_get m'.tasks u ≡ slice_get m.tasks u
  pub owned : (a : ℕ) → (owner_of m'.tasks a ≡ u) ↔ (owner_of m.tasks a ≡ u)
  pub objects : (n : Name) → owner_of m.tasks n.task ≡ u → object_at m'.store n ≡ object_at m.store n

-- a step makes no other task wait; if its own task waits afterwards, the machine goes on
pub record WaitsAlone (p : ProgramText) (m : MachineState) (t : ℕ) : Type 0 where
  pub others : (u : ℕ) → (u ≡ t → ⊥) → waiting (step p m t).tasks u ≡ true → waiting m.tasks u ≡ true
  pub own : can_step m t ≡ true → waiting (step p m t).tasks t ≡ true → (step p m t).end ≡ None
