-- A part that a worker holds fits a memory: with its belongings put into the memory, that stands for the accounts after
-- the part's fresh steps, in which its task rests.
use Rattle.std.specs.Prelude.{◌≡◌, ℕ, ◌≤◌, ◌==◌, Some, if◌then◌else◌}
use Rattle.refinement.specs.Common.{ProgramText, SettingsValue, field_limit, Ledger, heap_of, task_steps, most_steps, rested, ArePrivate, aside}
use Rattle.refinement.specs.Memory.{Belongings, Memory}
use Rattle.refinement.specs.MemoryStands.{MemoryStands}

-- what a worker holds: a task's belongings, how many steps the task took since the worker's last entry, and its limits:
-- the words after which a collection is due, and the most fields of an object
pub record Part : Type 0 where
  pub task : ℕ
  pub belongings : Belongings
  pub fresh : ℕ
  pub leaf : ℕ
  pub fields : ℕ

-- a part with the limits of the settings
abbrev pub part_for : SettingsValue → ℕ → Belongings → ℕ → Part
part_for s t h k = record { task = t; belongings = h; fresh = k; leaf = s.leaf; fields = field_limit s.version }

-- the memory with a task's belongings in it
abbrev pub with_belongings : Memory → ℕ → Belongings → Memory
with_belongings v t h = record v { belongings = λ u. if u == t then h else v.belongings u }

-- the accounts after the part's fresh steps, its task at rest
abbrev pub ahead : ProgramText → Part → Ledger → Ledger
ahead p q l = rested (task_steps p l q.task q.fresh) q.task

-- by the current accounts
pub record FitsAt (p : ProgramText) (s : SettingsValue) (q : Part) (v : Memory) (l : Ledger) : Type 0 where
  pub worker : ℕ
  pub out : (heap_of l q.task).worker ≡ Some worker
  -- at most as many as one entry holds
  pub few : q.fresh ≤ most_steps
  pub private : ArePrivate p s l q.task q.fresh
  pub stands : MemoryStands (with_belongings v q.task q.belongings) (ahead p q l)

-- after the run has ended a part of another task fits as before: its steps are those that the machine would take
abbrev pub FitsAfterRun : ProgramText → SettingsValue → Part → Memory → Ledger → Type 0
FitsAfterRun p s q v l = FitsAt p s q v (aside l)
