-- An entry of a part's fresh steps and the last return of a task that isn't the root.
use Rattle.std.specs.Prelude.{◌≡◌, ◌≤◌, ℕ, ◌&&◌, Bool, true, false, Option, Some, None, List, is_some, slice_get, if◌then◌else◌}
use Rattle.fork_join_commit.specs.Common.{Instr, Ret, Line, ProgramText, Task, fetched, is_running, parents, private_limit, has_no_caller, Private, SharedValue, accounts, OthersFit, Enters, alone_entry, machine_after}

-- ---- WHEN IT COMES

abbrev pub is_last_return : Task → Instr → Bool
is_last_return x Ret = has_no_caller x.below && is_some x.parent
is_last_return x _ = false

abbrev pub is_last_line : Task → Option Line → Bool
is_last_line x None = false
is_last_line x (Some line) = is_last_return x line.instr

abbrev pub is_last_by : ProgramText → Option Task → Bool
is_last_by p None = false
is_last_by p (Some x) = is_last_line x (fetched p x.top)

-- the part's next step is the last return of its task, which isn't the root, and fits in one entry with its fresh ones
pub record IsAtEnd (w : SharedValue) (p : Private) : Type 0 where
  pub ends : is_last_by w.program (slice_get (machine_after w p).tasks p.task) ≡ true
  pub few : p.fresh ≤ private_limit

-- ---- THE RESULT OF A CALL

abbrev pub where_running : List Task → Option ℕ → Option ℕ
where_running tasks None = None
where_running tasks (Some parent) = if is_running (slice_get tasks parent) then Some parent else None

-- a task's parent, if that runs
abbrev pub running_parent : List Task → ℕ → Option ℕ
running_parent tasks t = where_running tasks (parents tasks t)

-- the run goes on, and the result is the parent of the task if and only if that runs again, since both its children
-- have ended
pub record EndsChild (w after : SharedValue) (k : ℕ) (p : Private) (answer : Option ℕ) : Type 0 where
  pub enters : Enters w after (alone_entry k p)
  pub goes : (accounts after).end ≡ None
  pub resumed : answer ≡ running_parent (accounts after).machine.tasks p.task
  pub others : OthersFit w after k
