-- Which next steps are a task's own.
use Rattle.std.specs.Prelude.{ℕ, ◌&&◌, not, Bool, false, Option, Some, None, slice_get}
use Rattle.hh_lang.specs.Form.{ProgramText}
use Rattle.hh_lang.specs.declared.program.Line.{Line}
use Rattle.hh_model.specs.declared.data.Task.{Task}
use Rattle.hh_model.specs.declared.data.MachineState.{MachineState}
use Rattle.hh_model.specs.Step.{fetched}
use Rattle.run_ledger.specs.Steps.{is_open, works_alone}

-- the next step of a running task is no output, no fork and no end of the task, and reads or writes no object of
-- another task, except that it may read an immutable object of an ancestor
abbrev pub is_own_line : MachineState → ℕ → Task → Option Line → Bool
is_own_line m t x None = false
is_own_line m t x (Some line) = not (is_open x line.instr) && works_alone m t x.top line.instr

abbrev pub is_own_by : ProgramText → MachineState → ℕ → Option Task → Bool
is_own_by p m t None = false
is_own_by p m t (Some x) = is_own_line m t x (fetched p x.top)

abbrev pub is_own : ProgramText → MachineState → ℕ → Bool
is_own p m t = is_own_by p m t (slice_get m.tasks t)
