-- The machine as contracts see it.
use Rattle.std.specs.Prelude.{◌≡◌, ℕ, ◌+◌, ◌<◌, ◌^◌, List, Some, length, slice_get}
use Rattle.hh_lang.specs.Form.{ProgramText}
use Rattle.hh_model.specs.declared.data.Task.{Task}
use Rattle.hh_model.specs.declared.data.MachineState.{MachineState}
use Rattle.hh_model.specs.Effect.{row_of}
use Rattle.hh_model.specs.Step.{start, step, run, parents, sibling}
use Rattle.hh_model.specs.PathLaw.{PathIsPrecedenceIn}

-- the program, the state, and how many steps were taken
pub record MachineValue : Type 0 where
  pub program : ProgramText
  pub state : MachineState
  pub steps : ℕ

-- before the first step
abbrev pub begun : ProgramText → ℕ → MachineValue
begun p limit = record { program = p; state = start p limit; steps = 0 }

-- after one more step
abbrev pub advanced : MachineValue → ℕ → MachineValue
advanced g t = record g { state = step g.program g.state t; steps = g.steps + 1 }

-- the state is that of a run of as many steps: so every law of runs applies to it
abbrev pub IsOfRun : MachineValue → Type 0
IsOfRun g = (ts : List ℕ) × (length ts ≡ g.steps) × (g.state ≡ run g.program g.state.field_limit ts)

-- what the code needs of a state: it holds in every run of fewer than 2 ^ 30 steps
pub record IsSoundState (m : MachineState) : Type 0 where
  pub path : PathIsPrecedenceIn m
  pub above : (t p : ℕ) → parents m.tasks t ≡ Some p → p < t
  pub above_sibling : (t p : ℕ) → parents m.tasks t ≡ Some p → p < sibling t
  pub rows : length m.store ≡ length m.tasks
  pub few_tasks : length m.tasks + 1 < 2 ^ 32
  pub few_objects : (t : ℕ) → length (row_of (slice_get m.store t)) < 2 ^ 32
  pub few_joins : (t : ℕ) (x : Task) → slice_get m.tasks t ≡ Some x → x.joins + 1 < 2 ^ 32
