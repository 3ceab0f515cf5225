-- How a run ended: the state before was that of a run too.
use Rattle.std.specs.Prelude.{◌≡◌, ◌⊎◌, ℕ, true, Some, None, List, ◌∷◌, ◌++◌, slice_get}
use Rattle.hh_lang.specs.Form.{ProgramText}
use Rattle.hh_model.specs.declared.data.End.{End}
use Rattle.hh_model.specs.declared.data.End.TheVariants.{Done}
use Rattle.hh_model.specs.declared.data.Task.{Task}
use Rattle.hh_model.specs.declared.data.MachineState.{MachineState}
use Rattle.hh_model.specs.Step.{ended_task, is_running, result_of, run, step, with_task}

-- the state without its end
abbrev pub unended : MachineState → MachineState
unended m = record m { end = None }

-- the root ended, and the run with it; nothing else has changed
pub record EndsDone (before : MachineState) (e : End) (m : MachineState) : Type 0 where
  pub done : e ≡ Done
  pub root : Task
  pub is : slice_get before.tasks 0 ≡ Some root
  pub running : is_running (Some root) ≡ true
  pub ended : unended m ≡ with_task before 0 (ended_task root (result_of root.top))

-- the steps of a run that ended: steps after which it went on, the one that ended it, and others that changed nothing.
-- The one that ended it either changed nothing but the end (a trap or a stopped read), or ended the root
pub record IsEnded (p : ProgramText) (limit : ℕ) (ts : List ℕ) (e : End) : Type 0 where
  pub before : List ℕ
  pub last : ℕ
  pub rest : List ℕ
  pub is : ts ≡ before ++ last ∷ rest
  pub going : (run p limit before).end ≡ None
  pub after : run p limit ts ≡ step p (run p limit before) last
  pub changes : (unended (run p limit ts) ≡ run p limit before) ⊎ EndsDone (run p limit before) e (run p limit ts)
