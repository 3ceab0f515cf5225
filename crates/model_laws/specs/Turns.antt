-- Runs step by step.
use Rattle.std.specs.Prelude.{◌≡◌, ℕ, ◌+◌, true, Some, None, List, take, slice_get}
use Rattle.hh_lang.specs.Form.{ProgramText}
use Rattle.hh_model.specs.declared.data.MachineState.{MachineState}
use Rattle.hh_model.specs.Step.{can_step, run, step}

module _ (p : ProgramText) (limit : ℕ) (ts : List ℕ) where
  -- the machine after the first n steps of the list
  abbrev pub after : ℕ → MachineState
  after i = run p limit (take i ts)

  -- the task that takes the step after the first i, if it can take one
  pub record IsTurn (i t : ℕ) : Type 0 where
    pub task : slice_get ts i ≡ Some t
    pub can : can_step (after i) t ≡ true

  -- the step after the first i is that of the task whose number stands there; after the list there is none
  pub record GoesOn (i : ℕ) : Type 0 where
    pub next : (t : ℕ) → slice_get ts i ≡ Some t → after (i + 1) ≡ step p (after i) t
    pub past : slice_get ts i ≡ None → after (i + 1) ≡ after i
