-- What a worker does from round to round.
use Rattle.std.specs.Prelude.{◌≡◌, ℕ, zero, suc, List, Some, slice_get}
use Rattle.worker_run.specs.Common.{ProgramText, SharedValue, Next, Idle, Stop, Ready}
use Rattle.worker_run.specs.declared.worker_state.WorkerState.{WorkerState}
use Rattle.worker_run.specs.WorkerStates.{ChangesHand, TakesTurn}
use Rattle.worker_run.specs.Tasks.{Prepares}

-- whoever keeps the shared value
module _ {P : Type 0} (value : P → SharedValue) where
  -- ONE ROUND of a worker that goes on with this: it prepares what it brings, and takes a turn
  pub record MakesRound (p : ProgramText) (old : WorkerState P) (next : Next) (new : WorkerState P) (after : Next) : Type 0 where
    pub ready : Ready
    pub between : WorkerState P
    pub changes : ChangesHand old between
    pub prepares : Prepares p old.worker next old.hand between.hand ready
    pub turn : TakesTurn value between new ready after

  -- n rounds, one after the other
  abbrev pub Rounds : ℕ → ProgramText → WorkerState P → Next → WorkerState P → Next → Type 0
  Rounds zero p old next new after = (new ≡ old) × (after ≡ next)
  Rounds (suc n) p old next new after = (last : WorkerState P) × (on : Next) × Rounds n p old next last on × MakesRound p last on new after

  -- some rounds
  abbrev pub GoesRound : ProgramText → WorkerState P → Next → WorkerState P → Next → Type 0
  GoesRound p old next new after = (n : ℕ) × Rounds n p old next new after

  -- each worker began by looking for a task, and went round until a turn made it stop
  abbrev pub AllGoRound : ProgramText → List (WorkerState P) → List (WorkerState P) → Type 0
  AllGoRound p before after = (k : ℕ) (d e : WorkerState P) → slice_get before k ≡ Some d → slice_get after k ≡ Some e → GoesRound p d Idle e Stop
