-- What a run by workers leaves.
use Rattle.std.specs.Prelude.{◌≡◌, List, true}
use Rattle.worker_run.specs.Common.{TableId, ProgramText, EntryValue, SettingsValue, is_legal, is_paced, IsSharedValue, SharedValue}
use Rattle.worker_run.specs.declared.worker_state.WorkerState.{WorkerState}
use Rattle.worker_run.specs.WorkerStates.{AreAllWorkerStates, AreOpened, HasOfEach, HaveSeen, HaveStopped}
use Rattle.worker_run.specs.Rounds.{AllGoRound}

-- a run of this program with these settings: it stands for its journal, which is legal and paced
pub record IsRunOf (p : ProgramText) (s : SettingsValue) (w : SharedValue) : Type 0 where
  pub program : w.program ≡ p
  pub settings : w.settings ≡ s
  pub legal : is_legal p s w.journal.items ≡ true
  pub paced : is_paced p s w.journal.items ≡ true
  pub stands : IsSharedValue w

-- WHAT THE WORKERS GAVE BACK: at one turn each worker of a run of this program with these settings had a state, and the
-- first had put the root; each went round until the run was over; for each the journal has exactly the entries that it
-- gave back, each once
pub record WasGivenBack {P : Type 0} (value : P → SharedValue) (p : ProgramText) (s : SettingsValue) (journal : List EntryValue) : Type 0 where
  pub turn : TableId
  pub first : List (WorkerState P)
  pub all_first : AreAllWorkerStates turn p s first
  pub opened : AreOpened s first
  pub worker_states : List (WorkerState P)
  pub all : AreAllWorkerStates turn p s worker_states
  pub rounds : AllGoRound value p first worker_states
  pub stopped : HaveStopped value worker_states
  pub seen : HaveSeen journal worker_states
  pub of_each : HasOfEach journal worker_states
