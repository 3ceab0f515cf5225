-- The states of the workers.
use Rattle.std.specs.Prelude.{◌≡◌, ◌⊎◌, ℕ, ◌^◌, ◌<◌, ◌≤◌, true, List, [], ◌∷◌, ◌++◌, Some, length, map, slice_get}
use Rattle.worker_run.specs.Common.{TableId, ProgramText, EntryValue, Kind, SettingsValue, IsSharedValue, SharedValue, NoneBy, entries_by, view, own_entries, AreAllSeats, HasNoTurn, HasTurn, Knows, SameWorker, Hand, thefts, Entered, Same, Next, Ready, Run, Acts, journal_of, setup_of, worker_of, is_over, EntersOne, FitsSnapshot}
use Rattle.worker_run.specs.declared.worker_state.WorkerState.{WorkerState}
use Rattle.worker_run.specs.Tasks.{HaveRoot}

-- whoever keeps the shared value
module _ {P : Type 0} where
  -- the entries of its own that the worker's seat has seen
  abbrev pub entries_of : WorkerState P → List EntryValue
  entries_of d = own_entries worker_of (view d.seat)

  -- a worker state without the turn, while a run of this program goes on; it counts the entries that it gave back
  pub record IsWorkerState (z : TableId) (p : ProgramText) (d : WorkerState P) : Type 0 where
    pub idle : HasNoTurn z d.seat
    pub number : (view d.seat).worker ≡ d.worker
    pub under : (view d.seat).setup ≡ Some (record { program = p; settings = d.settings })
    pub below : d.worker < d.settings.workers
    pub few : d.settings.workers < 2 ^ 32
    pub gave : d.given ≡ length (entries_of d)
    pub thieves : length (thefts d.hand) ≡ d.settings.workers

  -- the same worker's state
  pub record SameWorkerState (old new : WorkerState P) : Type 0 where
    pub worker : new.worker ≡ old.worker
    pub settings : new.settings ≡ old.settings
    pub seat : SameWorker (view old.seat) (view new.seat)

  -- the worker gave back one entry
  abbrev pub GivesOne : WorkerState P → WorkerState P → Type 0
  GivesOne old new = (e : EntryValue) × (entries_of new ≡ entries_of old ++ e ∷ [])

  -- a turn changes only the seat and the count of a worker state
  abbrev pub KeepsPlace : WorkerState P → WorkerState P → Type 0
  KeepsPlace old new = new ≡ record old { seat = new.seat; given = new.given }

  -- the states of all workers with these settings, one for each, in order
  pub record AreAllWorkerStates (z : TableId) (p : ProgramText) (s : SettingsValue) (worker_states : List (WorkerState P)) : Type 0 where
    pub count : length worker_states ≡ s.workers
    pub seats : AreAllSeats z (map (λ d. d.seat) worker_states)
    pub each_worker_state : (k : ℕ) (d : WorkerState P) → slice_get worker_states k ≡ Some d → IsWorkerState z p d × (d.worker ≡ k) × (d.settings ≡ s)

  -- for each worker the journal has exactly the entries that it gave back, each once
  abbrev pub HasOfEach : List EntryValue → List (WorkerState P) → Type 0
  HasOfEach journal worker_states = (k : ℕ) (d : WorkerState P) → slice_get worker_states k ≡ Some d → (entries_by worker_of k journal ≡ entries_of d) × (d.given ≡ length (entries_by worker_of k journal))

  -- the seat of each worker has seen all its entries, and some seat has seen the whole journal
  pub record HaveSeen (journal : List EntryValue) (worker_states : List (WorkerState P)) : Type 0 where
    pub begins : (k : ℕ) (d : WorkerState P) → slice_get worker_states k ≡ Some d → (rest : List EntryValue) × (journal ≡ (view d.seat).seen ++ rest) × NoneBy worker_of k rest
    pub whole : (k : ℕ) × (d : WorkerState P) × (slice_get worker_states k ≡ Some d) × ((view d.seat).seen ≡ journal)

  -- the worker has put a task, or looked for one, or done neither
  pub record ChangesHand (old new : WorkerState P) : Type 0 where
    pub rest : new ≡ record old { hand = new.hand; signals = new.signals }
    pub thieves : length (thefts new.hand) ≡ length (thefts old.hand)

  abbrev pub FewThefts : WorkerState P → Type 0
  FewThefts d = length (thefts d.hand) < 2 ^ 32

  -- a state for each worker with these settings, in order; nothing was given back yet
  abbrev pub AreNewWorkerStates : SettingsValue → List (WorkerState P) → Type 0
  AreNewWorkerStates s worker_states = (k : ℕ) (d : WorkerState P) → slice_get worker_states k ≡ Some d → (d.worker ≡ k) × (d.settings ≡ s) × (d.given ≡ 0) × (length (thefts d.hand) ≡ s.workers)

  -- the worker states as a run begins
  pub record AreOpened (s : SettingsValue) (worker_states : List (WorkerState P)) : Type 0 where
    pub new : AreNewWorkerStates s worker_states
    pub hands : HaveRoot s.workers (map (λ d. d.hand) worker_states)

-- a hand for each of n workers, which can steal from each deque
abbrev pub AreHands : ℕ → List Hand → Type 0
AreHands n hands = (length hands ≡ n) × ((k : ℕ) (h : Hand) → slice_get hands k ≡ Some h → length (thefts h) ≡ n)

-- ---- IN TERMS OF THE KEPT VALUE

module _ {P : Type 0} (value : P → SharedValue) where
  -- the worker gave back this value last, and has seen its journal
  pub record HasGiven (d : WorkerState P) (run : Run P) : Type 0 where
    pub given : (view d.seat).given ≡ Some run
    pub seen : (view d.seat).seen ≡ journal_of value run

  -- the worker did as its turn requires for the value that it took: it gave back one entry or none
  abbrev pub DoesOnce : WorkerState P → WorkerState P → Run P → Run P → Ready → Next → Type 0
  DoesOnce old new taken given ready next =
      (Acts (value taken.paced) (value given.paced) old.worker ready (Entered next) × GivesOne old new) ⊎ (Acts (value taken.paced) (value given.paced) old.worker ready (Same next) × (entries_of new ≡ entries_of old))

  -- ONE TURN of a worker that brings this and goes on in this way
  pub record TakesTurn (old new : WorkerState P) (ready : Ready) (next : Next) : Type 0 where
    pub place : KeepsPlace old new
    pub taken : Run P
    pub knows : Knows (journal_of value) worker_of (FitsSnapshot value) (setup_of value) taken (view old.seat)
    pub given : Run P
    pub gave : HasGiven new given
    pub does : DoesOnce old new taken given ready next

  -- the run was over at the value that the worker gave back last
  pub record HasStopped (d : WorkerState P) : Type 0 where
    pub last : Run P
    pub gave : HasGiven d last
    pub over : is_over (value last.paced) ≡ true

  abbrev pub HaveStopped : List (WorkerState P) → Type 0
  HaveStopped worker_states = (k : ℕ) (d : WorkerState P) → slice_get worker_states k ≡ Some d → HasStopped d

  -- the worker has the turn, and the value to give back has one more entry than the one taken, which the worker doesn't
  -- count yet
  pub record HasEntry (z : TableId) (d : WorkerState P) (run : Run P) : Type 0 where
    pub taken : Run P
    pub turn : HasTurn z d.seat taken
    pub number : (view d.seat).worker ≡ d.worker
    pub under : (view d.seat).setup ≡ Some (record { program = (value run.paced).program; settings = d.settings })
    pub below : d.worker < d.settings.workers
    pub few : d.settings.workers < 2 ^ 32
    pub gave : d.given ≡ length (entries_of d)
    pub thieves : length (thefts d.hand) ≡ d.settings.workers
    pub kind : Kind
    pub enters : EntersOne (value taken.paced) (value run.paced) d.worker kind
    pub shared : IsSharedValue (value run.paced)
    pub within : length (entries_of d) ≤ length (value taken.paced).journal.items
