-- The pace in words: the journal's entries determine the record of each worker, and a journal is paced if it keeps
-- three rules.
use Rattle.std.specs.Prelude.{◌≡◌, ◌↔◌, ◌⊎◌, ◌==◌, ◌≤◌, ℕ, true, false, Option, Some, None, List, [], ◌∷◌, ◌++◌, slice_get, if◌then◌else◌}
use Rattle.journal_laws.specs.Common.{In, Kind, Ran, Mark, More, Sweep, EntryValue, SettingsValue, ProgramText, Strand, Task, waits, Ledger, Previous, Other, Forked, WorkerPace, heap_of, left_in, words_in, after, is_fuel, is_legal, ledger_of, opening, fork_of, is_paced, marked_at_once}
use Rattle.run_ledger.specs.declared.data.Previous.TheVariants.{Ran as RanBefore}

-- A WORKER'S PREVIOUS ENTRY

-- none of these entries is by the worker
abbrev pub NoEntryBy : ℕ → List EntryValue → Type 0
NoEntryBy w es = (e : EntryValue) → In es e → e.worker ≡ w → ⊥

-- the worker's last entry in the journal is of this kind; up to this entry, inclusive, the journal is `upto`
pub record IsLastBy (w : ℕ) (journal upto : List EntryValue) (kind : Kind) : Type 0 where
  pub before : List EntryValue
  pub entry : EntryValue
  pub rest : List EntryValue
  pub upto_is : upto ≡ before ++ entry ∷ []
  pub is : journal ≡ upto ++ rest
  pub its : entry.worker ≡ w
  pub says : entry.kind ≡ kind
  pub last : NoEntryBy w rest

-- by these accounts a task waits on this fork
abbrev pub WaitsOn : Ledger → Strand → Type 0
WaitsOn l fork = (x : Task) × (slice_get l.machine.tasks fork.task ≡ Some x) × (waits x.status ≡ true) × (x.joins ≡ fork.joins)

-- the record of a worker's previous entry: none or no steps; steps of a task that waits on no fork after them; or steps
-- of a task that waits on this fork after them
abbrev pub IsPrevious : ProgramText → SettingsValue → ℕ → List EntryValue → Previous → Type 0
IsPrevious p s w journal Other = NoEntryBy w journal ⊎ ((upto : List EntryValue) × (kind : Kind) × IsLastBy w journal upto kind × ((t k : ℕ) → kind ≡ Ran t k → ⊥))
IsPrevious p s w journal RanBefore =
    (upto : List EntryValue) × (t : ℕ) × (k : ℕ) × IsLastBy w journal upto (Ran t k) × ((fork : Strand) → fork.task ≡ t → WaitsOn (ledger_of p s upto) fork → ⊥)
IsPrevious p s w journal (Forked fork) = (upto : List EntryValue) × (k : ℕ) × IsLastBy w journal upto (Ran fork.task k) × WaitsOn (ledger_of p s upto) fork

-- A WORKER'S MARKINGS

-- the task whose heap an entry begins to mark
abbrev pub marked_task : Kind → Option ℕ
marked_task (Mark t) = Some t
marked_task _ = None

-- the fork on which that task waits
abbrev pub fork_marked : Ledger → Option ℕ → List Strand
fork_marked l None = []
fork_marked l (Some t) = fork_of t (slice_get l.machine.tasks t)

abbrev pub fork_by : ℕ → Ledger → EntryValue → List Strand
fork_by w l e = if e.worker == w then fork_marked l (marked_task e.kind) else []

-- the forks of all `mark` entries by the worker, the newest first
abbrev pub marked_forks : ProgramText → SettingsValue → ℕ → Ledger → List EntryValue → List Strand
marked_forks p s w l [] = []
marked_forks p s w l (e ∷ es) = marked_forks p s w (after p s l e) es ++ fork_by w l e

-- THE PACE FOLLOWS FROM THE ENTRIES: the record of a worker after a journal
pub record IsPaceOf (p : ProgramText) (s : SettingsValue) (w : ℕ) (journal : List EntryValue) (x : WorkerPace) : Type 0 where
  pub previous : IsPrevious p s w journal x.previous
  pub marks : x.marks ≡ marked_forks p s w (opening p s) journal

-- THREE RULES for an entry of a worker whose previous entry, at the end of `upto`, is one of steps of t

-- these steps forked t, which still waits on that fork, is neither marked nor has been marked and swept, and holds at
-- least the inner limit of words
pub record IsToMark (p : ProgramText) (s : SettingsValue) (l : Ledger) (upto : List EntryValue) (t : ℕ) (fork : Strand) : Type 0 where
  pub task : fork.task ≡ t
  pub forked : WaitsOn (ledger_of p s upto) fork
  pub waits : WaitsOn l fork
  pub unmarked : (heap_of l t).marked ≡ None
  pub unswept : (heap_of l t).swept ≡ false
  pub words : s.inner ≤ words_in l.machine (heap_of l t)

-- the task that was marked on this fork still waits on it, and isn't swept
pub record IsUnderWay (l : Ledger) (fork : Strand) : Type 0 where
  pub waits : WaitsOn l fork
  pub unswept : (heap_of l fork.task).swept ≡ false

-- the first of these forks, the newest first, of which that holds
pub record IsNewest (l : Ledger) (forks : List Strand) (fork : Strand) : Type 0 where
  pub newer : List Strand
  pub older : List Strand
  pub is : forks ≡ newer ++ fork ∷ older
  pub none : (g : Strand) → In newer g → IsUnderWay l g → ⊥
  pub under_way : IsUnderWay l fork

-- 64 more objects of the heap are marked if something is left to mark; otherwise it is swept
pub record GoesOnMarking (l : Ledger) (t : ℕ) (kind : Kind) : Type 0 where
  pub more : (left_in (heap_of l t) ≡ 0 → ⊥) → kind ≡ More t marked_at_once
  pub sweep : left_in (heap_of l t) ≡ 0 → (given : ℕ) × (kind ≡ Sweep t given)

pub record KeepsRules (p : ProgramText) (s : SettingsValue) (before : List EntryValue) (w : ℕ) (upto : List EntryValue) (t : ℕ) (kind : Kind) : Type 0 where
  -- first, if t is to be marked, it is marked
  pub mark : (fork : Strand) → IsToMark p s (ledger_of p s before) upto t fork → kind ≡ Mark t
  -- second, otherwise, the last marking that the worker began and that goes on is continued. Third, if none goes on,
  -- the entry is free
  pub more : ((fork : Strand) → IsToMark p s (ledger_of p s before) upto t fork → ⊥) → (fork : Strand)
      → IsNewest (ledger_of p s before) (marked_forks p s w (opening p s) before) fork → GoesOnMarking (ledger_of p s before) fork.task kind

-- each entry that isn't `fuel`, and whose worker's previous entry is one of steps, keeps the rules
abbrev pub KeepsThePace : ProgramText → SettingsValue → List EntryValue → Type 0
KeepsThePace p s journal =
    (before : List EntryValue) (e : EntryValue) (rest : List EntryValue) → journal ≡ before ++ e ∷ rest → is_fuel e.kind ≡ false
    → (upto : List EntryValue) (t k : ℕ) → IsLastBy e.worker before upto (Ran t k) → KeepsRules p s before e.worker upto t e.kind

abbrev pub PacedKeepsThePace : Type 0
PacedKeepsThePace = (p : ProgramText) (s : SettingsValue) (journal : List EntryValue) → is_legal p s journal ≡ true → (is_paced p s journal ≡ true) ↔ KeepsThePace p s journal
