-- The laws of journals.
use Rattle.std.specs.Prelude.{◌≡◌, ◌↔◌, ◌⊎◌, ◌+◌, ℕ, true, List, [], ◌∷◌, Some, slice_get, Contains, None, length, is_some, ◌++◌}
use Rattle.std.specs.List.{IsDistinct}
use Rattle.run_ledger.specs.Common.{IsReached, Kind, End, Sweep, EntryValue, SettingsValue, ProgramText, Name, Object, Task, MachineState, refs_at, task_names, IsStored, LeavesOwner, can_step, owner_of, is_running, is_waiting, run_from, step}
use Rattle.run_ledger.specs.Steps.{allocated_in, task_step}
use Rattle.run_ledger.specs.declared.data.Ledger.{Ledger}
use Rattle.run_ledger.specs.declared.data.Heap.{Heap}
use Rattle.run_ledger.specs.Reachable.{is_name, reached, IsReachedWithin}
use Rattle.run_ledger.specs.Heaps.{held_in, held, heap_of, name_le, small_in, small_survivors, collected, swept_heap}
use Rattle.run_ledger.specs.Entries.{after}
use Rattle.run_ledger.specs.Journals.{opening, ledger_of, machine_of, is_legal, tasks_in}

-- a name is reached if and only if a walk through these names leads to it
abbrev pub ReachedIsWalks : Type 0
ReachedIsWalks =
    (store : List (List Object)) (names roots : List Name) (n : Name)
    → Contains (reached store names roots) n ↔ IsReachedWithin store names roots n

-- the ledger's machine is the machine that never collects, after the journal's steps
abbrev pub MachineIsRun : Type 0
MachineIsRun = (p : ProgramText) (s : SettingsValue) (journal : List EntryValue) → (ledger_of p s journal).machine ≡ machine_of p s journal

abbrev pub EntriesMoveMachine : Type 0
EntriesMoveMachine = (p : ProgramText) (s : SettingsValue) (l : Ledger) (e : EntryValue) → (after p s l e).machine ≡ run_from p l.machine (tasks_in e.kind)

-- as long as the run goes on, so does the machine
abbrev pub MachineGoesOn : Type 0
MachineGoesOn =
    (p : ProgramText) (s : SettingsValue) (journal : List EntryValue) → let l = ledger_of p s journal in l.end ≡ None → l.machine.end ≡ None

-- NOTHING REACHABLE IS FREED

-- a task has the name: in the registers of its frames while it runs or waits, or as its result once it has ended
abbrev pub IsNamedByTask : MachineState → Name → Type 0
IsNamedByTask m n = (t : ℕ) × (x : Task) × (slice_get m.tasks t ≡ Some x) × Contains (task_names x) n

-- the object of one name refers to the other
abbrev pub Refers : MachineState → Name → Name → Type 0
Refers m n r = Contains (refs_at m.store n) r

-- a walk along references leads to the name from one that a task has
abbrev pub IsReachable : MachineState → Name → Type 0
IsReachable m n = IsReached (IsNamedByTask m) (Refers m) n

-- all that is reachable is held, and so is each reference of what is held
pub record KeepsReachable (l : Ledger) : Type 0 where
  pub reachable : (n : Name) → IsReachable l.machine n → Contains (held l) n
  pub references : (n r : Name) → Contains (held l) n → Refers l.machine n r → Contains (held l) r

abbrev pub NothingReachableIsFreed : Type 0
NothingReachableIsFreed =
    (p : ProgramText) (s : SettingsValue) (journal : List EntryValue) → is_legal p s journal ≡ true → KeepsReachable (ledger_of p s journal)

-- REACHABILITY WITHIN A HEAP

-- the task t runs or waits
abbrev pub RunsOrWaits : Ledger → ℕ → Type 0
RunsOrWaits l t = (is_running (slice_get l.machine.tasks t) ≡ true) ⊎ (is_waiting (slice_get l.machine.tasks t) ≡ true)

-- EACH HELD NAME IS HELD ONCE

-- no name is held twice; each is in the heap of the task that owns it, and names an object of the store
pub record HoldsOnce (l : Ledger) : Type 0 where
  pub once : IsDistinct is_name (held l)
  pub owned : (t : ℕ) (n : Name) → Contains (held_in (heap_of l t)) n → owner_of l.machine.tasks n.task ≡ t
  pub stored : (n : Name) → Contains (held l) n → IsStored l.machine n

abbrev pub NamesAreHeldOnce : Type 0
NamesAreHeldOnce = (p : ProgramText) (s : SettingsValue) (journal : List EntryValue) → is_legal p s journal ≡ true → HoldsOnce (ledger_of p s journal)

-- WHAT A COLLECTION KEEPS

-- no name was born later than one after it
abbrev pub AreByBirth : List Name → Type 0
AreByBirth [] = Unit {0}
AreByBirth (n ∷ ns) = ((k : Name) → Contains ns k → name_le n k ≡ true) × AreByBirth ns

-- a leaf collection keeps exactly the survivors among the held names, the small ones in order of birth and laid one
-- after the other; a sweep keeps exactly the snapshot
pub record CollectionKeeps (m : MachineState) (h : Heap) : Type 0 where
  pub survivors : (n : Name) → Contains (held_in (collected m h)) n ↔ (Contains (held_in h) n × Contains h.survivors n)
  pub order : AreByBirth (small_in (collected m h))
  pub laid : small_in (collected m h) ≡ small_survivors h
  pub snapshot : (n : Name) → Contains (held_in (swept_heap h)) n ↔ (Contains (held_in h) n × Contains h.snapshot n)

abbrev pub CollectionsKeepJust : Type 0
CollectionsKeepJust = (m : MachineState) (h : Heap) → CollectionKeeps m h

-- WHO HOLDS A TASK

-- each task has a heap; a task that a worker holds runs, unless the run has ended; no worker holds two; and a leaf
-- collection goes on only in a task that a worker holds
pub record TasksAreOut (l : Ledger) : Type 0 where
  pub as_many : length l.heaps ≡ length l.machine.tasks
  pub runs : l.end ≡ None → (t w : ℕ) → (heap_of l t).worker ≡ Some w → is_running (slice_get l.machine.tasks t) ≡ true
  pub one : (t u w : ℕ) → (heap_of l t).worker ≡ Some w → (heap_of l u).worker ≡ Some w → t ≡ u
  pub collecting : (t : ℕ) → is_some (heap_of l t).begun ≡ true → is_some (heap_of l t).worker ≡ true

abbrev pub TasksAreOutOnce : Type 0
TasksAreOutOnce = (p : ProgramText) (s : SettingsValue) (journal : List EntryValue) → is_legal p s journal ≡ true → TasksAreOut (ledger_of p s journal)

-- no worker holds a task that waits, whether or not the run has ended
abbrev pub WaitersAreFree : Type 0
WaitersAreFree =
    (p : ProgramText) (s : SettingsValue) (journal : List EntryValue) → is_legal p s journal ≡ true
    → let l = ledger_of p s journal in (t : ℕ) → is_waiting (slice_get l.machine.tasks t) ≡ true → (heap_of l t).worker ≡ None

-- WHAT A STEP CHANGES

-- a step after which its task and the machine run on changes the accounts only by what it allocates: who holds which
-- task, the snapshots and the survivors stay
abbrev pub StepsRunOn : Type 0
StepsRunOn =
    (p : ProgramText) (l : Ledger) (t : ℕ) → can_step l.machine t ≡ true
    → let m = step p l.machine t in
    let b = allocated_in p l t in m.end ≡ None → is_running (slice_get m.tasks t) ≡ true → task_step p l t ≡ record b { machine = m; steps = b.steps + 1 }

-- WHAT AN ENTRY LEAVES UNCHANGED

-- an entry of one worker leaves unchanged what another worker holds: the task, the objects that it owns, and the
-- account of its heap
pub record LeavesTask (l after : Ledger) (u : ℕ) : Type 0 where
  pub owner : LeavesOwner l.machine after.machine u
  pub heap : heap_of after u ≡ heap_of l u

abbrev pub EntriesLeaveOthers : Type 0
EntriesLeaveOthers =
    (p : ProgramText) (s : SettingsValue) (before rest : List EntryValue) (e : EntryValue) (u v : ℕ) → is_legal p s (before ++ e ∷ rest) ≡ true
    → let l = ledger_of p s before in (heap_of l u).worker ≡ Some v → (v ≡ e.worker → ⊥) → LeavesTask l (after p s l e) u

-- WHAT IS HELD

-- an entry drops an object that was allocated before it: the end of a leaf collection of t drops what t owns outside
-- the survivors, and a sweep of t's heap drops what t owns outside the snapshot
abbrev pub Drops : Ledger → Kind → Name → Type 0
Drops l (End t taken given left) n = IsStored l.machine n × (owner_of l.machine.tasks n.task ≡ t) × (Contains (heap_of l t).survivors n → ⊥)
Drops l (Sweep t given) n = IsStored l.machine n × (owner_of l.machine.tasks n.task ≡ t) × (Contains (heap_of l t).snapshot n → ⊥)
Drops l _ n = ⊥

-- one of the entries drops it, by the accounts before that entry
abbrev pub IsDropped : ProgramText → SettingsValue → Ledger → List EntryValue → Name → Type 0
IsDropped p s l [] n = ⊥
IsDropped p s l (e ∷ es) n = Drops l e.kind n ⊎ IsDropped p s (after p s l e) es n

-- a name is held if and only if it was allocated and not dropped
abbrev pub HeldIsUndropped : Type 0
HeldIsUndropped =
    (p : ProgramText) (s : SettingsValue) (journal : List EntryValue) → is_legal p s journal ≡ true → (n : Name)
    → Contains (held (ledger_of p s journal)) n ↔ (IsStored (ledger_of p s journal).machine n × (IsDropped p s (opening p s) journal n → ⊥))
