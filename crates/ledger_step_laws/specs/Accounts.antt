-- Accounts of a journal before and after: what a step of one task changes, and two accounts that agree for a task.
use Rattle.std.specs.Prelude.{◌≡◌, ℕ, true, false, Some, None, is_some, slice_get, length, zero, suc}
use Rattle.ledger_step_laws.specs.Common.{Name, Object, object_at, row_of, owner_of, is_on_path, is_waiting, is_joined, Ledger, heap_of, with_heap, let_go, ProgramText, SettingsValue, task_step, is_due, is_in_need, is_private, IsStored, Closed, SoundLedger}

abbrev pub own : Ledger → Name → ℕ
own l n = owner_of l.machine.tasks n.task

-- no worker holds the task: its belongings are in the value
abbrev pub Rests : Ledger → ℕ → Type 0
Rests l t = (heap_of l t).worker ≡ None

-- the accounts with the task at rest
abbrev pub rested : Ledger → ℕ → Ledger
rested l t = with_heap l t let_go

-- without the machine's end
abbrev pub aside : Ledger → Ledger
aside l = record l { machine = record l.machine { end = None } }

-- n private steps of the task, none of them due or in need
abbrev pub ArePrivate : ProgramText → SettingsValue → Ledger → ℕ → ℕ → Type 0
ArePrivate p s l t zero = Unit {0}
ArePrivate p s l t (suc k) = (is_due s p l t ≡ false) × (is_in_need p l t ≡ false) × (is_private p l.machine t ≡ true) × ArePrivate p s (task_step p l t) t k

-- owners and paths are unchanged, and no task is made
pub record SameTree (l l' : Ledger) : Type 0 where
  pub made : (u : ℕ) → is_some (slice_get l'.machine.tasks u) ≡ is_some (slice_get l.machine.tasks u)
  pub owners : (a : ℕ) → owner_of l'.machine.tasks a ≡ owner_of l.machine.tasks a
  pub paths : (a u : ℕ) → is_on_path l'.machine.tasks a u ≡ is_on_path l.machine.tasks a u
  pub waits : (u : ℕ) → is_waiting (slice_get l'.machine.tasks u) ≡ is_waiting (slice_get l.machine.tasks u)
  pub joins : (u : ℕ) → is_joined (slice_get l'.machine.tasks u) ≡ is_joined (slice_get l.machine.tasks u)

-- only the task t, its heap's account and the objects that it owns change
pub record StepsAlone (l l' : Ledger) (t : ℕ) : Type 0 where
  pub tree : SameTree l l'
  pub tasks : (u : ℕ) → (u ≡ t → ⊥) → slice_get l'.machine.tasks u ≡ slice_get l.machine.tasks u
  pub heaps : (u : ℕ) → (u ≡ t → ⊥) → heap_of l' u ≡ heap_of l u
  pub rows : (u : ℕ) → (u ≡ t → ⊥) → length (row_of (slice_get l'.machine.store u)) ≡ length (row_of (slice_get l.machine.store u))
  pub store : (n : Name) → (own l n ≡ t → ⊥) → object_at l'.machine.store n ≡ object_at l.machine.store n

-- one heap's account changes, but not its task's worker nor its snapshot
pub record ChangesHeap (l l' : Ledger) (t : ℕ) : Type 0 where
  pub machine : l'.machine ≡ l.machine
  pub others : (u : ℕ) → (u ≡ t → ⊥) → heap_of l' u ≡ heap_of l u
  pub worker : (heap_of l' t).worker ≡ (heap_of l t).worker
  pub snapshot : (heap_of l' t).snapshot ≡ (heap_of l t).snapshot

-- a worker holds t now, and nothing else has changed
pub record WorkerTakes (l l' : Ledger) (t w : ℕ) : Type 0 where
  pub machine : l'.machine ≡ l.machine
  pub worker : (heap_of l' t).worker ≡ Some w
  pub heaps : (u : ℕ) → (u ≡ t → ⊥) → heap_of l' u ≡ heap_of l u

-- of the accounts: the machine, the workers of tasks and the snapshots are unchanged
pub record SameTasks (l l' : Ledger) : Type 0 where
  pub machine : l'.machine ≡ l.machine
  pub worker : (u : ℕ) → (heap_of l' u).worker ≡ (heap_of l u).worker
  pub snapshot : (u : ℕ) → (heap_of l' u).snapshot ≡ (heap_of l u).snapshot

-- of the accounts: the object was x, and is x', with as many references
pub record WritesOne (l l' : Ledger) (t : ℕ) (n : Name) (x x' : Object) : Type 0 where
  pub tree : SameTree l l'
  pub tasks : (u : ℕ) → (u ≡ t → ⊥) → slice_get l'.machine.tasks u ≡ slice_get l.machine.tasks u
  pub heaps : (u : ℕ) → heap_of l' u ≡ heap_of l u
  pub rows : (u : ℕ) → length (row_of (slice_get l'.machine.store u)) ≡ length (row_of (slice_get l.machine.store u))
  pub was : object_at l.machine.store n ≡ Some x
  pub is : object_at l'.machine.store n ≡ Some x'
  pub others : (m : Name) → (m ≡ n → ⊥) → object_at l'.machine.store m ≡ object_at l.machine.store m
  pub fields : length x'.refs ≡ length x.refs

-- two accounts agree for the task u: before and after what others do
pub record AlikeFor (u : ℕ) (l l' : Ledger) : Type 0 where
  pub limit : l'.machine.field_limit ≡ l.machine.field_limit
  pub end : l'.machine.end ≡ l.machine.end
  pub task : slice_get l'.machine.tasks u ≡ slice_get l.machine.tasks u
  pub heap : slice_get l'.heaps u ≡ slice_get l.heaps u
  pub count : length (row_of (slice_get l'.machine.store u)) ≡ length (row_of (slice_get l.machine.store u))
  pub owned : (n : Name) → own l n ≡ u → own l' n ≡ u
  pub owned' : (n : Name) → own l' n ≡ u → own l n ≡ u
  pub store : (n : Name) → own l n ≡ u → object_at l'.machine.store n ≡ object_at l.machine.store n
  -- which owners are on u's path, and what of theirs is immutable
  pub above : (n : Name) → is_on_path l.machine.tasks (own l n) u ≡ true → is_on_path l'.machine.tasks (own l' n) u ≡ true
  pub frozen : (n : Name) (y : Object) → is_on_path l.machine.tasks (own l n) u ≡ true → object_at l.machine.store n ≡ Some y → y.mutable ≡ false → object_at l'.machine.store n ≡ Some y

-- another task's entry keeps the machine's limit and end, and the account of u's heap
pub record Leaves (u : ℕ) (l l' : Ledger) : Type 0 where
  pub limit : l'.machine.field_limit ≡ l.machine.field_limit
  pub end : l'.machine.end ≡ l.machine.end
  pub heap : slice_get l'.heaps u ≡ slice_get l.heaps u

-- what is known of each of them
pub record LedgerIsKnown (l : Ledger) : Type 0 where
  pub sound : SoundLedger l
  pub stored : Closed l.machine.tasks l.machine.store (IsStored l.machine)
  pub rows : length l.machine.store ≡ length l.machine.tasks
