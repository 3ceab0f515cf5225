-- Sound accounts: the invariant of heaps for legal journals.
use Rattle.std.specs.Prelude.{◌≡◌, ℕ, ◌<◌, Bool, true, false, Option, Some, None, List, [], length, slice_get, is_some}
use Rattle.run_ledger.specs.Common.{In, Name, Object, Edge, Task, is_running, owner_of, waiting, IsForkJoinStateIn, Closed, Disentangled}
use Rattle.run_ledger.specs.declared.data.Heap.{Heap}
use Rattle.run_ledger.specs.declared.data.Ledger.{Ledger}
use Rattle.run_ledger.specs.Heaps.{held_in, or_fresh}

-- HELD NAMES, over the heaps by task

-- the names of a heap; none if there is no heap
abbrev pub heap_names : Option Heap → List Name
heap_names o = held_in (or_fresh o)

-- the heap of u holds the name
abbrev pub InHeaps : List Heap → ℕ → Name → Type 0
InHeaps heaps u n = In (heap_names (slice_get heaps u)) n

-- some heap does
abbrev pub SomeHeapHas : List Heap → Name → Type 0
SomeHeapHas heaps n = (u : ℕ) × InHeaps heaps u n

-- each held name is in its owner's heap
abbrev pub Owners : List Task → List Heap → Type 0
Owners tasks heaps = (u : ℕ) (n : Name) → InHeaps heaps u n → (n.task < length tasks) × (owner_of tasks n.task ≡ u)

-- USES OF A HEAP

-- the heap of u is used only for these names: without its others, what is held still contains all that tasks hold, and
-- all to which its objects refer
abbrev pub Spares : List Task → List (List Object) → List Heap → ℕ → List Name → Type 0
Spares tasks store heaps u ns = Closed tasks store (λ n. SomeHeapHas heaps n × (InHeaps heaps u n → In ns n))

-- a leaf collection of the heap goes on
abbrev pub collecting : Option Heap → Bool
collecting None = false
collecting (Some h) = is_some h.begun

abbrev pub snapshot_at : Option Heap → List Name
snapshot_at None = []
snapshot_at (Some h) = h.snapshot

abbrev pub survivors_at : Option Heap → List Name
survivors_at None = []
survivors_at (Some h) = h.survivors

-- SOUND ACCOUNTS

-- all that is reachable is held; the uses of a waiting task's heap are in its snapshot; and the uses of the heap of a
-- task in a leaf collection are among its survivors
pub record Sound (tasks : List Task) (edges : List Edge) (store : List (List Object)) (heaps : List Heap) : Type 0 where
  pub fork_join : IsForkJoinStateIn tasks edges store
  pub apart : Disentangled tasks store
  pub lengths : length heaps ≡ length tasks
  pub owners : Owners tasks heaps
  pub running : (u : ℕ) → collecting (slice_get heaps u) ≡ true → is_running (slice_get tasks u) ≡ true
  pub all : Closed tasks store (SomeHeapHas heaps)
  pub waits : (u : ℕ) → waiting tasks u ≡ true → Spares tasks store heaps u (snapshot_at (slice_get heaps u))
  pub collects : (u : ℕ) → collecting (slice_get heaps u) ≡ true → Spares tasks store heaps u (survivors_at (slice_get heaps u))

abbrev pub SoundLedger : Ledger → Type 0
SoundLedger l = Sound l.machine.tasks l.machine.edges l.machine.store l.heaps

-- and a step of a task that is in no leaf collection keeps that
abbrev pub SoundAt : ℕ → Ledger → Type 0
SoundAt t l = SoundLedger l × (collecting (slice_get l.heaps t) ≡ false)
