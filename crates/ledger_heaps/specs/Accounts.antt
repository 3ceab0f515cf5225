-- The accounts of a machine and the heaps of its tasks.
use Rattle.std.specs.Prelude.{◌≡◌, ℕ, None, List, slice_get, Contains}
use Rattle.hh_model.specs.declared.data.Name.{Name}
use Rattle.hh_model.specs.declared.data.Task.{Task}
use Rattle.hh_model.specs.declared.data.MachineState.{MachineState}
use Rattle.hh_model.specs.Step.{owner_of}
use Rattle.run_ledger.specs.declared.data.Heap.{Heap}
use Rattle.run_ledger.specs.declared.data.Ledger.{Ledger}
use Rattle.run_ledger.specs.Heaps.{held_in, or_fresh}

-- a ledger's machine and heaps: reachability within a heap depends on nothing else
abbrev pub accounts : MachineState → List Heap → Ledger
accounts m heaps = record { machine = m; heaps = heaps; steps = 0; end = None }

-- each name that a heap holds is owned by the heap's task
abbrev pub AreOwned : List Task → List Heap → Type 0
AreOwned tasks heaps = (u : ℕ) (n : Name) → Contains (held_in (or_fresh (slice_get heaps u))) n → owner_of tasks n.task ≡ u

-- the words allocated in a task's heap since its last leaf collection
abbrev pub since_at : List Heap → ℕ → ℕ
since_at heaps t = (or_fresh (slice_get heaps t)).since
