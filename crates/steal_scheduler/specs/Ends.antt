-- What clauses say of the two ends of a deque, whatever its invariant.
use Rattle.std.specs.Prelude.{◌≡◌, ℕ}
use Rattle.std.specs.declared.alloc.Global.{Global}
use Rattle.crossbeam_deque.specs.Handles.{view, stealer_deque, worker_deque, worker_port, worker_view, worker_capacity, worker_index, SameWorker, SamePass}
use Rattle.crossbeam_deque.specs.declared.handles.Stealer.{Stealer}
use Rattle.steal_scheduler.specs.declared.own_deque.OwnDeque.{OwnDeque}
use Rattle.steal_scheduler.specs.declared.victim_deque.VictimDeque.{VictimDeque}

module _ {V P : Type 0} where
  -- THE OWNER'S END

  -- a handle to steal with from this deque
  abbrev pub IsStealerOf : Stealer ℕ Global V P → OwnDeque V P → Type 0
  IsStealerOf s o = stealer_deque s ≡ worker_deque o.worker

  -- the owner's number among the deque's passes, and what its pass records
  abbrev pub owner_port : OwnDeque V P → ℕ
  owner_port o = worker_port o.worker

  abbrev pub owner_view : OwnDeque V P → V
  owner_view o = worker_view o.worker

  -- the slots of the newest ring
  abbrev pub slots : OwnDeque V P → ℕ
  slots o = worker_capacity o.worker

  -- the index of the next put, which taking back decrements
  abbrev pub next_put : OwnDeque V P → ℕ
  next_put o = worker_index o.worker

  -- how many pops found the deque empty
  abbrev pub pops_of_none : OwnDeque V P → ℕ
  pops_of_none o = o.empty_pops

  -- the same deque and pass
  abbrev pub SameOwner : OwnDeque V P → OwnDeque V P → Type 0
  SameOwner old new = SameWorker old.worker new.worker

  -- A THIEF'S END

  -- it steals from the deque of this handle
  abbrev pub StealsBy : VictimDeque V P → Stealer ℕ Global V P → Type 0
  StealsBy v s = stealer_deque v.stealer ≡ stealer_deque s

  abbrev pub thief_port : VictimDeque V P → ℕ
  thief_port v = v.pass.id

  abbrev pub thief_view : VictimDeque V P → V
  thief_view v = view v.pass

  -- how many thefts found at most one number
  abbrev pub thefts_of_none : VictimDeque V P → ℕ
  thefts_of_none v = v.vain_thefts

  -- the same deque and pass
  abbrev pub SameThief : VictimDeque V P → VictimDeque V P → Type 0
  SameThief old new = StealsBy new old.stealer × SamePass old.pass new.pass
