-- The whole world as one value: the shared value, and what each worker holds.
use Rattle.std.specs.Prelude.{◌≡◌, ℕ, Bool, false, Some, None, List, length, map, slice_get}
use Rattle.heap_reading.specs.below.object_layout.{ChunkValue, number_of}
use Rattle.heap_reading.specs.below.copying_gc.{Moved, CanTake, IsCollected}
use Rattle.heap_reading.specs.below.task_machine.{Begun, Private}
use Rattle.heap_reading.specs.below.core_invariant.{WorkerPartFits, SharedValue}
use Rattle.fork_join_commit.specs.NoTask.{HoldsNone}
use Rattle.journal_replay.specs.declared.out_part.OutPart.{OutPart}
use Rattle.journal_replay.specs.declared.out_part.OutPart.TheVariants.{Nothing, Part, Copied}

pub record WorldValue : Type 0 where
  pub shared : SharedValue
  -- by worker
  pub holdings : List OutPart
  -- an entry was refused, or an allocation failed
  pub stopped : Bool

-- a part in no leaf collection fits, and has no uncommitted step unless the world has stopped
pub record HoldsPart (w : SharedValue) (stopped : Bool) (k : ℕ) (p : Private) : Type 0 where
  pub fits : WorkerPartFits w k p
  pub idle : p.begun ≡ None
  pub entered : stopped ≡ false → p.fresh ≡ 0

-- a part that was copied when its collection began: what it was before fits, and this is the copy
pub record HoldsCopy (w : SharedValue) (k : ℕ) (p : Private) (moved : Moved) : Type 0 where
  pub before : Private
  pub begun : Begun
  -- the chunks that its collection took
  pub news : List ChunkValue
  pub fits : WorkerPartFits w k before
  pub fresh : before.fresh ≡ 0
  pub amid : before.begun ≡ Some begun
  pub new : CanTake before.heap.chunks news
  pub numbers : begun.news ≡ map number_of news
  pub copy : IsCollected before.heap before.frames begun.roots news p.heap p.frames moved
  pub part : p ≡ record before { heap = p.heap; frames = p.frames }

-- WHAT A WORKER HOLDS fits; a worker that holds nothing has no task
abbrev pub WorkerHolds : SharedValue → Bool → ℕ → OutPart → Type 0
WorkerHolds w stopped k Nothing = HoldsNone w k
WorkerHolds w stopped k (Part p) = HoldsPart w stopped k p
WorkerHolds w stopped k (Copied p moved) = HoldsCopy w k p moved

abbrev pub AllHold : SharedValue → Bool → List OutPart → Type 0
AllHold w stopped holdings = (k : ℕ) (h : OutPart) → slice_get holdings k ≡ Some h → WorkerHolds w stopped k h

pub record IsWhole (x : WorldValue) : Type 0 where
  pub count : length x.holdings ≡ x.shared.settings.workers
  pub holdings : AllHold x.shared x.stopped x.holdings
