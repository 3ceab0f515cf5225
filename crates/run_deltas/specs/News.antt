-- What an entry tells of the heap of its task: of its chunks, of what a collection keeps, and of a marking.
use Rattle.std.specs.Prelude.{ℕ, ◌==◌, Bool, Option, Some, None, List, slice_get, if◌then◌else◌, is_some}
use Rattle.run_deltas.specs.Common.{Name, Kind, Chunk, Begin, End, Mark, More, Sweep, Heap, Ledger, begun_in, marked_in}

pub data News : Type 0 where
  -- nothing that doesn't follow from tasks and objects
  Nothing : News
  -- the task's heap has a chunk more, of so many units
  Given : ℕ → ℕ → News
  -- a leaf collection begins: it has taken so many chunks to copy into, and keeps these objects
  Taken : ℕ → ℕ → List Name → News
  -- the chunks of the task's heap from now on, by the small objects that lie in each, and its large objects
  Laid : ℕ → List (List Name) → List Name → News
  -- a marking begins, of these objects
  Snapped : ℕ → List Name → News
  -- so many of them are marked
  Marked : ℕ → ℕ → News
  -- the same as of chunks that are laid out anew, by a sweep, which ends a marking
  Swept : ℕ → List (List Name) → List Name → News

-- the chunk that waits for a large object has its units, and one for small objects has one
abbrev pub units_given : Heap → ℕ
units_given h = if h.reserved == 0 then 1 else h.reserved

-- what an entry tells of the heap of its task, behind the entry
abbrev pub news_in : Kind → Heap → News
news_in (Chunk t) h = Given t (units_given h)
news_in (Begin t) h = Taken t (begun_in h) h.survivors
news_in (End t taken given left) h = Laid t h.chunks h.large
news_in (Mark t) h = Snapped t h.snapshot
news_in (More t n) h = Marked t (marked_in h)
news_in (Sweep t given) h = Swept t h.chunks h.large
news_in _ h = Nothing

-- the task of whose heap an entry tells. For want of a chunk the run may be over, and then none is given
abbrev pub tells_of : Bool → Kind → Option ℕ
tells_of over (Chunk t) = if over then None else Some t
tells_of over (Begin t) = Some t
tells_of over (End t taken given left) = Some t
tells_of over (Mark t) = Some t
tells_of over (More t n) = Some t
tells_of over (Sweep t given) = Some t
tells_of over _ = None

abbrev pub news_at : Kind → Option Heap → News
news_at kind None = Nothing
news_at kind (Some h) = news_in kind h

abbrev pub news_for : Kind → List Heap → Option ℕ → News
news_for kind heaps None = Nothing
news_for kind heaps (Some t) = news_at kind (slice_get heaps t)

-- what an entry tells, by the heaps behind it, and whether the run is over
abbrev pub news_of : Kind → Bool → List Heap → News
news_of kind over heaps = news_for kind heaps (tells_of over kind)

-- by the accounts behind the entry
abbrev pub news : Kind → Ledger → News
news kind l = news_of kind (is_some l.end) l.heaps
