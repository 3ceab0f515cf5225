-- The pool has as many units for a chunk as the chunk has.
use Rattle.std.specs.Prelude.{◌≡◌, ◌≢◌, ℕ, ◌/◌, Option, Some, None, List, [], slice_get}
use Rattle.std.specs.Option.{option_flatten}
use Rattle.core_invariant.specs.Common.{ChunkValue, chunk_words, PoolValue, slot_at, one_unit, In, Begun, Private, ParkedTask}
use Rattle.core_invariant.specs.SharedValue.{rest_at}

-- it has each of these chunks for the task, with as many units as the chunk has
abbrev pub AreMeasured : PoolValue → ℕ → List ChunkValue → Type 0
AreMeasured pool t ks = (k : ChunkValue) → In ks k → slot_at pool k.number ≡ Some (record { owner = t; units = k.size / chunk_words })

-- no worker holds the task
abbrev pub IsFree : List (Option ℕ) → ℕ → Type 0
IsFree tasks_out t = (k : ℕ) → option_flatten (slice_get tasks_out k) ≢ Some t

-- it has the chunks of each task that no worker holds
abbrev pub RestsAreMeasured : PoolValue → List (Option ParkedTask) → List (Option ℕ) → Type 0
RestsAreMeasured pool rests tasks_out = (t : ℕ) (r : ParkedTask) → rest_at rests t ≡ Some r → IsFree tasks_out t → AreMeasured pool t r.heap.chunks

-- it has a chunk of one unit for the task at each of these numbers
abbrev pub AreUnits : PoolValue → ℕ → List ℕ → Type 0
AreUnits pool t ns = (n : ℕ) → In ns n → slot_at pool n ≡ Some (one_unit t)

-- the chunks that a begun collection took
abbrev pub news_of : Option Begun → List ℕ
news_of None = []
news_of (Some b) = b.news

-- it has the chunks of a part's heap, and those that its begun collection took
abbrev pub IsMeasured : PoolValue → Private → Type 0
IsMeasured pool p = AreMeasured pool p.task p.heap.chunks × AreUnits pool p.task (news_of p.begun)

-- what it has for a task is unchanged
abbrev pub KeepsUnits : PoolValue → PoolValue → ℕ → Type 0
KeepsUnits old new t = (n units : ℕ) → slot_at old n ≡ Some (record { owner = t; units = units }) → slot_at new n ≡ Some (record { owner = t; units = units })
