-- What images read of the shared value: tasks, chunks, objects and remembered fields, each in ascending order.
use Rattle.std.specs.Prelude.{◌≡◌, ◌⊎◌, ◌↔◌, ◌<◌, ◌*◌, ◌==◌, ℕ, FitsSigned, Option, Some, None, List, [], ◌∷◌, All, map, slice_get, if◌then◌else◌}
use Rattle.std.specs.Int.{w64}
use Rattle.core_invariant.specs.below.plain_vec.{In}
use Rattle.core_invariant.specs.below.hh_model.{owner_of}
use Rattle.core_invariant.specs.below.object_layout.{IsRef, chunk_words, word_of_ref, Located}
use Rattle.core_invariant.specs.below.chunk_pool.{Slot, slot_at, owner_of as holder_of}
use Rattle.core_invariant.specs.below.heap_tree.{Joined, TaskNode, state_of}
use Rattle.core_invariant.specs.below.remembered_set.{RefField}
use Rattle.core_invariant.specs.below.refinement.{Chunk, In as HasItem, sources}
use Rattle.core_invariant.specs.SharedValue.{SharedValue, accounts, value_of}
use Rattle.heap_reading.specs.declared.live.LiveTask.{LiveTask}
use Rattle.heap_reading.specs.declared.live.InUse.{InUse}
use Rattle.heap_reading.specs.declared.seen.SeenObject.{SeenObject}
use Rattle.heap_reading.specs.declared.noted.FieldAt.{FieldAt}
use Rattle.heap_reading.specs.HeldNames.{is_state_running}

-- LISTS

-- each item comes before all after it
abbrev pub Rises : {A : Type 0} → (A → A → Type 0) → List A → Type 0
Rises before [] = Unit {0}
Rises {A} before (x ∷ xs) = ((y : A) → In xs y → before x y) × Rises before xs

-- exactly the items with this property, each once, in this order
pub record AreAll {A : Type 0} (before : A → A → Type 0) (Is : A → Type 0) (xs : List A) : Type 0 where
  pub rising : Rises before xs
  pub each : (x : A) → In xs x ↔ Is x

-- TASKS

abbrev pub LiveBefore : LiveTask → LiveTask → Type 0
LiveBefore x y = x.number < y.number

-- an existing task of a tree that hasn't joined
pub record IsLiveIn (tree : List TaskNode) (x : LiveTask) : Type 0 where
  pub is : slice_get tree x.number ≡ Some (record { parent = x.parent; state = x.state })
  pub live : x.state ≡ Joined → ⊥

abbrev pub IsLive : SharedValue → LiveTask → Type 0
IsLive w x = IsLiveIn w.tree x

-- CHUNKS

abbrev pub InUseBefore : InUse → InUse → Type 0
InUseBefore c d = c.number < d.number

-- a chunk in use: its owner is the task to which it was given, followed to its parent as long as that has joined
pub record IsInUse (w : SharedValue) (c : InUse) : Type 0 where
  pub slot : Slot
  pub is : slot_at w.pool c.number ≡ Some slot
  pub owner : c.owner ≡ owner_of (accounts w).machine.tasks slot.owner
  pub words : c.words ≡ chunk_words * slot.units

-- OBJECTS

-- those of the chunk of a number
abbrev pub objects_numbered : ℕ → List Chunk → List Located
objects_numbered number [] = []
objects_numbered number (k ∷ ks) = if k.number == number then k.objects else objects_numbered number ks

-- in the heap of a task, unless that runs
abbrev pub objects_owned : SharedValue → ℕ → Option ℕ → List Located
objects_owned w number None = []
objects_owned w number (Some t) = if is_state_running (state_of w.tree t) then [] else objects_numbered number ((value_of w).belongings t).chunks

-- in its owner's heap
abbrev pub objects_of : SharedValue → ℕ → List Located
objects_of w number = objects_owned w number (holder_of w.pool number)

-- with addresses as numbers, 0 for nil
abbrev pub in_words : Located → SeenObject
in_words o = record { at = word_of_ref (Some o.at); birth = o.birth; mutable = o.mutable; refs = map word_of_ref o.refs; ints = o.ints }

-- its fields fit in words
pub record IsInWords (o : Located) : Type 0 where
  pub refs : All IsRef o.refs
  pub ints : All (FitsSigned w64) o.ints

abbrev pub AreInWords : List Located → Type 0
AreInWords os = (o : Located) → HasItem os o → IsInWords o

-- REMEMBERED FIELDS

abbrev pub field_of : RefField → FieldAt
field_of s = record { object = word_of_ref (Some s.object); field = s.field }

-- by the object, then by the field
abbrev pub FieldBefore : FieldAt → FieldAt → Type 0
FieldBefore f g = (f.object < g.object) ⊎ ((f.object ≡ g.object) × (f.field < g.field))

-- the set of the task's heap has it
abbrev pub IsNoted : SharedValue → ℕ → FieldAt → Type 0
IsNoted w t f = (s : RefField) × HasItem (sources (value_of w) t) s × (f ≡ field_of s)
