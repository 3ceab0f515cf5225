-- A memory stands for the accounts of a journal.
use Rattle.std.specs.Prelude.{◌≡◌, ◌⊎◌, ℕ, suc, ◌<◌, true, false, not, Some, is_some, List, drop, slice_get, length, map, filter}
use Rattle.refinement.specs.Common.{Addr, Located, Name, Object, Task, object_at, row_of, is_on_path, is_waiting, is_joined, Heap, Ledger, heap_of, RefField, own, Rests}
use Rattle.refinement.specs.Memory.{Chunk, Memory, In, object_name, objects, objects_of_chunks, sources, Lies, as_shown, shown_at}
use Rattle.refinement.specs.Layout.{AreLaidOut}
use Rattle.refinement.specs.ReadsReference.{IsModelObject, TaskIsRead}

-- THE ADDRESS MAP of a memory: the address is in a chunk of the name's owner, and is the object's address if the
-- owner's heap is in the memory
pub record LiesWithOwner (v : Memory) (l : Ledger) (n : Name) (a : Addr) : Type 0 where
  pub chunk : v.owner a.chunk ≡ Some (own l n)
  pub here : Rests l (own l n) → Lies (v.belongings (own l n)).chunks n a

-- the names of small objects chunk by chunk, and those of large ones
abbrev pub chunk_names : Chunk → List Name
chunk_names k = map object_name k.objects

abbrev pub small_chunks : List Chunk → List Chunk
small_chunks ks = filter (λ k. not k.large) ks

abbrev pub large_chunks : List Chunk → List Chunk
large_chunks ks = filter (λ k. k.large) ks

pub record ChunksHaveNames (ks : List Chunk) (h : Heap) : Type 0 where
  pub small : map chunk_names (small_chunks ks) ≡ h.chunks
  pub large : map object_name (objects_of_chunks (large_chunks ks)) ≡ h.large

-- a heap whose task rests
pub record BelongingsStand (v : Memory) (l : Ledger) (t : ℕ) : Type 0 where
  pub names : ChunksHaveNames (v.belongings t).chunks (heap_of l t)
  pub room : (v.belongings t).room ≡ (heap_of l t).room
  pub since : (v.belongings t).since ≡ (heap_of l t).since
  -- how many objects its task has allocated; irrelevant after it has joined
  pub count : is_joined (slice_get l.machine.tasks t) ≡ false → (v.belongings t).count ≡ length (row_of (slice_get l.machine.store t))
  -- its chunks are its own; each object is in its chunk, addresses are distinct, and so are names
  pub owned : (k : Chunk) → In (v.belongings t).chunks k → v.owner k.number ≡ Some t
  pub inside : (k : Chunk) (o : Located) → In (v.belongings t).chunks k → In k.objects o → o.at.chunk ≡ k.number
  pub once : (o p : Located) → In (objects v t) o → In (objects v t) p → o.at ≡ p.at → o ≡ p
  pub named : (o p : Located) → In (objects v t) o → In (objects v t) p → object_name o ≡ object_name p → o ≡ p
  pub laid : AreLaidOut (v.belongings t).chunks (heap_of l t).reserved

-- a remembered field points down, from an object that its owner's sweep keeps
pub record IsSource (v : Memory) (l : Ledger) (t : ℕ) (s : RefField) : Type 0 where
  pub name : Name
  pub object : Object
  pub is : object_at l.machine.store name ≡ Some object
  pub mutable : object.mutable ≡ true
  pub place : LiesWithOwner v l name s.object
  pub field : s.field < length object.refs
  pub waits : is_waiting (slice_get l.machine.tasks (own l name)) ≡ true
  pub rests : Rests l (own l name)
  pub above : is_on_path l.machine.tasks (own l name) t ≡ true
  pub below : own l name ≡ t → ⊥
  pub live : is_joined (slice_get l.machine.tasks t) ≡ false
  pub snapshot : In (heap_of l (own l name)).snapshot name

-- of each ancestor, what is immutable in its belongings is shown at its address, and nothing mutable is
abbrev pub AboveIsShown : Memory → Ledger → ℕ → Type 0
AboveIsShown v l t = (u : ℕ) (o : Located) → is_on_path l.machine.tasks u t ≡ true → (u ≡ t → ⊥) → Rests l u → In (objects v u) o → shown_at (v.belongings t).view o.at ≡ as_shown o

-- a level has a chunk of this number
abbrev pub LevelHasChunk : List Chunk → ℕ → Type 0
LevelHasChunk level n = (k : Chunk) × In level k × (k.number ≡ n)

-- THE LEVEL THAT u GAVE to the view of t at its fork: after it come exactly those that u sees itself, and no level
-- before it has a chunk of u's
pub record GivesLevel (v : Memory) (u t : ℕ) : Type 0 where
  pub place : ℕ
  pub behind : drop (suc place) (v.belongings t).view ≡ (v.belongings u).view
  pub apart : (i n : ℕ) (level : List Chunk) → i < place → slice_get (v.belongings t).view i ≡ Some level → LevelHasChunk level n → v.owner n ≡ Some u → ⊥

pub record MemoryStands (v : Memory) (l : Ledger) : Type 0 where
  -- each chunk in use belongs to an existing task
  pub made : (k t : ℕ) → v.owner k ≡ Some t → is_some (slice_get l.machine.tasks t) ≡ true
  pub belongings : (t : ℕ) → Rests l t → BelongingsStand v l t
  pub contents : (t : ℕ) (o : Located) → Rests l t → In (objects v t) o → (x : Object) × (object_at l.machine.store (object_name o) ≡ Some x) × IsModelObject (LiesWithOwner v l) o x
  pub tasks : (t : ℕ) (x : Task) → Rests l t → slice_get l.machine.tasks t ≡ Some x → TaskIsRead (LiesWithOwner v l) (v.belongings t) x
  -- each reference goes up or inside, or its field is remembered in the heap that it points into
  pub remembered : (t : ℕ) (o : Located) (x : Object) (i : ℕ) (r : Name) → Rests l t → In (objects v t) o → object_at l.machine.store (object_name o) ≡ Some x → slice_get x.refs i ≡ Some (Some r)
      → (is_on_path l.machine.tasks (own l r) t ≡ true) ⊎ In (sources v (own l r)) (record { object = o.at; field = i })
  pub sources : (t : ℕ) (s : RefField) → In (sources v t) s → IsSource v l t s
  pub views : (t : ℕ) → Rests l t → is_joined (slice_get l.machine.tasks t) ≡ false → AboveIsShown v l t
  -- each waiting ancestor has given a level
  pub gives : (t u : ℕ) → Rests l t → is_joined (slice_get l.machine.tasks t) ≡ false → is_on_path l.machine.tasks u t ≡ true → (u ≡ t → ⊥) → is_waiting (slice_get l.machine.tasks u) ≡ true → Rests l u → GivesLevel v u t
