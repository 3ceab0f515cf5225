-- A part whose collection has begun, and the copy of it, which fits only for the end of the collection.
use Rattle.std.specs.Prelude.{◌≡◌, ℕ, true, Some, map, is_some}
use Rattle.std.specs.Option.{option_map}
use Rattle.refinement.specs.Common.{Addr, Located, ProgramText, SettingsValue, Ledger, heap_of, collected, led_frame}
use Rattle.refinement.specs.Memory.{Chunk, Belongings, Memory, In, object_name, objects_of_chunks, sources, copied_object, rewritten_belongings}
use Rattle.refinement.specs.Layout.{AreLaidOut}
use Rattle.refinement.specs.MemoryStands.{ChunksHaveNames}
use Rattle.refinement.specs.Fits.{Part, FitsAt, with_belongings, ahead, part_for}
use Rattle.refinement.specs.Whole.{BegunBy}

-- a part that fits, with the collection that it has begun
pub record PartFits (p : ProgramText) (s : SettingsValue) (q : Part) (v : Memory) (l : Ledger) : Type 0 where
  pub fits : FitsAt p s q v l
  pub begun : BegunBy (with_belongings v q.task q.belongings) (ahead p q l) q.task q.belongings.begun

-- the part of t that began its collection, with the belongings as they were
abbrev pub part_before : SettingsValue → ℕ → Belongings → Part
part_before s t h = part_for s t h 0

-- h' is a copy of the belongings h of t: the survivors of h are where f leads to, laid out as the account says after
-- the end
pub record IsCopy (v : Memory) (l : Ledger) (t : ℕ) (h h' : Belongings) (f : Addr → Addr) : Type 0 where
  pub names : ChunksHaveNames h'.chunks (collected l.machine (heap_of l t))
  pub room : h'.room ≡ (collected l.machine (heap_of l t)).room
  pub since : h'.since ≡ 0
  pub count : h'.count ≡ h.count
  pub inside : (c : Chunk) (o : Located) → In h'.chunks c → In c.objects o → o.at.chunk ≡ c.number
  pub once : (o q : Located) → In (objects_of_chunks h'.chunks) o → In (objects_of_chunks h'.chunks) q → o.at ≡ q.at → o ≡ q
  pub named : (o q : Located) → In (objects_of_chunks h'.chunks) o → In (objects_of_chunks h'.chunks) q → object_name o ≡ object_name q → o ≡ q
  pub laid : AreLaidOut h'.chunks (heap_of l t).reserved
  -- its chunks are t's: new ones, and those of large objects
  pub owned : (c : Chunk) → In h'.chunks c → v.owner c.number ≡ Some t
  pub copied : (o : Located) → In (objects_of_chunks h.chunks) o → In (heap_of l t).survivors (object_name o) → In (objects_of_chunks h'.chunks) (copied_object f o)
  pub only : (o' : Located) → In (objects_of_chunks h'.chunks) o' → (o : Located) × In (objects_of_chunks h.chunks) o × In (heap_of l t).survivors (object_name o) × (o' ≡ copied_object f o)
  pub frames : h'.frames ≡ map (led_frame (option_map f)) h.frames
  pub view : h'.view ≡ h.view
  -- only addresses in its chunks move
  pub same : (a : Addr) → ((c : Chunk) → In h.chunks c → c.number ≡ a.chunk → ⊥) → f a ≡ a

-- the copy of a part that fits, with its belongings h before
pub record CopyFits (p : ProgramText) (s : SettingsValue) (t : ℕ) (h h' : Belongings) (f : Addr → Addr) (v : Memory) (l : Ledger) : Type 0 where
  pub old : PartFits p s (part_before s t h) v l
  pub collects : is_some (heap_of l t).begun ≡ true
  pub copy : IsCopy v l t h h' f

-- what the end of the collection changes in the memory: remembered fields are rewritten, old chunks are released
pub record EndsAt (v v' : Memory) (t : ℕ) (h' : Belongings) (f : Addr → Addr) : Type 0 where
  pub others : (u : ℕ) → (u ≡ t → ⊥) → v'.belongings u ≡ rewritten_belongings f (sources v t) (v.belongings u)
  pub owners : (k u : ℕ) → (u ≡ t → ⊥) → v.owner k ≡ Some u → v'.owner k ≡ Some u
  pub mine : (c : Chunk) → In h'.chunks c → v'.owner c.number ≡ Some t
  pub owned : (k u : ℕ) → v'.owner k ≡ Some u → v.owner k ≡ Some u
  pub sources : (u : ℕ) → sources v' u ≡ sources v u
