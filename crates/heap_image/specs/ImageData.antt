-- Sound pictures.
use Rattle.std.specs.Prelude.{◌≡◌, ◌<◌, ◌≤◌, ◌+◌, ◌⊎◌, ℕ, zero, suc, Some, List, length, slice_get}
use Rattle.plain_vec.specs.Members.{In}
use Rattle.image_check.specs.declared.line.ImageState.TheVariants.{Running}
use Rattle.image_check.specs.declared.line.ImageTask.{ImageTask}
use Rattle.image_check.specs.declared.line.ImageChunk.{ImageChunk}
use Rattle.image_check.specs.declared.line.ImageRemembered.{ImageRemembered}
use Rattle.image_check.specs.Place.{chunk_number, offset}
use Rattle.heap_image.specs.declared.picture.Picked.{Picked}
use Rattle.heap_image.specs.declared.picture.ImageData.{ImageData}
use Rattle.heap_image.specs.Form.{IsInForm}

-- ORDER

-- each item is less than all after it
abbrev pub RisesByPlace : {A : Type 0} → (A → A → Type 0) → List A → Type 0
RisesByPlace {A} before xs = (i j : ℕ) (x y : A) → i < j → slice_get xs i ≡ Some x → slice_get xs j ≡ Some y → before x y

abbrev pub TaskBefore : ImageTask → ImageTask → Type 0
TaskBefore t u = t.number < u.number

abbrev pub ChunkBefore : ImageChunk → ImageChunk → Type 0
ChunkBefore c d = c.number < d.number

abbrev pub ObjectBefore : Picked → Picked → Type 0
ObjectBefore o q = o.address < q.address

-- by task, address and index
abbrev pub RememberedBefore : ImageRemembered → ImageRemembered → Type 0
RememberedBefore f g =
    (f.task < g.task)
    ⊎ ((f.task ≡ g.task) × (f.address < g.address)
    ⊎ (f.task ≡ g.task) × (f.address ≡ g.address) × (f.place < g.place))

-- TASKS

-- the task t has the parent p
abbrev pub HasImageParent : List ImageTask → ℕ → ℕ → Type 0
HasImageParent tasks t p = (k : ImageTask) × In tasks k × (k.number ≡ t) × (k.parent ≡ Some p)

-- n + 1 links from a task to its parent lead to a
abbrev pub ParentsLead : ℕ → List ImageTask → ℕ → ℕ → Type 0
ParentsLead zero tasks t a = HasImageParent tasks t a
ParentsLead (suc n) tasks t a = (p : ℕ) × HasImageParent tasks t p × ParentsLead n tasks p a

-- a is a proper ancestor of t
abbrev pub IsAbove : List ImageTask → ℕ → ℕ → Type 0
IsAbove tasks a t = (n : ℕ) × ParentsLead n tasks t a

abbrev pub HasTask : ImageData → ℕ → Type 0
HasTask p t = (k : ImageTask) × In p.tasks k × (k.number ≡ t)

abbrev pub IsRunning : ImageData → ℕ → Type 0
IsRunning p t = (k : ImageTask) × In p.tasks k × (k.number ≡ t) × (k.state ≡ Running)

-- POSITIONS

-- the chunk of an address; 0 is nil
abbrev pub LiesIn : ImageData → ℕ → ImageChunk → Type 0
LiesIn p a c = In p.chunks c × (0 < a) × (chunk_number a ≡ c.number)

-- the owner of an address
abbrev pub IsOwnedBy : ImageData → ℕ → ℕ → Type 0
IsOwnedBy p a t = (c : ImageChunk) × LiesIn p a c × (c.owner ≡ t)

-- where an object ends in its chunk, after its header, its birth and its fields
abbrev pub picked_end : Picked → ℕ
picked_end o = offset o.address + 2 + length o.references + length o.numbers

-- an object lies inside a chunk, and the chunk's owner isn't running
pub record LiesInIdleChunk (p : ImageData) (o : Picked) : Type 0 where
  pub chunk : ImageChunk
  pub lies : LiesIn p o.address chunk
  pub inside : picked_end o ≤ chunk.words
  pub rests : IsRunning p chunk.owner → ⊥

-- two objects in one chunk don't overlap
abbrev pub PickedDontOverlap : Picked → Picked → Type 0
PickedDontOverlap o q = o.address < q.address → chunk_number o.address ≡ chunk_number q.address → picked_end o ≤ offset q.address

-- REFERENCES

abbrev pub HasObject : ImageData → ℕ → Type 0
HasObject p a = (o : Picked) × In p.objects o × (o.address ≡ a)

-- nil, an object's address, or in a running task's chunk
abbrev pub ImageLeadsSomewhere : ImageData → ℕ → Type 0
ImageLeadsSomewhere p v = (v ≡ 0) ⊎ (HasObject p v ⊎ ((u : ℕ) × IsOwnedBy p v u × IsRunning p u))

-- a reference from field k of heap t's object at a to heap u stays inside, goes up, or is remembered
abbrev pub ImageKeepsToPath : ImageData → ℕ → ℕ → ℕ → ℕ → Type 0
ImageKeepsToPath p a k t u =
    (u ≡ t)
    ⊎ (IsAbove p.tasks u t
    ⊎ (IsAbove p.tasks t u × In p.fields (record { task = u; address = a; place = k })))

-- REMEMBERED FIELDS

-- a reference field of an object whose owner is above the heap that remembers it
pub record IsDownField (p : ImageData) (f : ImageRemembered) : Type 0 where
  pub object : Picked
  pub drawn : In p.objects object
  pub address : object.address ≡ f.address
  pub place : f.place < length object.references
  pub owner : ℕ
  pub owned : IsOwnedBy p f.address owner
  pub above : IsAbove p.tasks owner f.task

-- THE WHOLE

-- a sound picture
pub record IsSoundPicture (p : ImageData) : Type 0 where
  pub form : IsInForm p
  pub tasks_rise : RisesByPlace TaskBefore p.tasks
  pub parents : (t : ImageTask) (q : ℕ) → In p.tasks t → t.parent ≡ Some q → HasTask p q × (q < t.number)
  pub chunks_rise : RisesByPlace ChunkBefore p.chunks
  pub owners : (c : ImageChunk) → In p.chunks c → HasTask p c.owner
  pub objects_rise : RisesByPlace ObjectBefore p.objects
  pub births : (o q : Picked) → In p.objects o → In p.objects q → o.birth ≡ q.birth → o.address ≡ q.address
  pub places : (o : Picked) → In p.objects o → LiesInIdleChunk p o
  pub apart : (o q : Picked) → In p.objects o → In p.objects q → PickedDontOverlap o q
  pub leads : (o : Picked) (v : ℕ) → In p.objects o → In o.references v → ImageLeadsSomewhere p v
  pub keeps : (o : Picked) (k v t u : ℕ) → In p.objects o → slice_get o.references k ≡ Some v → IsOwnedBy p o.address t → IsOwnedBy p v u → ImageKeepsToPath p o.address k t u
  pub fields_rise : RisesByPlace RememberedBefore p.fields
  pub fields_fit : (f : ImageRemembered) → In p.fields f → IsDownField p f
