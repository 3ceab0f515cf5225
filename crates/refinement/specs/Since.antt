-- What a memory keeps of a waiting heap from its task's fork until its sweep: enough to find the snapshot by addresses.
use Rattle.std.specs.Prelude.{◌≡◌, ◌⊎◌, ◌↔◌, ◌&&◌, not, ℕ, true, false, Some, None, List, [], ◌++◌, length, slice_get}
use Rattle.refinement.specs.Common.{is_waiting, Addr, Located, Ledger, heap_of, CallFrame}
use Rattle.refinement.specs.Memory.{Belongings, Memory, In, object_name, objects, objects_of_chunks}
use Rattle.refinement.specs.LeafCollectionBegins.{IsReachedAt, IsRememberedRoot}
use Rattle.refinement.specs.Marking.{MarkedBy}

abbrev pub kept : Memory → ℕ → List Addr
kept v t = (v.noted t).kept

pub record Since (v : Memory) (l : Ledger) (t : ℕ) : Type 0 where
  -- the belongings as they were at the fork, and the roots of its heap then
  pub belongings : Belongings
  pub roots : List Addr
  -- its frames have the references that they had
  pub registers : (f : CallFrame) → In belongings.frames f → (g : CallFrame) × In (v.belongings t).frames g × (g.refs ≡ f.refs)
  -- each root is still one, or was kept
  pub rooted : (b : Addr) → In roots b → IsRememberedRoot v l t b ⊎ In (kept v t) b
  -- its objects are those that are there now, where they are
  pub there : (o : Located) → In (objects_of_chunks belongings.chunks) o → (q : Located) × In (objects v t) q × (q.at ≡ o.at) × (object_name q ≡ object_name o)
  pub were : (q : Located) → In (objects v t) q → (o : Located) × In (objects_of_chunks belongings.chunks) o × (q.at ≡ o.at) × (object_name q ≡ object_name o)
  -- the snapshot is what was reachable then
  pub snapshot : (q : Located) → In (objects v t) q → IsReachedAt belongings roots q.at ↔ In (heap_of l t).snapshot (object_name q)
  -- what was overwritten since then was kept, and is in the snapshot
  pub overwritten : (o q : Located) (b : Addr) → In (objects_of_chunks belongings.chunks) o → In (objects v t) q → q.at ≡ o.at → In o.refs (Some b) → v.owner b.chunk ≡ Some t → In q.refs (Some b) ⊎ In (kept v t) b
  pub each : (b : Addr) → In (kept v t) b → (q : Located) × In (objects v t) q × (q.at ≡ b) × In (heap_of l t).snapshot (object_name q)

-- a write of the field i of the object at a in the memory v: the old value is kept if it points into t's heap
pub record KeepsOldValue (v v' : Memory) (t : ℕ) (a : Addr) (i : ℕ) : Type 0 where
  pub marked : (v'.noted t).marked ≡ (v.noted t).marked
  pub more : List Addr
  pub grows : kept v' t ≡ kept v t ++ more
  pub old : (u : ℕ) (q : Located) (b : Addr) → v.owner a.chunk ≡ Some u → In (objects v u) q → q.at ≡ a → slice_get q.refs i ≡ Some (Some b) → v.owner b.chunk ≡ Some t → In (kept v' t) b
  pub only : (b : Addr) → In (kept v' t) b → In (kept v t) b ⊎ ((u : ℕ) × (q : Located) × In (objects v u) q × (q.at ≡ a) × (slice_get q.refs i ≡ Some (Some b)) × (v.owner b.chunk ≡ Some t) × (v.owner a.chunk ≡ Some u))

-- the invariant of what is noted of a heap: whether references are kept, and since when, and what is marked
pub record NotedAt (v : Memory) (l : Ledger) (t : ℕ) : Type 0 where
  pub keeps : (v.noted t).keeps ≡ (is_waiting (slice_get l.machine.tasks t) && not (heap_of l t).swept)
  pub since : (v.noted t).keeps ≡ true → Since v l t
  pub marks : (v.noted t).keeps ≡ true → MarkedBy v l t (v.noted t).marked

-- the notes of u's heap are unchanged, and so is all on which they depend
pub record SameNotes (v v' : Memory) (l l' : Ledger) (u : ℕ) : Type 0 where
  pub keeps : (v'.noted u).keeps ≡ (v.noted u).keeps
  pub kept : kept v' u ≡ kept v u
  pub waits : is_waiting (slice_get l'.machine.tasks u) ≡ is_waiting (slice_get l.machine.tasks u)
  pub swept : (heap_of l' u).swept ≡ (heap_of l u).swept
  pub snapshot : (heap_of l' u).snapshot ≡ (heap_of l u).snapshot
  -- and it gets no chunk
  pub none_new : (k : ℕ) → v'.owner k ≡ Some u → v.owner k ≡ Some u
  pub frames : (v'.belongings u).frames ≡ (v.belongings u).frames
  pub rooted : (b : Addr) → IsRememberedRoot v l u b → IsRememberedRoot v' l' u b

-- nothing is kept of it any more, or not yet
pub record NoNotes (v' : Memory) (l' : Ledger) (u : ℕ) : Type 0 where
  pub keeps : (v'.noted u).keeps ≡ false
  pub needless : (is_waiting (slice_get l'.machine.tasks u) && not (heap_of l' u).swept) ≡ false

-- each object of u keeps its address and its references into u
pub record StaysWhole (v v' : Memory) (u : ℕ) : Type 0 where
  pub there : (o : Located) → In (objects v u) o → (q : Located) × In (objects v' u) q × (q.at ≡ o.at) × (object_name q ≡ object_name o)
  pub were : (q : Located) → In (objects v' u) q → (o : Located) × In (objects v u) o × (q.at ≡ o.at) × (object_name q ≡ object_name o) × ((b : Addr) → v.owner b.chunk ≡ Some u → In o.refs (Some b) → In q.refs (Some b))
  pub count : length (objects v' u) ≡ length (objects v u)
  pub chunks : length (v'.belongings u).chunks ≡ length (v.belongings u).chunks

-- ALL HEAPS

abbrev pub AllNoted : Memory → Ledger → Type 0
AllNoted v l = (u : ℕ) → NotedAt v l u

-- what is kept of u's heap stays, and what is marked
pub record NotesStay (v v' : Memory) (u : ℕ) : Type 0 where
  pub keeps : (v'.noted u).keeps ≡ (v.noted u).keeps
  pub kept : kept v' u ≡ kept v u
  pub marked : (v'.noted u).marked ≡ (v.noted u).marked

-- u's heap is marked further: what is kept stays, and the invariant of what is marked holds afterwards
pub record MarksOn (v v' : Memory) (l' : Ledger) (u : ℕ) : Type 0 where
  pub keeps : (v'.noted u).keeps ≡ (v.noted u).keeps
  pub kept : kept v' u ≡ kept v u
  pub marks : MarkedBy v' l' u (v'.noted u).marked

-- the notes of a heap if nothing moves: they are unchanged, the heap's task doesn't wait, or the heap is marked further
abbrev pub Noting : Memory → Memory → Ledger → Ledger → ℕ → Type 0
Noting v v' l l' u = (NotesStay v v' u × ((heap_of l' u).marked ≡ (heap_of l u).marked)) ⊎ ((((v'.noted u).keeps ≡ false) × (is_waiting (slice_get l.machine.tasks u) ≡ false)) ⊎ MarksOn v v' l' u)

-- t's fork: from now on its overwritten references are kept
pub record ForksNotes (v v' : Memory) (t a b : ℕ) : Type 0 where
  pub keeps : (v'.noted t).keeps ≡ true
  pub kept : kept v' t ≡ []
  pub marked : (v'.noted t).marked ≡ None
  pub left : (v'.noted a).keeps ≡ false
  pub right : (v'.noted b).keeps ≡ false
  pub others : (u : ℕ) → (u ≡ t → ⊥) → (u ≡ a → ⊥) → (u ≡ b → ⊥) → NotesStay v v' u

-- a join of c and d with p: nothing is kept for them any more
pub record JoinsNotes (v v' : Memory) (p c d : ℕ) : Type 0 where
  pub parent : (v'.noted p).keeps ≡ false
  pub left : (v'.noted c).keeps ≡ false
  pub right : (v'.noted d).keeps ≡ false
  pub others : (u : ℕ) → (u ≡ p → ⊥) → (u ≡ c → ⊥) → (u ≡ d → ⊥) → NotesStay v v' u

-- nothing is kept for t, and the notes of others are unchanged
pub record OthersNotes (v v' : Memory) (t : ℕ) : Type 0 where
  pub none : (v'.noted t).keeps ≡ false
  pub others : (u : ℕ) → (u ≡ t → ⊥) → NotesStay v v' u

-- a store of t into the field i of the object at a: the old value is kept for the waiting heap that it points into
pub record StoresNotes (v v' : Memory) (t : ℕ) (a : Addr) (i : ℕ) : Type 0 where
  pub none : (v'.noted t).keeps ≡ false
  pub keeps : (u : ℕ) → (u ≡ t → ⊥) → (v'.noted u).keeps ≡ (v.noted u).keeps
  pub each : (u : ℕ) → (u ≡ t → ⊥) → (v.noted u).keeps ≡ true → KeepsOldValue v v' u a i
