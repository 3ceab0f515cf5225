-- What entries change: in the accounts (laws of run_ledger that the lemmas here take as hypotheses), and in a memory
-- (what the contracts of calls state).
use Rattle.std.specs.Prelude.{◌≡◌, ◌⊎◌, ◌↔◌, ℕ, ℤ, pos, ◌+◌, true, false, Option, Some, None, is_some, List, [], ◌∷◌, ◌++◌, slice_get, slice_set, length, map}
use Rattle.std.specs.Option.{option_map}
use Rattle.refinement.specs.Common.{Addr, Located, Name, Object, Running, Ended, Task, object_at, is_on_path, is_waiting, result_of, Ledger, heap_of, CallFrame, RefField, own, Rests, int_of, ref_of, led_frame}
use Rattle.refinement.specs.Memory.{Chunk, Belongings, no_belongings, Memory, In, object_name, objects, sources, Lies, frozen_chunks, copied_object, rewritten_belongings, mapped_chunk, put_at}
use Rattle.refinement.specs.Layout.{words}
use Rattle.refinement.specs.ReadsReference.{IsModelObject, TaskIsRead}
use Rattle.refinement.specs.MemoryStands.{LiesWithOwner, BelongingsStand, IsSource}

-- THE MEMORY

-- of the objects in t's belongings exactly those with these names stay, each at its address; nothing else of the memory
-- changes
pub record KeepsJust (v v' : Memory) (l l' : Ledger) (t : ℕ) (names : List Name) : Type 0 where
  pub belongings : BelongingsStand v' l' t
  pub stays : (o : Located) → In (objects v t) o → In names (object_name o) → In (objects v' t) o
  pub only : (o : Located) → In (objects v' t) o → In (objects v t) o × In names (object_name o)
  pub frames : (v'.belongings t).frames ≡ (v.belongings t).frames
  pub result : (v'.belongings t).result ≡ (v.belongings t).result
  pub view : (v'.belongings t).view ≡ (v.belongings t).view
  pub others : (u : ℕ) → (u ≡ t → ⊥) → v'.belongings u ≡ v.belongings u
  pub owners : (k u : ℕ) → (u ≡ t → ⊥) → v.owner k ≡ Some u → v'.owner k ≡ Some u
  -- no chunk is taken
  pub owned : (k u : ℕ) → v'.owner k ≡ Some u → v.owner k ≡ Some u
  pub sources : (u : ℕ) → sources v' u ≡ sources v u

-- a leaf collection of t ends: of its objects those with these names are copied, and each reference to one is updated
-- to its new address: in the copies, in t's frames, and in the remembered fields of other tasks
pub record Moves (v v' : Memory) (l l' : Ledger) (t : ℕ) (names : List Name) (f : Addr → Addr) : Type 0 where
  pub belongings : BelongingsStand v' l' t
  pub copied : (o : Located) → In (objects v t) o → In names (object_name o) → In (objects v' t) (copied_object f o)
  pub only : (o' : Located) → In (objects v' t) o' → (o : Located) × In (objects v t) o × In names (object_name o) × (o' ≡ copied_object f o)
  pub frames : (v'.belongings t).frames ≡ map (led_frame (option_map f)) (v.belongings t).frames
  pub view : (v'.belongings t).view ≡ (v.belongings t).view
  pub others : (u : ℕ) → (u ≡ t → ⊥) → v'.belongings u ≡ rewritten_belongings f (sources v t) (v.belongings u)
  -- an address in another's chunk is unchanged
  pub same : (a : Addr) (u : ℕ) → (u ≡ t → ⊥) → v.owner a.chunk ≡ Some u → f a ≡ a
  pub owners : (k u : ℕ) → (u ≡ t → ⊥) → v.owner k ≡ Some u → v'.owner k ≡ Some u
  pub owned : (k u : ℕ) → v'.owner k ≡ Some u → v.owner k ≡ Some u
  pub sources : (u : ℕ) → sources v' u ≡ sources v u

-- JOINS: both children c and d of the task p join it, c the left one

-- the top frame with both results
abbrev pub with_results : ℤ × Option Addr → ℤ × Option Addr → CallFrame → CallFrame
with_results rl rr f = record f { ints = slice_set (slice_set f.ints 0 rl.0) 1 rr.0; refs = slice_set (slice_set f.refs 0 rl.1) 1 rr.1 }

abbrev pub top_with_results : ℤ × Option Addr → ℤ × Option Addr → List CallFrame → List CallFrame
top_with_results rl rr [] = []
top_with_results rl rr (f ∷ fs) = with_results rl rr f ∷ fs

-- a remembered field of a child is lifted, unless its object is in the parent's heap
abbrev pub IsLifted : Memory → ℕ → ℕ → RefField → Type 0
IsLifted v p c s = In (sources v c) s × (v.owner s.object.chunk ≡ Some p → ⊥)

-- of the memory
pub record JoinsBelongings (v v' : Memory) (p c d : ℕ) (rl rr : ℤ × Option Addr) : Type 0 where
  pub chunks : (v'.belongings p).chunks ≡ (v.belongings c).chunks ++ (v.belongings d).chunks ++ (v.belongings p).chunks
  pub room : (v'.belongings p).room ≡ (v.belongings p).room
  pub since : (v'.belongings p).since ≡ (v.belongings p).since + (v.belongings c).since + (v.belongings d).since
  pub count : (v'.belongings p).count ≡ (v.belongings p).count
  pub frames : (v'.belongings p).frames ≡ top_with_results rl rr (v.belongings p).frames
  pub begun : (v'.belongings p).begun ≡ (v.belongings p).begun
  pub view : (v'.belongings p).view ≡ (v.belongings p).view
  -- the children leave no belongings
  pub left : v'.belongings c ≡ no_belongings
  pub right : v'.belongings d ≡ no_belongings
  pub others : (u : ℕ) → (u ≡ p → ⊥) → (u ≡ c → ⊥) → (u ≡ d → ⊥) → v'.belongings u ≡ v.belongings u
  -- the chunks of the children are the parent's
  pub owner_left : (k : Chunk) → In (v.belongings c).chunks k → v'.owner k.number ≡ Some p
  pub owner_right : (k : Chunk) → In (v.belongings d).chunks k → v'.owner k.number ≡ Some p
  pub owners : (k u : ℕ) → (u ≡ c → ⊥) → (u ≡ d → ⊥) → v.owner k ≡ Some u → v'.owner k ≡ Some u
  -- and no other chunk changes its owner
  pub owned : (k u : ℕ) → v'.owner k ≡ Some u → (v.owner k ≡ Some u) ⊎ ((u ≡ p) × ((v.owner k ≡ Some c) ⊎ (v.owner k ≡ Some d)))
  -- the remembered fields
  pub lifted : (s : RefField) → In (sources v' p) s ↔ (In (sources v p) s ⊎ (IsLifted v p c s ⊎ IsLifted v p d s))
  pub left_noted : sources v' c ≡ []
  pub right_noted : sources v' d ≡ []
  pub sources : (u : ℕ) → (u ≡ p → ⊥) → (u ≡ c → ⊥) → (u ≡ d → ⊥) → sources v' u ≡ sources v u

-- TASKS THAT WORKERS HOLD

-- the memories differ only in t's belongings
pub record SameBut (v v' : Memory) (t : ℕ) : Type 0 where
  pub belongings : (u : ℕ) → (u ≡ t → ⊥) → v'.belongings u ≡ v.belongings u
  pub owner : (k : ℕ) → v'.owner k ≡ v.owner k
  pub sources : (u : ℕ) → sources v' u ≡ sources v u

-- FORKS: the task t makes the children a and b, whose functions are g and h

abbrev pub advanced : List CallFrame → List CallFrame
advanced [] = []
advanced (f ∷ fs) = record f { next = f.next + 1 } ∷ fs

-- a frame of a function with the registers of the top one
abbrev pub entered_frames : ℕ → List CallFrame → List CallFrame
entered_frames g [] = []
entered_frames g (f ∷ fs) = record f { function = g; next = 0 } ∷ []

abbrev pub child_belongings : ℕ → Belongings → Belongings
child_belongings g h = record { chunks = []; room = 0; since = 0; count = 0; frames = entered_frames g h.frames; result = (pos 0, None); begun = None; view = frozen_chunks h.chunks ∷ h.view }

-- of the memory
pub record ForksBelongings (v v' : Memory) (t a b g h : ℕ) : Type 0 where
  pub belongings : v'.belongings t ≡ record (v.belongings t) { frames = advanced (v.belongings t).frames }
  pub left : v'.belongings a ≡ child_belongings g (v.belongings t)
  pub right : v'.belongings b ≡ child_belongings h (v.belongings t)
  pub others : (u : ℕ) → (u ≡ t → ⊥) → (u ≡ a → ⊥) → (u ≡ b → ⊥) → v'.belongings u ≡ v.belongings u
  pub owner : (k : ℕ) → v'.owner k ≡ v.owner k
  pub left_noted : sources v' a ≡ []
  pub right_noted : sources v' b ≡ []
  pub sources : (u : ℕ) → (u ≡ a → ⊥) → (u ≡ b → ⊥) → sources v' u ≡ sources v u

-- WRITES: a step of t writes the object n, which is at a

-- of the memory: the object at a is changed by f, and what is noted grows
pub record WritesAt (v v' : Memory) (t : ℕ) (a : Addr) (f : Located → Located) : Type 0 where
  pub same_name : (o : Located) → object_name (f o) ≡ object_name o
  pub same_at : (o : Located) → (f o).at ≡ o.at
  pub same_words : (o : Located) → words (f o) ≡ words o
  pub same_kind : (o : Located) → (f o).mutable ≡ o.mutable
  pub chunks : (u : ℕ) → (v'.belongings u).chunks ≡ map (mapped_chunk (put_at a f)) (v.belongings u).chunks
  pub room : (u : ℕ) → (v'.belongings u).room ≡ (v.belongings u).room
  pub since : (u : ℕ) → (v'.belongings u).since ≡ (v.belongings u).since
  pub count : (u : ℕ) → (v'.belongings u).count ≡ (v.belongings u).count
  pub begun : (u : ℕ) → (v'.belongings u).begun ≡ (v.belongings u).begun
  pub view : (u : ℕ) → (v'.belongings u).view ≡ (v.belongings u).view
  pub frames : (u : ℕ) → (u ≡ t → ⊥) → (v'.belongings u).frames ≡ (v.belongings u).frames
  pub result : (u : ℕ) → (u ≡ t → ⊥) → (v'.belongings u).result ≡ (v.belongings u).result
  pub owner : (k : ℕ) → v'.owner k ≡ v.owner k
  pub noted : (u : ℕ) (s : RefField) → In (sources v u) s → In (sources v' u) s

-- what the call shows of the object and of the task that writes it
pub record WritesWell (v v' : Memory) (l l' : Ledger) (t : ℕ) (n : Name) (a : Addr) (x x' : Object) (f : Located → Located) : Type 0 where
  pub place : LiesWithOwner v l n a
  pub rests : Rests l (own l n)
  pub mutable : x.mutable ≡ true
  pub still : x'.mutable ≡ true
  pub reads : (o : Located) → IsModelObject (LiesWithOwner v l) o x → IsModelObject (LiesWithOwner v l) (f o) x'
  -- each reference that it has now goes up or inside, or is remembered
  pub minds : (i : ℕ) (r : Name) → slice_get x'.refs i ≡ Some (Some r) → (is_on_path l.machine.tasks (own l r) (own l n) ≡ true) ⊎ In (sources v' (own l r)) (record { object = a; field = i })
  -- what is noted is admissible
  pub sources : (u : ℕ) (s : RefField) → In (sources v' u) s → IsSource v l u s
  pub task : (y : Task) → Rests l t → slice_get l'.machine.tasks t ≡ Some y → TaskIsRead (LiesWithOwner v l) (v'.belongings t) y

-- STEPS OF ONE'S OWN: the task t, at rest with its belongings in the memory, takes a private step

-- of the memory
pub record StepsInBelongings (v v' : Memory) (t : ℕ) : Type 0 where
  pub others : (u : ℕ) → (u ≡ t → ⊥) → v'.belongings u ≡ v.belongings u
  pub owner : (k : ℕ) → v'.owner k ≡ v.owner k
  pub sources : (u : ℕ) → sources v' u ≡ sources v u
  pub view : (v'.belongings t).view ≡ (v.belongings t).view
  -- its objects keep their addresses
  pub stays : (n : Name) (a : Addr) → Lies (v.belongings t).chunks n a → Lies (v'.belongings t).chunks n a

-- what is shown of its own belongings after the step
pub record BelongingsAreRead (v' : Memory) (l' : Ledger) (t : ℕ) : Type 0 where
  pub belongings : BelongingsStand v' l' t
  pub contents : (o : Located) → In (objects v' t) o → (x : Object) × (object_at l'.machine.store (object_name o) ≡ Some x) × IsModelObject (LiesWithOwner v' l') o x
  pub task : (x : Task) → slice_get l'.machine.tasks t ≡ Some x → TaskIsRead (LiesWithOwner v' l') (v'.belongings t) x

-- it allocates o, which is x
pub record Allocates (v v' : Memory) (l l' : Ledger) (t : ℕ) (o : Located) (x : Object) : Type 0 where
  pub is : object_at l'.machine.store (object_name o) ≡ Some x
  pub others : (n : Name) → (n ≡ object_name o → ⊥) → object_at l'.machine.store n ≡ object_at l.machine.store n
  pub new : object_at l.machine.store (object_name o) ≡ None
  pub belongings : BelongingsStand v' l' t
  pub objects : (q : Located) → In (objects v' t) q ↔ (In (objects v t) q ⊎ (o ≡ q))
  pub reads : IsModelObject (LiesWithOwner v l) o x
  -- its register names the new object, and its other references are unchanged
  pub task : (y : Task) → slice_get l'.machine.tasks t ≡ Some y → TaskIsRead (λ n a. LiesWithOwner v l n a ⊎ ((object_name o ≡ n) × (o.at ≡ a))) (v'.belongings t) y

-- NOTHING MOVES: chunks are taken, counts are set, objects are marked

-- of the memory: each task's belongings have the same objects, frames and result, and its counts are those of its
-- account
pub record SameObjects (v v' : Memory) (l l' : Ledger) : Type 0 where
  pub belongings : (u : ℕ) → Rests l' u → BelongingsStand v' l' u
  pub objects : (u : ℕ) → objects v' u ≡ objects v u
  -- a heap that waits has as many chunks
  pub chunks : (u : ℕ) → is_waiting (slice_get l.machine.tasks u) ≡ true → length (v'.belongings u).chunks ≡ length (v.belongings u).chunks
  pub frames : (u : ℕ) → (v'.belongings u).frames ≡ (v.belongings u).frames
  pub result : (u : ℕ) → (v'.belongings u).result ≡ (v.belongings u).result
  pub view : (u : ℕ) → (v'.belongings u).view ≡ (v.belongings u).view
  pub owner : (k u : ℕ) → v.owner k ≡ Some u → v'.owner k ≡ Some u
  -- no waiting task gets a chunk, and none that doesn't exist
  pub taken : (k u : ℕ) → v'.owner k ≡ Some u → (v.owner k ≡ Some u) ⊎ ((is_waiting (slice_get l.machine.tasks u) ≡ false) × (is_some (slice_get l.machine.tasks u) ≡ true))
  pub begun : (u : ℕ) → (heap_of l' u).begun ≡ (heap_of l u).begun → (v'.belongings u).begun ≡ (v.belongings u).begun
  pub sources : (u : ℕ) → sources v' u ≡ sources v u

-- A STORE: a running task t, with its belongings in the memory, writes the reference r into the field i of the object
-- n, which is at a. Its top frame is f; its registers o and w hold n and r.

abbrev pub with_field : ℕ → Option Addr → Located → Located
with_field i b o = record o { refs = slice_set o.refs i b }

-- a frame that goes on, with a number in one of its registers if the step sets one
abbrev pub gone_on : Option (ℕ × ℤ) → CallFrame → CallFrame
gone_on None f = record f { next = f.next + 1 }
gone_on (Some c) f = record f { next = f.next + 1; ints = slice_set f.ints c.0 c.1 }

-- of the memory: the field is written, and noted if it points down; the step sets the number register c, or none
pub record StoresAt (v v' : Memory) (l : Ledger) (t : ℕ) (f : CallFrame) (fs : List CallFrame) (a : Addr) (w i : ℕ) (c : Option (ℕ × ℤ)) : Type 0 where
  pub frames : (v.belongings t).frames ≡ f ∷ fs
  pub goes : (v'.belongings t).frames ≡ gone_on c f ∷ fs
  pub writes : WritesAt v v' t a (with_field i (ref_of f w))
  -- if the owner b of the chunk pointed into isn't on the path of the owner c of the object's chunk
  pub down : (b : Addr) (c d : ℕ) → ref_of f w ≡ Some b → v.owner a.chunk ≡ Some c → v.owner b.chunk ≡ Some d → is_on_path l.machine.tasks d c ≡ false → In (sources v' d) (record { object = a; field = i })
  pub only : (u : ℕ) (s : RefField) → In (sources v' u) s
      → In (sources v u) s ⊎ ((b : Addr) × (c : ℕ) × (ref_of f w ≡ Some b) × (v.owner b.chunk ≡ Some u) × (v.owner a.chunk ≡ Some c) × (is_on_path l.machine.tasks u c ≡ false) × (s ≡ record { object = a; field = i }))

-- RESULTS: a task's result r, and how its belongings hold it

-- the task has ended
pub record EndedWith (v : Memory) (l : Ledger) (c : ℕ) (r : ℤ × Option Name) (a : ℤ × Option Addr) : Type 0 where
  pub task : Task
  pub is : slice_get l.machine.tasks c ≡ Some task
  pub ended : task.status ≡ Ended r.0 r.1
  pub result : (v.belongings c).result ≡ a

-- or its last frame returns now
pub record ReturnsWith (v : Memory) (l : Ledger) (c : ℕ) (r : ℤ × Option Name) (a : ℤ × Option Addr) : Type 0 where
  pub task : Task
  pub is : slice_get l.machine.tasks c ≡ Some task
  pub runs : task.status ≡ Running
  pub returns : r ≡ result_of task.top
  pub frame : CallFrame
  pub below : List CallFrame
  pub frames : (v.belongings c).frames ≡ frame ∷ below
  pub result : a ≡ (int_of frame 0, ref_of frame 0)

abbrev pub HasResult : Memory → Ledger → ℕ → ℤ × Option Name → ℤ × Option Addr → Type 0
HasResult v l c r a = EndedWith v l c r a ⊎ ReturnsWith v l c r a

-- ENDS: the task t ends, and its sibling goes on

-- of the memory: its belongings keep the result of its last frame f
pub record EndsBelongings (v v' : Memory) (t : ℕ) (f : CallFrame) (fs : List CallFrame) : Type 0 where
  pub frames : (v.belongings t).frames ≡ f ∷ fs
  pub result : (v'.belongings t).result ≡ (int_of f 0, ref_of f 0)
  pub begun : (v'.belongings t).begun ≡ (v.belongings t).begun
  pub view : (v'.belongings t).view ≡ (v.belongings t).view
  pub chunks : (v'.belongings t).chunks ≡ (v.belongings t).chunks
  pub room : (v'.belongings t).room ≡ (v.belongings t).room
  pub since : (v'.belongings t).since ≡ (v.belongings t).since
  pub count : (v'.belongings t).count ≡ (v.belongings t).count
  pub others : (u : ℕ) → (u ≡ t → ⊥) → v'.belongings u ≡ v.belongings u
  pub owner : (k : ℕ) → v'.owner k ≡ v.owner k
  pub sources : (u : ℕ) → sources v' u ≡ sources v u

-- STORES OF A NUMBER, as those of a reference

abbrev pub with_int_field : ℕ → ℤ → Located → Located
with_int_field i k o = record o { ints = slice_set o.ints i k }

-- of the memory
pub record StoresNumberAt (v v' : Memory) (t : ℕ) (f : CallFrame) (fs : List CallFrame) (a : Addr) (w i : ℕ) : Type 0 where
  pub frames : (v.belongings t).frames ≡ f ∷ fs
  pub goes : (v'.belongings t).frames ≡ record f { next = f.next + 1 } ∷ fs
  pub writes : WritesAt v v' t a (with_int_field i (int_of f w))
  pub only : (u : ℕ) (s : RefField) → In (sources v' u) s → In (sources v u) s
