-- The memory behind the shared value, as contracts see it: for each task its heap and frames, its remembered set, and
-- who owns each chunk.
use Rattle.std.specs.Prelude.{ℕ, suc, ℤ, pos, Bool, false, not, Option, Some, None, List, ◌≡◌, ◌==◌, ◌&&◌, [], ◌∷◌, filter, map, if◌then◌else◌}
use Rattle.std.specs.Option.{option_map}
use Rattle.std.specs.List.{flat_map, list_any}
use Rattle.refinement.specs.Common.{Addr, Located, led_object, Name, MarkingValue, CallFrame, RefField, Begun, name_of, same_address}
pub use Rattle.run_ledger.specs.below.plain_vec.{In}

-- the name of an object
abbrev pub object_name : Located → Name
object_name o = name_of o.birth

pub record Chunk : Type 0 where
  pub number : ℕ
  -- its words, in units of 1,024
  pub units : ℕ
  -- a chunk of its own for one large object, or reserved for one
  pub large : Bool
  pub objects : List Located

-- the belongings of a task: its heap, its frames (the top one first), the result that it ended with, and how many
-- objects it has allocated
pub record Belongings : Type 0 where
  pub chunks : List Chunk
  pub room : ℕ
  pub since : ℕ
  pub count : ℕ
  pub frames : List CallFrame
  pub result : ℤ × Option Addr
  pub begun : Option Begun
  -- what is immutable in the ancestors' heaps, the parent's first, as it was when each forked
  pub view : List (List Chunk)

-- of a task that doesn't exist, or has joined
abbrev pub no_belongings : Belongings
no_belongings = record { chunks = []; room = 0; since = 0; count = 0; frames = []; result = (pos 0, None); begun = None; view = [] }

-- what is noted of a heap: the fields that point down into it, the overwritten references into it, whether these are
-- kept, and what is found and marked while it is being marked
pub record Noted : Type 0 where
  pub sources : List RefField
  pub kept : List Addr
  pub keeps : Bool
  pub marked : Option MarkingValue

-- the belongings of the tasks that no worker holds (those of the others have no meaning), what is noted of each heap,
-- and which task owns the chunk of a number, if that is in use
pub record Memory : Type 0 where
  pub belongings : ℕ → Belongings
  pub noted : ℕ → Noted
  pub owner : ℕ → Option ℕ

-- the objects of chunks
abbrev pub objects_of_chunks : List Chunk → List Located
objects_of_chunks ks = flat_map (λ k. k.objects) ks

abbrev pub objects : Memory → ℕ → List Located
objects v t = objects_of_chunks (v.belongings t).chunks

abbrev pub sources : Memory → ℕ → List RefField
sources v t = (v.noted t).sources

-- THE ADDRESS MAP: an object of this name is at this address
pub record LiesAt (n : Name) (a : Addr) (o : Located) : Type 0 where
  pub name : object_name o ≡ n
  pub at : o.at ≡ a

abbrev pub Lies : List Chunk → Name → Addr → Type 0
Lies ks n a = (o : Located) × In (objects_of_chunks ks) o × LiesAt n a o

-- UPDATED REFERENCES

-- an object that was copied, with its references updated
abbrev pub copied_object : (Addr → Addr) → Located → Located
copied_object f o = record (led_object (option_map f) o) { at = f o.at }

abbrev pub is_source : Addr → ℕ → RefField → Bool
is_source a i s = (s.object.chunk == a.chunk) && ((s.object.offset == a.offset) && (s.field == i))

-- the reference fields of the object at a, from the i-th on, with the remembered ones updated
abbrev pub rewritten_refs : (Addr → Addr) → List RefField → Addr → ℕ → List (Option Addr) → List (Option Addr)
rewritten_refs f ss a i [] = []
rewritten_refs f ss a i (r ∷ rs) = (if list_any (is_source a i) ss then option_map f r else r) ∷ rewritten_refs f ss a (suc i) rs

abbrev pub rewritten : (Addr → Addr) → List RefField → Located → Located
rewritten f ss o = record o { refs = rewritten_refs f ss o.at 0 o.refs }

-- belongings with each object changed
abbrev pub mapped_chunk : (Located → Located) → Chunk → Chunk
mapped_chunk one k = record k { objects = map one k.objects }

abbrev pub mapped_belongings : (Located → Located) → Belongings → Belongings
mapped_belongings one h = record h { chunks = map (mapped_chunk one) h.chunks }

abbrev pub rewritten_belongings : (Addr → Addr) → List RefField → Belongings → Belongings
rewritten_belongings f ss h = mapped_belongings (rewritten f ss) h

-- the object at an address changed, any other unchanged
abbrev pub put_at : Addr → (Located → Located) → Located → Located
put_at a f o = if same_address o.at a then f o else o

-- VIEWS

-- what is immutable of a chunk, and of these chunks; the size of a chunk in a view doesn't matter
abbrev pub frozen_chunk : Chunk → Chunk
frozen_chunk k = record { number = k.number; units = 0; large = false; objects = filter (λ o. not o.mutable) k.objects }

abbrev pub frozen_chunks : List Chunk → List Chunk
frozen_chunks ks = map frozen_chunk ks

-- the first chunk of a number
abbrev pub chunk_among : List Chunk → ℕ → Option Chunk
chunk_among [] a = None
chunk_among (k ∷ ks) a = if k.number == a then Some k else chunk_among ks a

abbrev pub seen_at : List Located → Addr → Option Located
seen_at [] a = None
seen_at (o ∷ os) a = if same_address o.at a then Some o else seen_at os a

abbrev pub seen_in : Option Chunk → Addr → Option Located → Option Located
seen_in None a below = below
seen_in (Some k) a below = seen_at k.objects a

-- the object in the nearest level that has the address's chunk
abbrev pub shown_at : List (List Chunk) → Addr → Option Located
shown_at [] a = None
shown_at (ks ∷ kss) a = seen_in (chunk_among ks a.chunk) a (shown_at kss a)

-- a mutable object isn't shown
abbrev pub as_shown : Located → Option Located
as_shown o = if o.mutable then None else Some o
