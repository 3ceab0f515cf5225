-- References updated to where their objects are now.
use Rattle.std.specs.Prelude.{List, [], ◌∷◌, Option, Some, None, nat_lt, if◌then◌else◌, All, length, unwrap_or}
use Rattle.copying_gc.specs.Common.{Addr, Cell, IsObject, moved_to, ChunkValue, cell_of, chunk_position, put_object, new_of}
pub use Rattle.object_layout.specs.Objects.{led_cell, led_chunk}
pub use Rattle.task_frames.specs.FramesValue.{led_frame}
use Rattle.copying_gc.specs.declared.lists.Survivor.{Survivor}
use Rattle.copying_gc.specs.Laid.{is_moved}
use Rattle.copying_gc.specs.Search.{IsTarget}

-- ---- by the relocation list

-- the new address of what was moved; any other is unchanged
abbrev pub new_address : List (Addr × Addr) → Addr → Addr
new_address moved a = unwrap_or (new_of moved a) a

abbrev pub redirected : List (Addr × Addr) → Option Addr → Option Addr
redirected moved None = None
redirected moved (Some a) = Some (new_address moved a)

-- ---- by the addresses that were left in the old heap

-- where the object at an address of the heap is now; an address elsewhere is unchanged
abbrev pub followed : List ChunkValue → Addr → Option Addr
followed h a = if nat_lt (chunk_position h a.chunk) (length h) then moved_to (cell_of h a).mark else Some a

abbrev pub followed_ref : List ChunkValue → Option Addr → Option Addr
followed_ref h None = None
followed_ref h (Some a) = followed h a

-- an object, each of whose references can be followed
abbrev pub HasTargets : List ChunkValue → Cell → Type 0
HasTargets h c = IsObject c.mark × All (IsTarget h) c.refs

-- the heap with the references of one object updated to where their objects are now
abbrev pub followed_at : List ChunkValue → Addr → List ChunkValue
followed_at h a = put_object h a (led_cell (followed_ref h) (cell_of h a))

-- the same, if the object is large
abbrev pub followed_large : List ChunkValue → Survivor → List ChunkValue
followed_large h s = if is_moved h s.old then h else followed_at h s.old

-- the references of each of these can be followed when its turn comes
abbrev pub CanBeFollowed : List ChunkValue → List Survivor → Type 0
CanBeFollowed h [] = Unit {0}
CanBeFollowed h (s ∷ ss) = HasTargets h (cell_of h s.old) × CanBeFollowed (followed_large h s) ss
