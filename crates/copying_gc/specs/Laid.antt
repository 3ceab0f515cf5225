-- How survivors are laid into new chunks.
use Rattle.std.specs.Prelude.{◌≡◌, ℕ, ◌+◌, ◌-◌, ◌<◌, ◌≤◌, Bool, List, [], ◌∷◌, ◌++◌, nat_le, nat_lt, if◌then◌else◌, filter}
use Rattle.copying_gc.specs.Common.{Addr, Born, Cell, Hole, Mark, Moved, size_of, chunk_words, ChunkValue, words_in, cell_of}

-- ---- which objects are copied

-- a small object, of at most 1,024 words, is moved; a large one stays where it is
abbrev pub is_moved : List ChunkValue → Addr → Bool
is_moved h a = nat_le (size_of (cell_of h a)) chunk_words

abbrev pub smalls : List ChunkValue → List Addr → List Addr
smalls h xs = filter (is_moved h) xs

-- the words of an object, if it is small and has its birth name
abbrev pub small_size : Mark → ℕ → ℕ
small_size (Born b) n = if nat_le n chunk_words then n else 0
small_size (Moved to) n = 0
small_size Hole n = 0

-- the words of all small objects of these cells, and of a heap
abbrev pub small_in : List Cell → ℕ
small_in [] = 0
small_in (c ∷ cs) = small_size c.mark (size_of c) + small_in cs

abbrev pub small_words : List ChunkValue → ℕ
small_words [] = 0
small_words (k ∷ ks) = small_in k.cells + small_words ks

-- ---- the last of the chunks laid so far

-- the words left in it; 0 if there is none
abbrev pub room_in : List ChunkValue → ℕ
room_in [] = 0
room_in (k ∷ []) = k.size - words_in k.cells
room_in (k ∷ (l ∷ ks)) = room_in (l ∷ ks)

-- the chunks with one more object in the last one
abbrev pub placed_behind : List ChunkValue → Cell → List ChunkValue
placed_behind [] c = []
placed_behind (k ∷ []) c = record k { cells = k.cells ++ c ∷ [] } ∷ []
placed_behind (k ∷ (l ∷ ks)) c = k ∷ placed_behind (l ∷ ks) c

-- the address of that object
abbrev pub next_place : List ChunkValue → Addr
next_place [] = record { chunk = 0; offset = 0 }
next_place (k ∷ []) = record { chunk = k.number; offset = words_in k.cells }
next_place (k ∷ (l ∷ ks)) = next_place (l ∷ ks)

-- ---- laying

-- the chunks laid so far, and those not opened yet
pub record Laying : Type 0 where
  pub laid : List ChunkValue
  pub spare : List ChunkValue

abbrev pub open_next : List ChunkValue → List ChunkValue → Laying
open_next laid [] = record { laid = laid; spare = [] }
open_next laid (k ∷ ks) = record { laid = laid ++ k ∷ []; spare = ks }

-- the next chunk is opened, if the last one has less room than this
abbrev pub opened : Laying → ℕ → Laying
opened y size = if nat_lt (room_in y.laid) size then open_next y.laid y.spare else y

-- where an object of this size is laid
abbrev pub laid_at : Laying → ℕ → Addr
laid_at y size = next_place (opened y size).laid

-- an object was laid into the last chunk, or, if it doesn't fit there, into the next one
abbrev pub laid_one : Laying → Cell → Laying
laid_one y c = record { laid = placed_behind (opened y (size_of c)).laid c; spare = (opened y (size_of c)).spare }

-- an object of this size fits
abbrev pub ObjectFits : Laying → ℕ → Type 0
ObjectFits y size = (size ≤ room_in (opened y size).laid) × ((laid_at y size).offset < chunk_words)

-- the chunks after the objects at these addresses of a heap are laid, one after another
abbrev pub laid_all : Laying → List ChunkValue → List Addr → Laying
laid_all y h [] = y
laid_all y h (a ∷ xs) = laid_all (laid_one y (cell_of h a)) h xs

-- where they were, and where they are laid
abbrev pub relocations : Laying → List ChunkValue → List Addr → List (Addr × Addr)
relocations y h [] = []
relocations y h (a ∷ xs) = (a, laid_at y (size_of (cell_of h a))) ∷ relocations (laid_one y (cell_of h a)) h xs

-- each of them fits when its turn comes
abbrev pub HaveRoom : Laying → List ChunkValue → List Addr → Type 0
HaveRoom y h [] = Unit {0}
HaveRoom y h (a ∷ xs) = ObjectFits y (size_of (cell_of h a)) × HaveRoom (laid_one y (cell_of h a)) h xs

-- empty chunks of 1,024 words
abbrev pub AreNew : List ChunkValue → Type 0
AreNew [] = Unit {0}
AreNew (k ∷ ks) = ((k.cells ≡ []) × (k.size ≡ chunk_words)) × AreNew ks

-- before anything is laid
abbrev pub nothing_laid : List ChunkValue → Laying
nothing_laid spare = record { laid = []; spare = spare }
