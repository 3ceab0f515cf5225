-- An object as callers see it.
use Rattle.std.specs.Prelude.{ℕ, ◌+◌, ◌<◌, ◌^◌, ℤ, Bool, false, List, [], Option, Some, None, length, All, FitsSigned, pos, replicate, slice_set}
use Rattle.std.specs.Int.{w64}
pub use Rattle.chunk_sizes.specs.Sizes.{chunk_words, units}
use Rattle.object_layout.specs.declared.word.Addr.{Addr}
use Rattle.object_layout.specs.declared.word.Birth.{Birth}
use Rattle.object_layout.specs.declared.word.Header.{Header}

-- An object has its birth name until it is moved to another address. A hole is no object: it is the space of an object
-- that was swept.
pub data Mark : Type 0 where
  Born : Birth → Mark
  Moved : Addr → Mark
  Hole : Mark

-- the mark, whether it is mutable, its references and its numbers; in a hole these are what the swept object left, and
-- no call reads them
pub record Cell : Type 0 where
  pub mark : Mark
  pub mutable : Bool
  pub refs : List (Option Addr)
  pub ints : List ℤ

-- the kind of an object
abbrev pub header_of : Cell → Header
header_of c = record { nrefs = length c.refs; nints = length c.ints; mutable = c.mutable }

-- how many words an object, or a hole, takes
abbrev pub size_of : Cell → ℕ
size_of c = 2 + (length c.refs + length c.ints)

-- a new object: fields nil and 0
abbrev pub new_cell : Header → Birth → Cell
new_cell h b = record {
  mark = Born b;
  mutable = h.mutable;
  refs = replicate h.nrefs None;
  ints = replicate h.nints (pos 0);
}

-- a new object with these fields
abbrev pub filled_cell : Header → Birth → List (Option Addr) → List ℤ → Cell
filled_cell h b refs ints = record { mark = Born b; mutable = h.mutable; refs = refs; ints = ints }

-- no object
abbrev pub no_cell : Cell
no_cell = record { mark = Hole; mutable = false; refs = []; ints = [] }

-- an object begins within the first 1,024 words of its chunk
abbrev pub BeginsInFirstUnit : Option Addr → Type 0
BeginsInFirstUnit None = Unit {0}
BeginsInFirstUnit (Some a) = a.offset < chunk_words

-- ---- what a mark means

-- there is an object
abbrev pub IsObject : Mark → Type 0
IsObject (Born b) = Unit {0}
IsObject (Moved to) = Unit {0}
IsObject Hole = ⊥

-- there is an object with its birth name
abbrev pub IsBorn : Mark → Type 0
IsBorn (Born b) = Unit {0}
IsBorn (Moved to) = ⊥
IsBorn Hole = ⊥

-- where the object was moved to, if it was
abbrev pub moved_to : Mark → Option Addr
moved_to (Born b) = None
moved_to (Moved to) = Some to
moved_to Hole = None

-- a cell with this mark, if it is an object
abbrev pub marked_object : Mark → Cell → Cell
marked_object (Born b) c = c
marked_object (Moved to) c = c
marked_object Hole c = no_cell

-- a cell, if it is an object: nothing is read from a hole
abbrev pub as_object : Cell → Cell
as_object c = marked_object c.mark c

-- ---- how calls change an object

-- one reference written
abbrev pub with_ref : Cell → ℕ → Option Addr → Cell
with_ref c field r = record c { refs = slice_set c.refs field r }

-- one number written
abbrev pub cell_with_int : Cell → ℕ → ℤ → Cell
cell_with_int c field z = record c { ints = slice_set c.ints field z }

-- all references, or all numbers, written
abbrev pub with_refs : Cell → List (Option Addr) → Cell
with_refs c refs = record c { refs = refs }

abbrev pub with_ints : Cell → List ℤ → Cell
with_ints c ints = record c { ints = ints }

-- another mark
abbrev pub with_mark : Cell → Mark → Cell
with_mark c m = record c { mark = m }

-- no longer mutable
abbrev pub frozen : Cell → Cell
frozen c = record c { mutable = false }

-- ---- what words can hold

-- a reference that a word can hold
abbrev pub IsRef : Option Addr → Type 0
IsRef None = Unit {0}
IsRef (Some a) = (a.offset < chunk_words) × (a.chunk < 2 ^ 32)

-- a mark that a word can hold
abbrev pub IsMark : Mark → Type 0
IsMark (Born b) = (b.task < 2 ^ 32) × (b.count < 2 ^ 32)
IsMark (Moved to) = IsRef (Some to)
IsMark Hole = Unit {0}

-- an object, or a hole, that words can hold
pub record IsCell (c : Cell) : Type 0 where
  pub mark : IsMark c.mark
  pub nrefs : length c.refs < 2 ^ 20
  pub nints : length c.ints < 2 ^ 20
  pub refs : All IsRef c.refs
  pub ints : All (FitsSigned w64) c.ints
