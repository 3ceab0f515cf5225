-- Walks over the objects of a heap by their birth names.
use Rattle.std.specs.Prelude.{◌≡◌, List}
use Rattle.object_layout.specs.declared.word.Addr.{Addr}
use Rattle.object_layout.specs.declared.word.Birth.{Birth}
use Rattle.object_layout.specs.Cell.{Born}
use Rattle.object_layout.specs.ChunkValue.{ChunkValue}
use Rattle.object_layout.specs.Chunks.{cell_of}
use Rattle.walk_laws.specs.Reached.{IsReached}

-- the object at this address has this name
abbrev pub ObjectBears : List ChunkValue → Addr → Birth → Type 0
ObjectBears h a n = (cell_of h a).mark ≡ Born n

-- names are distinct
abbrev pub AreBornOnce : List ChunkValue → Type 0
AreBornOnce h = (a b : Addr) (n : Birth) → ObjectBears h a n → ObjectBears h b n → a ≡ b

-- walks over names start at the names of the objects at which walks over addresses start
abbrev pub StartsNamed : List ChunkValue → (Addr → Type 0) → Birth → Type 0
StartsNamed h starts n = (a : Addr) × ObjectBears h a n × starts a

-- and go from name to name as those go from object to object
abbrev pub LeadsNamed : List ChunkValue → (Addr → Addr → Type 0) → Birth → Birth → Type 0
LeadsNamed h leads m n = (b : Addr) × (a : Addr) × ObjectBears h b m × ObjectBears h a n × leads b a

-- walks over names lead to the object of this name
abbrev pub IsReachedByName : List ChunkValue → (Addr → Type 0) → (Addr → Addr → Type 0) → Birth → Type 0
IsReachedByName h starts leads n = IsReached (StartsNamed h starts) (LeadsNamed h leads) n
