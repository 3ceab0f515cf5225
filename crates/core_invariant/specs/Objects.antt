-- Chunks and the levels of a view as the relation has them: each with its objects.
use Rattle.std.specs.Prelude.{ℕ, ◌<◌, ◌/◌, ◌==◌, not, false, List, map}
use Rattle.refinement_laws.specs.below.object_layout.{Birth, Born, Cell, Hole, Mark, Moved, chunk_words, ChunkValue, Located, located, objects_of, PieceValue}
use Rattle.chunk_list.specs.View.{Level}
use Rattle.refinement_laws.specs.below.refinement.{Chunk, In, objects_of_chunks}

abbrev pub chunk_of : ChunkValue → Chunk
chunk_of k = record { number = k.number; units = k.size / chunk_words; large = not (k.size == chunk_words); objects = objects_of k }

abbrev pub chunks_of : List ChunkValue → List Chunk
chunks_of ks = map chunk_of ks

-- ---- VIEWS

-- the birth name of an object; every object in a view has one
abbrev pub birth_in : Mark → Birth
birth_in (Born b) = b
birth_in (Moved to) = record { task = 0; count = 0 }
birth_in Hole = record { task = 0; count = 0 }

-- what a view has of the chunk of this number, with its offset
abbrev pub shown : ℕ → ℕ × Cell → Located
shown number o = located number o.0 (birth_in o.1.mark) o.1

abbrev pub shown_chunk : PieceValue → Chunk
shown_chunk f = record { number = f.number; units = 0; large = false; objects = map (shown f.number) f.objects }

abbrev pub levels_of : List Level → List (List Chunk)
levels_of ls = map (map shown_chunk) ls

-- words can hold the objects' addresses
abbrev pub OffsetsAreSmall : List ChunkValue → Type 0
OffsetsAreSmall ks = (o : Located) → In (objects_of_chunks (chunks_of ks)) o → o.at.offset < chunk_words
