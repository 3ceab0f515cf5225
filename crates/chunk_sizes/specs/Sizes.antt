-- The words of a chunk, and how many units hold n words.
use Rattle.std.specs.Prelude.{ℕ, ◌+◌, ◌/◌}

-- the words of a chunk, and of each unit of a large object's chunk
abbrev pub chunk_words : ℕ
chunk_words = 1024

-- how many units hold n words
abbrev pub units : ℕ → ℕ
units words = (words + 1023) / chunk_words
