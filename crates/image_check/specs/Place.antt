-- Where an address lies.
use Rattle.std.specs.Prelude.{ℕ, ◌-◌, ◌/◌, ◌%◌}
use Rattle.chunk_sizes.specs.Sizes.{chunk_words}

-- the chunk of a nonzero address; a chunk has 1,024 addresses
abbrev pub chunk_number : ℕ → ℕ
chunk_number a = (a - 1) / chunk_words

abbrev pub offset : ℕ → ℕ
offset a = (a - 1) % chunk_words
