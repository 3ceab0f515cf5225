-- Chunks that hold only small objects.
use Rattle.std.specs.Prelude.{◌≡◌, ℕ, ◌+◌, List, [], ◌∷◌}
use Rattle.copying_gc.specs.Common.{ChunkValue, held_words, object_count, small_words, words_in}

-- the words that objects and holes take
abbrev pub used_words : List ChunkValue → ℕ
used_words [] = 0
used_words (k ∷ ks) = words_in k.cells + used_words ks

-- there is no hole and no large object, and exactly this number of objects
pub record ArePacked (ks : List ChunkValue) (objects : ℕ) : Type 0 where
  pub full : held_words ks ≡ used_words ks
  pub small : small_words ks ≡ used_words ks
  pub count : object_count ks ≡ objects
