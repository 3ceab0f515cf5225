-- Laws of objects by their addresses, for crates above.
use Rattle.std.specs.Prelude.{◌≡◌, ◌≢◌, ◌==◌, ◌↔◌, ℕ, ◌<◌, true, false, List, ◌++◌, length}
use Rattle.std.specs.List.{list_any}
use Rattle.object_layout.specs.ChunkValue.{ChunkValue}
use Rattle.object_layout.specs.Chunks.{has_chunk, HaveDistinctNumbers}

-- two lists of chunks with distinct numbers and no number in common have distinct numbers together
abbrev pub ApartTogether : Type 0
ApartTogether =
    (ks ls : List ChunkValue) → HaveDistinctNumbers ks → HaveDistinctNumbers ls
    → ((number : ℕ) → has_chunk ks number ≡ true → has_chunk ls number ≡ false) → HaveDistinctNumbers (ks ++ ls)
