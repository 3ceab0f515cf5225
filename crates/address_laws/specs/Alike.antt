-- Chunks that differ only in their objects.
use Rattle.std.specs.Prelude.{◌≡◌, List, [], ◌∷◌, map}
use Rattle.object_layout.specs.Cell.{size_of}
use Rattle.object_layout.specs.ChunkValue.{ChunkValue}

-- chunks of the same numbers and sizes, with objects of the same sizes
abbrev pub HaveSameShape : List ChunkValue → List ChunkValue → Type 0
HaveSameShape [] [] = Unit {0}
HaveSameShape [] (l ∷ ls) = ⊥
HaveSameShape (k ∷ ks) [] = ⊥
HaveSameShape (k ∷ ks) (l ∷ ls) = ((l.number ≡ k.number) × (l.size ≡ k.size) × (map size_of l.cells ≡ map size_of k.cells)) × HaveSameShape ks ls
