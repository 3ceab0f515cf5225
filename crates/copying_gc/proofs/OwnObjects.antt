-- What is read of an object of the heap in its chunk.
use Rattle.copying_gc.proofs.Common.{◌≡◌, ℕ, ◌<◌, List, length, Some, refl, sym, ◌∙◌, subst, lt-ltb, Addr, Cell, IsObject, moved_to, ChunkValue, cell_of, place_in, chunk_position, cell_at, object_at, followed, IsTarget}
use Rattle.object_layout.proofs.PlaceLemmas as place
use Rattle.leaf_heap.proofs.HeapLemmas as heaps

-- an object at an offset is the one reported there
pub object_told : (cs : List Cell) (at : ℕ) (d : Cell) → cell_at cs at ≡ d → IsObject d.mark → object_at cs at ≡ d
object_told cs at d e o = place.object_is cs at (subst (λ (x : Cell). IsObject x.mark) (sym e) o) ∙ e

-- a target whose chunk is found is an object
pub target_object : (ks : List ChunkValue) (a : Addr) (i : ℕ) → place_in ks a.chunk ≡ Some i → IsTarget ks (Some a) → IsObject (cell_of ks a).mark
target_object ks a i e t =
    let found = heaps.place_found ks a.chunk i e in
    (t (subst (λ (n : ℕ). n < length ks) found.0 found.1)).0

-- where an object whose chunk is found is now
pub followed_in : (ks : List ChunkValue) (a : Addr) (i : ℕ) → place_in ks a.chunk ≡ Some i → followed ks a ≡ moved_to (cell_of ks a).mark
followed_in ks a i e =
    let found = heaps.place_found ks a.chunk i e in
    rw (lt-ltb (chunk_position ks a.chunk) (length ks) (subst (λ (n : ℕ). n < length ks) found.0 found.1)) refl
