-- The chunks of one heap in front of those of another.
use Rattle.refinement.proofs.Common.{◌≡◌, not, List, ◌++◌, map, ap, ap₂, ◌∙◌, flat_map-append, map-append, filter-append, Heap, Chunk, object_name, objects_of_chunks, small_chunks, large_chunks, ChunksHaveNames, chunk_names}

pub small_both : (ks js : List Chunk) (h i : Heap) → ChunksHaveNames ks h → ChunksHaveNames js i → map chunk_names (small_chunks (ks ++ js)) ≡ h.chunks ++ i.chunks
small_both ks js h i H I =
    ap (map chunk_names) (filter-append (λ (k : Chunk). not k.large) ks js) ∙ (map-append chunk_names (small_chunks ks) (small_chunks js) ∙ ap₂ (λ a b. a ++ b) H.small I.small)

pub large_both : (ks js : List Chunk) (h i : Heap) → ChunksHaveNames ks h → ChunksHaveNames js i → map object_name (objects_of_chunks (large_chunks (ks ++ js))) ≡ h.large ++ i.large
large_both ks js h i H I =
    ap (λ zs. map object_name (objects_of_chunks zs)) (filter-append (λ (k : Chunk). k.large) ks js)
    ∙ (ap (map object_name) (flat_map-append (λ (k : Chunk). k.objects) (large_chunks ks) (large_chunks js))
    ∙ (map-append object_name (objects_of_chunks (large_chunks ks)) (objects_of_chunks (large_chunks js)) ∙ ap₂ (λ a b. a ++ b) H.large I.large))
