-- What a run of private steps keeps of a heap, beside what task_machine states: objects keep their addresses, no chunk
-- is added, and each keeps its size.
use Rattle.std.specs.Prelude.{◌≡◌}
use Rattle.core_invariant.specs.Common.{Addr, Birth, Born, cell_of, ChunkValue, LeafHeapValue, In}

pub record KeepsPlaces (old new : LeafHeapValue) : Type 0 where
  pub stays : (a : Addr) (b : Birth) → (cell_of old.chunks a).mark ≡ Born b → (cell_of new.chunks a).mark ≡ Born b
  pub numbers : (k : ChunkValue) → In new.chunks k → (j : ChunkValue) × In old.chunks j × (j.number ≡ k.number) × (j.size ≡ k.size)
