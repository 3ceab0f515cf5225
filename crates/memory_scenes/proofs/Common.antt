-- The names of lower crates and of the specifications that these proofs use. Declares nothing.
pub use Rattle.chunk_pool.specs.PoolValue.{slot_at}
pub use Rattle.copying_gc.specs.Laid.{small_in}
pub use Rattle.copying_gc.specs.Survivors.{frame_references, HeapIsClosed, IsSoundReference, as_reference}
pub use Rattle.leaf_heap.proofs.Settled.{at_offset}
pub use Rattle.mark_sweep_gc.specs.Snapshot.{HasObjectAt}
pub use Rattle.memory_scenes.specs.Fit.{HasSoundReferences}
pub use Rattle.object_layout.specs.Cell.{Cell, no_cell}
pub use Rattle.object_layout.specs.ChunkValue.{ChunkValue}
pub use Rattle.object_layout.specs.Chunks.{cell_of}
pub use Rattle.object_layout.specs.Place.{cell_at, cells_from, IsCellAt}
pub use Rattle.object_layout.specs.declared.word.Addr.{Addr}
pub use Rattle.std.proofs.Common.{◌≡◌, ℕ, suc, ◌+◌, ◌<◌, ◌≤◌, List, [], ◌∷◌, ◌++◌, length, refl, sym, subst, arith, inl, inr, eqb, Option, slice_index_or, ◌-◌, map, Some}
pub use Rattle.std.proofs.lemmas.Bool.{cases_Bool}
pub use Rattle.std.proofs.lemmas.List.Elements.{All-nil, All-cons, All-head, All-tail, All-append, All-map}
pub use Rattle.std.specs.Prelude.{All, IsSome}
pub use Rattle.task_frames.specs.FramesValue.{FramesValue, frame_depth, frames_of, references_of}
pub use Rattle.task_frames.specs.declared.frames.CallFrame.{CallFrame}
