-- The names of lower crates and of the specifications that these proofs use. Declares nothing.
pub use Rattle.hh_lang.specs.Form.{ProgramText}
pub use Rattle.hh_model.specs.Step.{owner_of, root, start}
pub use Rattle.hh_model.specs.declared.data.MachineState.{MachineState}
pub use Rattle.hh_model.specs.declared.data.Name.{Name}
pub use Rattle.hh_model.specs.declared.data.Object.{Object}
pub use Rattle.leaf_heap.proofs.ChunkAdded.{place_in-push}
pub use Rattle.leaf_heap.specs.LeafHeapValue.{LeafHeapValue, IsFresh, added, with_places, HaveDistinctNumbers, IsCurrent, IsReserved}
pub use Rattle.object_layout.specs.Cell.{Cell, Born, Hole}
pub use Rattle.object_layout.specs.ChunkValue.{ChunkValue}
pub use Rattle.object_layout.specs.Chunks.{cell_of, place_in}
pub use Rattle.object_layout.specs.Place.{cell_at}
pub use Rattle.object_layout.specs.declared.word.Addr.{Addr}
pub use Rattle.object_layout.specs.declared.word.Birth.{Birth}
pub use Rattle.std.proofs.Common.{◌≡◌, ◌≢◌, ℕ, ◌≤◌, cond, Some, List, [], ◌∷◌, ◌++◌, length, refl, ap, sym, subst, ◌∙◌, eqb, inl, inr, None, replicate, rules}
pub use Rattle.std.proofs.lemmas.Bool.{cases_Bool, ne_eqb}
pub use Rattle.std.proofs.lemmas.Option.{none-some}
pub use Rattle.std.specs.Prelude.{pos}
pub use Rattle.task_frames.specs.FramesValue.{FramesValue}
pub use Rattle.task_machine.proofs.Added.{chunks_added, shape_added}
pub use Rattle.task_machine.proofs.Entries.{now_changed}
pub use Rattle.task_machine.proofs.Stands.{at_nils}
pub use Rattle.task_machine.specs.Fits.{FitsNow, HeapStands, IsOwnObject, HeapIsShaped}
pub use Rattle.task_machine.specs.Place.{Places, name_of}
pub use Rattle.task_machine.specs.declared.part.Private.{Private}
pub use Rattle.part_scenes.specs.Root.{nowhere, first_frames}
