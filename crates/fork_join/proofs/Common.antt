-- The names of lower crates and of the specifications that these proofs use. Declares nothing.
pub use Rattle.chunk_pool.specs.PoolValue.{PoolValue, slot_at, owner_of, Relabels}
pub use Rattle.chunk_pool.specs.declared.pool.Slot.{Slot}
pub use Rattle.fork_join.specs.Joined.{with_owner, joined_nodes, relabelled, AreRelabelled}
pub use Rattle.fork_join.specs.Laws.{JoinedAreOwned, Merges}
pub use Rattle.fork_join.specs.Placement.{Owns, FilledField, OwnersSatisfy}
pub use Rattle.heap_tree.proofs.ChangeLemmas.{states_change}
pub use Rattle.heap_tree.specs.TaskNode.{TaskNode, parent_of, parent_in, with_state}
pub use Rattle.heap_tree.specs.Walk.{IsUpFrom, ancestor}
pub use Rattle.heap_tree.specs.declared.state.TaskState.TheVariants.{Ready, Joined}
pub use Rattle.leaf_heap.specs.LeafHeapValue.{LeafHeapValue, merged, room_at, room_of, with_places}
pub use Rattle.object_layout.proofs.Owning.{has_append, has_one}
pub use Rattle.object_layout.specs.ChunkValue.{ChunkValue}
pub use Rattle.object_layout.specs.Chunks.{has_chunk, chunk_at, no_chunk}
pub use Rattle.remembered_set.proofs.LiftLemmas.{lifted_are_there}
pub use Rattle.remembered_set.specs.Sources.{lifted, with_noted_source}
pub use Rattle.remembered_set.specs.declared.remembered.RefField.{RefField}
pub use Rattle.std.proofs.Common.{◌≡◌, ℕ, ◌+◌, ◌<◌, List, [], ◌∷◌, ◌++◌, length, get_or, take, fold, filter, sym, ap, ◌∙◌, Bool, true, false, cond, ◌⊎◌, inl, inr, refl, Option, Some, None, Contains, subst, ◌||◌, arith, zero, suc, slice_get, rules, ◌≤◌}
pub use Rattle.std.proofs.lemmas.Bool.{cases_Bool, cases_eq, false≢true, or_from, or_left, or_right, eq-eqb, ne_eqb}
pub use Rattle.std.proofs.lemmas.List.{take_more, get_or-append-add}
pub use Rattle.std.proofs.lemmas.List.Elements.{filter-append}
pub use Rattle.std.proofs.lemmas.List.Sums.{fold-append}
pub use Rattle.std.specs.Prelude.{not, IsSome, option_map, IfSome, option_and_then}
