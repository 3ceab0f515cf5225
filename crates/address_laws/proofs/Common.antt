-- The names of lower crates and of the specifications that these proofs use. Declares nothing.
pub use Rattle.address_laws.specs.Alike.{HaveSameShape}
pub use Rattle.leaf_heap.proofs.ChunkAdded.{fresh_cons, fresh_head, fresh_tail}
pub use Rattle.leaf_heap.specs.LeafHeapValue.{HaveDistinctNumbers, IsFresh}
pub use Rattle.object_layout.proofs.ChunkLaws.{addr_cases, put_cases}
pub use Rattle.object_layout.proofs.PlaceLemmas.{cell_at-past}
pub use Rattle.object_layout.specs.Cell.{Cell, no_cell, size_of, Mark, IsBorn, IsObject, with_mark}
pub use Rattle.object_layout.specs.ChunkValue.{ChunkValue, number_of}
pub use Rattle.object_layout.specs.Chunks.{cell_of, chunk_at, place_in, chunk_position, put_object}
pub use Rattle.object_layout.specs.Graph.{HasObjectAt}
pub use Rattle.object_layout.specs.Place.{cell_at}
pub use Rattle.object_layout.specs.declared.word.Addr.{Addr}
pub use Rattle.plain_vec.proofs.Members.{In, in_append_left, in_append_right, in_append_cases}
pub use Rattle.std.proofs.Common.{◌≡◌, ℕ, suc, ◌+◌, List, [], ◌∷◌, ◌++◌, map, refl, sym, ap, ◌∙◌, subst, arith, inl, inr, ◌⊎◌, eqb, eqb-true, eq-eqb, zero, ◌<◌, Bool, true, false, cond, length, filter, All, is_some}
pub use Rattle.std.proofs.lemmas.Bool.{cases_Bool, cases_eq, cases_lt, le-ltb}
pub use Rattle.std.proofs.lemmas.List.{reverse-append}
pub use Rattle.std.proofs.lemmas.List.Elements.{All-head, All-tail}
pub use Rattle.std.specs.Prelude.{nat_le, remove, reverse}
