-- The names of lower crates and of the specifications that these proofs use. Declares nothing.
pub use Rattle.object_layout.proofs.ChunkLaws.{addr_cases}
pub use Rattle.object_layout.proofs.Owning.{found_any}
pub use Rattle.object_layout.specs.ChunkValue.{ChunkValue}
pub use Rattle.object_layout.specs.Chunks.{has_chunk}
pub use Rattle.object_layout.specs.declared.word.Addr.{Addr}
pub use Rattle.plain_vec.proofs.Members.{In, contains_from_in, in_append_cases, in_append_left, in_append_right, in_from_any, in_from_contains, in_from_kept, in_kept}
pub use Rattle.remembered_set.specs.Laws.{LiftedAreThere, RewriteIsRead}
pub use Rattle.remembered_set.specs.Moved.{new_of, address_key, same_address, AreAscending, ArePlaces, target_of, led_by, new_reference, redirected, written, AreFields, into_by, targets_of}
pub use Rattle.remembered_set.specs.Sources.{has_source, lifted, with_noted_source, outside, same_source, StandOnce, KnowsJust}
pub use Rattle.remembered_set.specs.declared.remembered.RefField.{RefField}
pub use Rattle.std.proofs.Common.{◌≡◌, Bool, true, false, cond, List, [], ◌∷◌, ◌++◌, fold, ◌⊎◌, inl, inr, refl, sym, ap, subst, ℕ, zero, suc, ◌+◌, ◌^◌, ◌<◌, ◌≤◌, length, get_or, arith, ⊎_elim, eqb, Some, None, ◌||◌, ◌∙◌, Option, length-set, ◌-◌, ◌/◌, drop, append_assoc, rules, ◌==◌, take}
pub use Rattle.std.proofs.Math.Bool.{or-false, or_assoc}
pub use Rattle.std.proofs.lemmas.Bool.{not-true, and_from, and_parts, cases_Bool, cases_lt, eq-eqb, eqb-true, false≢true, or_parts}
pub use Rattle.std.proofs.lemmas.Grind.{common_steps}
pub use Rattle.std.proofs.lemmas.List.{get_or_default, get_or-set_same, get_or-set_other, drop_more, take_all}
pub use Rattle.std.proofs.lemmas.Option.{get_or_from_slice_get}
pub use Rattle.std.specs.HashSet.{contains, spare, hash_set_len}
pub use Rattle.std.specs.List.{list_any}
pub use Rattle.std.specs.Prelude.{not, ◌&&◌, ◌≢◌, slice_set, unwrap_or, nat_eq, filter, vec_capacity, vec_len}
