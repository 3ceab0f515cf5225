-- The names of lower crates and of the specifications that these proofs use. Declares nothing.
pub use Rattle.hh_model.proofs.Climbs.{path_here}
pub use Rattle.hh_model.proofs.Lists.{set_got}
pub use Rattle.hh_model.proofs.Tree.{or_and_false}
pub use Rattle.hh_model.specs.Names.{refs_at, names_of_references, registers}
pub use Rattle.hh_model.specs.Step.{owner_of, is_on_path, parents, path_by, through}
pub use Rattle.hh_model.specs.declared.data.Frame.{Frame}
pub use Rattle.hh_model.specs.declared.data.MachineState.{MachineState}
pub use Rattle.hh_model.specs.declared.data.Name.{Name}
pub use Rattle.hh_model.specs.declared.data.Object.{Object}
pub use Rattle.hh_model.specs.declared.data.Task.{Task}
pub use Rattle.ledger_heaps.specs.Accounts.{accounts, AreOwned, since_at}
pub use Rattle.ledger_heaps.specs.Search.{ancestors, ancestors_by, references_from_heaps, Meets}
pub use Rattle.plain_vec.proofs.Members.{In, contains_from_in, in_flat, flat_in, in_kept, in_from_kept, got_in, got_other, in_from_contains, got_past}
pub use Rattle.plain_vec.proofs.Options.{same_truth}
pub use Rattle.plain_vec.specs.Members.{is_empty}
pub use Rattle.run_ledger.proofs.Collections.{Born, born_from, born_is, born_on, born_both}
pub use Rattle.run_ledger.proofs.Held.{insert_cases, laid_flat}
pub use Rattle.run_ledger.proofs.Members.{in_from_holds, holds_from_in, is_name_itself, same_from_is_name}
pub use Rattle.run_ledger.proofs.Reached.{length_kept, reached_root, reached_more, reached_is_walks}
pub use Rattle.run_ledger.proofs.Sound.{in_held, held_keeps, heap_names}
pub use Rattle.run_ledger.proofs.Weights.{birth_weight, kept_weight, survivors_weight, weight_parts}
pub use Rattle.run_ledger.specs.Heaps.{held, is_proper_ancestor, name_le, insert_name, by_birth, in_snapshot, is_last_empty, without_empty, emptied, heap_of, merged, or_fresh, with_heap_at, collected, large_survivors, small_survivors, units, units_sum, words_at, words_in, words_sum, chunk_words, lay, put_last, room_behind, held_in, laid_onto, small_in, roots_of}
pub use Rattle.run_ledger.specs.Reachable.{holds_name, is_name, reached, reached_by, StartsWithin, LeadsWithin}
pub use Rattle.run_ledger.specs.Space.{last_words}
pub use Rattle.run_ledger.specs.Steps.{join_heaps}
pub use Rattle.run_ledger.specs.declared.data.Heap.{Heap}
pub use Rattle.run_ledger.specs.declared.data.Ledger.{Ledger}
pub use Rattle.std.proofs.Common.{◌≡◌, ℕ, zero, suc, ◌==◌, Bool, true, false, cond, not, Option, Some, None, List, [], ◌∷◌, slice_get, filter, ◌⊎◌, inl, inr, refl, ap, sym, subst, ◌∙◌, eqb, eqb-true, eq-eqb, ◌+◌, ◌<◌, length, get_or, nat_lt, nat_eq, arith, sum_by, ◌++◌, drop, map, append_assoc, append-nil, slice_set, ◌≤◌, ◌-◌, nat_le, ◌&&◌, ◌||◌, take, ◌^◌, Result, Ok, Err, OnErr, rules, min}
pub use Rattle.std.proofs.Math.Bool.{and-true, or_assoc, and-false, not-not}
pub use Rattle.std.proofs.lemmas.Bool.{and_parts, and_from, or_cases, or_right, false≢true, not-true, cases_lt, cases_eq, or_left, cases_Bool}
pub use Rattle.std.proofs.lemmas.List.{drop_more, set-set, set_comm, length-map, take_more}
pub use Rattle.std.proofs.lemmas.List.Concat.{flat_map-append}
pub use Rattle.std.proofs.lemmas.List.Sorted.{sum_by-IsPermutation}
pub use Rattle.std.proofs.lemmas.List.Sums.{sum_by-cons, sum_by_push}
pub use Rattle.std.proofs.lemmas.Option.{same_Some, slice_get_read}
pub use Rattle.std.specs.HashSet.{contains, hash_set_len}
pub use Rattle.std.specs.List.{flat_map, list_all, list_any}
pub use Rattle.std.specs.List.Sorted.{IsPermutation, IsSortedWithin}
pub use Rattle.std.specs.Ordering.{nat_cmp, ordering_then, is_lt}
pub use Rattle.std.specs.declared.cmp.Ordering.TheVariants.{Less, Equal, Greater}
pub use Rattle.walk_laws.proofs.Reached.{reached_within}
