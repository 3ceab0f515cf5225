-- The names of lower crates and of the specifications that these proofs use. Declares nothing.
pub use Rattle.indexmap.specs.IndexSet.{insert_key}
pub use Rattle.log_groups.specs.Gathered.{with_item, keys_of, AreBelow}
pub use Rattle.log_groups.specs.Groups.{same_key, alike, total_of, groups_of, group_of}
pub use Rattle.log_groups.specs.Laws.{IsFirstOfKey, IsItemGrouping, ItemGroupsAreExact}
pub use Rattle.log_groups.specs.declared.item.Group.{Group}
pub use Rattle.log_groups.specs.declared.item.GroupKey.{GroupKey}
pub use Rattle.log_groups.specs.declared.item.Item.{Item}
pub use Rattle.plain_vec.proofs.Members.{In, in_kept, in_from_kept, got_in}
pub use Rattle.std.proofs.Common.{◌≡◌, ℕ, zero, suc, ◌+◌, ◌<◌, Bool, true, false, cond, List, [], ◌∷◌, ◌++◌, filter, inl, inr, arith, refl, ap, sym, subst, ◌∙◌, true≢false, Some, ◌*◌, ◌≤◌, ◌^◌, ◌==◌, ◌&&◌, ◌||◌, nat_lt, length, map, fold, append-nil, append_assoc, eqb-true, eq-eqb, take}
pub use Rattle.std.proofs.lemmas.Bool.{and_parts}
pub use Rattle.std.proofs.lemmas.List.{take_all}
pub use Rattle.std.proofs.lemmas.List.Elements.{filter-append}
pub use Rattle.std.proofs.lemmas.List.Sums.{sum_by-cons, sum_by_push, fold_more}
pub use Rattle.std.proofs.lemmas.Option.{slice_get-get_or, slice_get_cases}
pub use Rattle.std.proofs.lemmas.Result.{on_ok_weaker}
pub use Rattle.std.specs.List.{position_or_len, list_any}
pub use Rattle.std.specs.Prelude.{Option, not, sum_by, slice_get, None, position, slice_set, slice_index_or}
