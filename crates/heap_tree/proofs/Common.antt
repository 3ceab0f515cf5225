-- The names of lower crates and of the specifications that these proofs use. Declares nothing.
pub use Rattle.heap_tree.specs.Laws.{ForkMakes, StatesChange}
pub use Rattle.heap_tree.specs.Links.{node_of, linked_parent, linked_depth, linked_far, parent_at, depth_at, far_at, IsLinked}
pub use Rattle.heap_tree.specs.TaskNode.{TaskNode, parent_in, parent_of, set_at, state_of, with_state, child_of, forked, depth_of, node_on_path, IsTree}
pub use Rattle.heap_tree.specs.Paired.{child_entry, entries_of, root_entry, unpaired, with_child}
pub use Rattle.heap_tree.specs.Pairs.{SiblingsShareParents, sibling}
pub use Rattle.heap_tree.specs.Walk.{ancestor, IsUpFrom, depth_in, path_in, through, depth_by, path_by}
pub use Rattle.heap_tree.specs.declared.entries.Pair.{Pair}
pub use Rattle.heap_tree.specs.declared.links.Linked.{Linked}
pub use Rattle.heap_tree.specs.declared.state.TaskState.{TaskState}
pub use Rattle.heap_tree.specs.declared.state.TaskState.TheVariants.{Waiting, Ready, Out}
pub use Rattle.hh_model.specs.Step.{depth_limit}
pub use Rattle.jump_pointers.proofs.Lists.{linked_more}
pub use Rattle.jump_pointers.proofs.Walks.{walk_depth, first_link, link_first, shallow}
pub use Rattle.jump_pointers.specs.Links.{next_far, AreLinked, IsNewLink}
pub use Rattle.plain_vec.proofs.Members.{got_front, got_other, view_step}
pub use Rattle.plain_vec.proofs.Options.{same_truth}
pub use Rattle.plain_vec.proofs.Places.{got_last, got_none, got_set, got_some}
pub use Rattle.std.proofs.Common.{◌≡◌, ◌≢◌, ℕ, ◌+◌, ◌-◌, ◌<◌, ◌≤◌, ◌%◌, arith, List, [], ◌∷◌, ◌++◌, length, set, ◌⊎◌, inl, inr, refl, sym, ap, ◌∙◌, subst, Option, Some, None, slice_get, append_assoc, length-append, length-set, option_map, ◌==◌, zero, suc, ◌*◌, ◌/◌, true, false, slice_set, IfSome, ◌^◌, Bool, IsTrue, map, eqb-true, eq-eqb, vec_len}
pub use Rattle.std.proofs.Math.Path.{fun_ext}
pub use Rattle.std.proofs.lemmas.Bool.{cases_eq, cases_lt, ne_eqb, false≢true, or_cases, or_left, or_right, lt-leb}
pub use Rattle.std.proofs.lemmas.List.{set-append_left, length-map, map-set, map-append}
pub use Rattle.std.proofs.lemmas.Option.{slice_get-map, slice_get_within, same_Some}
