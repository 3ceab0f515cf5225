-- The names of lower crates and of the specifications that these proofs use. Declares nothing.
pub use Rattle.dot_text.specs.Dot.{Statement, Attributes, Node, Edge, attribute, node_begin, edge_begin, statement_end, setting, cluster_begin, braces_end, dot, all_dot}
pub use Rattle.heap_graph.specs.Drawn.{path, path_above, boxed, point, titled_box, statements, port_title, all_drawn, path_to, chunk_box, nodes_in, lines_behind, task_box, object_title, port_titles, word_field}
pub use Rattle.heap_graph.specs.HeapTotals.{held_of, held_by}
pub use Rattle.heap_graph.specs.Kinds.{port_at, edge_to, edge_by, edges_from, is_long, edges_of, kind_attributes}
pub use Rattle.heap_graph.specs.Laws.{leads}
pub use Rattle.heap_graph.specs.Names.{task_cluster, object_name, heap_title, port_name}
pub use Rattle.heap_graph.specs.Overview.{DrawnLinks, link_edge, links_drawn, heap_by, link_attributes, links_by, with_links}
pub use Rattle.heap_graph.specs.Pieces.{opened, optional_lines}
pub use Rattle.image_check.specs.Line.{line_meaning}
pub use Rattle.image_check.specs.Sound.{ReferenceIs}
pub use Rattle.image_check.specs.ImageTasks.{ImageTasks, image_parent, owner_at, is_running, relation_of}
pub use Rattle.image_check.specs.declared.read.Read.{Read}
pub use Rattle.plain_vec.proofs.Places.{lines_more}
pub use Rattle.quoted_text.specs.Labels.{task_name}
pub use Rattle.std.proofs.Common.{◌≡◌, ℕ, zero, suc, List, [], ◌∷◌, ◌++◌, refl, ap, sym, ◌∙◌, append_assoc, append-nil, ◌+◌, Bool, cond, length, subst, arith, ◌<◌, ◌≤◌, take, drop, get_or, ◌==◌, false, ◌-◌}
pub use Rattle.std.proofs.lemmas.List.{length-drop, drop_all, drop_more}
pub use Rattle.std.proofs.lemmas.List.Elements.{Contains-append_left, Contains-append_right}
pub use Rattle.std.proofs.lemmas.List.Recursion.{is_count_by}
pub use Rattle.std.proofs.lemmas.Option.{slice_get_within, get_or_from_slice_get}
pub use Rattle.std.proofs.lemmas.Result.{on_ok_weaker, IfOk-weaker}
pub use Rattle.std.specs.Fmt.{decimal}
pub use Rattle.std.specs.List.{flat_map}
pub use Rattle.std.specs.Prelude.{◌≢◌, codes, Some, None, Option, is_some, Contains, count_by, slice_get, option_copied}
pub use Rattle.text_lines.specs.Lines.{lines_of, words_of}
