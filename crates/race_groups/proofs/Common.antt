-- The names of lower crates and of the specifications that these proofs use. Declares nothing.
pub use Rattle.indexmap.specs.IndexSet.{insert_key}
pub use Rattle.plain_vec.proofs.Members.{In, in_from_contains, contains_from_in, in_kept, in_from_kept, got_in}
pub use Rattle.race_groups.specs.Gathered.{with_grouped_race, lines_of_groups}
pub use Rattle.race_groups.specs.RaceGroups.{lines_of_race, same_pair, same_lines, groups_of, Lines, group_of}
pub use Rattle.race_groups.specs.Laws.{IsRaceGrouping, RaceGroupsAreExact}
pub use Rattle.race_groups.specs.Shown.{shown_of}
pub use Rattle.race_groups.specs.Text.{spaced_words, example_line, swap_note, group_text, field_text, tasks_text}
pub use Rattle.race_groups.specs.declared.group.RaceGroup.{RaceGroup}
pub use Rattle.race_report.specs.declared.data.Race.{Race}
pub use Rattle.std.proofs.Common.{◌≡◌, ℕ, zero, suc, ◌+◌, ◌<◌, Bool, true, false, cond, List, [], ◌∷◌, filter, inl, inr, arith, refl, ap, sym, subst, ◌∙◌, true≢false, ◌≤◌, ◌^◌, ◌==◌, ◌&&◌, ◌||◌, nat_lt, ◌++◌, length, map, fold, append-nil, append_assoc, eqb-true, eq-eqb, take}
pub use Rattle.std.proofs.lemmas.Bool.{and_parts, ne_eqb}
pub use Rattle.std.proofs.lemmas.List.{length-take, take_all}
pub use Rattle.std.proofs.lemmas.List.Sums.{sum_by-cons, count_by-le-length, sum_by_push, fold_more}
pub use Rattle.std.proofs.lemmas.Option.{slice_get-get_or, slice_get_cases}
pub use Rattle.std.proofs.lemmas.Result.{on_ok_weaker, IfOk-weaker}
pub use Rattle.std.specs.List.{position_or_len, list_any, flat_map}
pub use Rattle.std.specs.Prelude.{Option, Some, not, count_by, slice_get, Contains, None, position, slice_set, slice_index_or, codes}
pub use Rattle.text_lines.specs.Lines.{lines_of}
