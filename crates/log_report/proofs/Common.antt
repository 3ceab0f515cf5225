-- The names of lower crates and of the specifications that these proofs use. Declares nothing.
pub use Rattle.log_groups.specs.declared.item.Item.{Item}
pub use Rattle.log_report.specs.Ends.{hundredths, hundredths_text, counts_text, left_text}
pub use Rattle.log_report.specs.HeapLines.{depth_line}
pub use Rattle.log_report.specs.Labels.{Names}
pub use Rattle.log_report.specs.Locations.{location_line, lines_from, location_lines}
pub use Rattle.log_report.specs.Races.{follows, run_end, race_item, race_items, group_line}
pub use Rattle.log_report.specs.Told.{racing_locations, locations_of, first_place}
pub use Rattle.log_report.specs.Uses.{use_item, use_items, use_group_line}
pub use Rattle.log_report.specs.declared.told.ToldRace.{ToldRace}
pub use Rattle.log_report.specs.declared.told.ToldUse.{ToldUse}
pub use Rattle.log_sites.specs.Names.{name_of}
pub use Rattle.plain_vec.proofs.Places.{lines_more}
pub use Rattle.std.proofs.Common.{◌≡◌, ◌∙◌, ◌<◌, ◌≤◌, ◌+◌, ◌-◌, ◌*◌, ◌^◌, ℕ, zero, suc, Bool, true, false, cond, List, [], ◌∷◌, ◌++◌, length, take, drop, drop-cons, add-one, get_or, refl, ap, sym, arith, append_assoc, append-nil, codes, rules, subst}
pub use Rattle.std.proofs.lemmas.List.{drop_all}
pub use Rattle.std.proofs.lemmas.List.Sorted.{IsNonDecreasingBy-from_sort_by_key}
pub use Rattle.std.proofs.lemmas.List.Sums.{sum_by_more}
pub use Rattle.std.proofs.lemmas.Result.{IfOk-weaker, on_ok_weaker}
pub use Rattle.std.specs.Fmt.{decimal}
pub use Rattle.std.specs.List.{flat_map}
pub use Rattle.std.specs.List.Sorted.{IsNonDecreasingBy}
pub use Rattle.std.specs.Prelude.{sum_by}
