-- The names of lower crates and of the specifications that these proofs use. Declares nothing.
pub use Rattle.json_text.specs.Json.{Json, Members, Array, Object, Number, Word, json, values, further, first_values, more_values, more_members, first_members}
pub use Rattle.json_text.specs.below.quoted_text.{quoted}
pub use Rattle.log_form.specs.declared.fault.LogPosition.{LogPosition}
pub use Rattle.log_groups.specs.Groups.{groups_of}
pub use Rattle.log_groups.specs.declared.item.Group.{Group}
pub use Rattle.log_json.specs.Pieces.{array_piece, depth_piece, location_piece, pieces_from, group_piece, locations_piece, use_group_piece, heaps_piece_if}
pub use Rattle.log_report.specs.Ends.{hundredths, hundredths_text}
pub use Rattle.log_report.specs.Labels.{Names, kind_word}
pub use Rattle.log_report.specs.Races.{race_items, run_length}
pub use Rattle.log_report.specs.Told.{racing_locations}
pub use Rattle.log_report.specs.Uses.{use_items, since_of}
pub use Rattle.log_report.specs.declared.heaps.HeapDepth.{HeapDepth}
pub use Rattle.log_report.specs.declared.heaps.LogHeaps.{LogHeaps}
pub use Rattle.log_report.specs.declared.report.Detail.{Detail}
pub use Rattle.log_report.specs.declared.report.Detail.TheVariants.{Merged, Locations}
pub use Rattle.log_report.specs.declared.told.LogReport.{LogReport}
pub use Rattle.log_report.specs.declared.told.Told.{Told}
pub use Rattle.log_report.specs.declared.told.ToldRace.{ToldRace}
pub use Rattle.log_report.specs.declared.told.ToldUse.{ToldUse}
pub use Rattle.log_report.specs.declared.uses.UseFault.{UseFault}
pub use Rattle.log_report.specs.declared.uses.UseFault.TheVariants.{EntangledRead, EntangledUse, StaleUse}
pub use Rattle.log_sites.specs.Names.{name_of}
pub use Rattle.std.proofs.Common.{◌≡◌, ◌∙◌, ◌<◌, ◌≤◌, ◌+◌, ◌-◌, ℕ, suc, List, ◌++◌, ap, sym, arith, append_assoc, append-nil, zero, [], ◌∷◌, length, drop, refl, take, subst}
pub use Rattle.std.proofs.lemmas.List.Concat.{flat_map-append}
pub use Rattle.std.proofs.lemmas.Result.{on_ok_weaker, IfOk-weaker}
pub use Rattle.std.specs.Fmt.{decimal}
pub use Rattle.std.specs.List.{flat_map}
pub use Rattle.std.specs.Prelude.{Option, Some, None, codes, slice_get, OnOk}
