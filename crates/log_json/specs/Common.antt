-- The names of lower crates that these specifications use. Declares nothing.
pub use Rattle.json_text.specs.Json.{Json, Members, Number, Word, Array, Object, NoMember, Member, json, values, further}
pub use Rattle.json_text.specs.below.quoted_text.{quoted}
pub use Rattle.log_form.specs.declared.fault.LogPosition.{LogPosition}
pub use Rattle.log_groups.specs.Groups.{groups_of}
pub use Rattle.log_groups.specs.declared.item.Group.{Group}
pub use Rattle.log_report.specs.Ends.{hundredths, hundredths_text}
pub use Rattle.log_report.specs.Labels.{Names, kind_word}
pub use Rattle.log_report.specs.Races.{race_items, run_length}
pub use Rattle.log_report.specs.Told.{racing_locations}
pub use Rattle.log_report.specs.Uses.{use_items, since_of}
pub use Rattle.log_report.specs.declared.heaps.HeapDepth.{HeapDepth}
pub use Rattle.log_report.specs.declared.heaps.LogHeaps.{LogHeaps}
pub use Rattle.log_report.specs.declared.report.Detail.{Detail}
pub use Rattle.log_report.specs.declared.report.Detail.TheVariants.{Merged, Locations}
pub use Rattle.log_report.specs.declared.told.LogReport.{LogReport}
pub use Rattle.log_report.specs.declared.told.Told.{Told}
pub use Rattle.log_report.specs.declared.told.ToldRace.{ToldRace}
pub use Rattle.log_report.specs.declared.told.ToldUse.{ToldUse}
pub use Rattle.log_report.specs.declared.uses.UseFault.{UseFault}
pub use Rattle.log_report.specs.declared.uses.UseFault.TheVariants.{EntangledRead, EntangledUse, StaleUse}
