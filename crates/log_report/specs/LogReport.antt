-- The text of a report.
use Rattle.std.specs.Prelude.{ℕ, List, ◌++◌}
use Rattle.log_report.specs.declared.told.ToldRace.{ToldRace}
use Rattle.log_report.specs.declared.told.LogReport.{LogReport}
use Rattle.log_report.specs.declared.report.Detail.{Detail}
use Rattle.log_report.specs.declared.report.Detail.TheVariants.{Merged, Locations}
use Rattle.log_report.specs.declared.uses.UseFault.TheVariants.{EntangledRead, EntangledUse, StaleUse}
use Rattle.log_report.specs.Labels.{Names}
use Rattle.log_report.specs.Races.{race_lines}
use Rattle.log_report.specs.Locations.{all_lines}
use Rattle.log_report.specs.Uses.{use_lines}
use Rattle.log_report.specs.Ends.{cost_line, end_line}
use Rattle.log_report.specs.HeapLines.{heaps_text_if}

abbrev pub races_text : Names → Detail → List ToldRace → List ℕ
races_text names Merged races = race_lines names races
races_text names Locations races = all_lines names races

abbrev pub uses_text : Names → LogReport → List ℕ
uses_text names r = use_lines names EntangledRead r.entangled_reads ++ use_lines names EntangledUse r.entangled_uses ++ use_lines names StaleUse r.stale_uses

abbrev pub ends_text : LogReport → List ℕ
ends_text r = cost_line r.work r.span ++ heaps_text_if r.heaps ++ end_line r

abbrev pub report_text : Names → Detail → LogReport → List ℕ
report_text names detail r = races_text names detail r.races ++ uses_text names r ++ ends_text r
