-- What is printed about the pairs of a run and about other schedules.
use Rattle.std.specs.Prelude.{ℕ, List, [], ◌∷◌, ◌++◌, codes}
use Rattle.std.specs.List.{flat_map}
use Rattle.std.specs.Fmt.{decimal}
use Rattle.run_ledger.specs.Text.{line, end_line}
use Rattle.race_report.specs.declared.data.Race.{Race}
use Rattle.race_report.specs.Text.{pair_line, race_line}
use Rattle.schedule_report.specs.declared.data.Clashes.{Clashes}
use Rattle.schedule_report.specs.declared.data.Verdict.{Verdict}
use Rattle.schedule_report.specs.declared.data.Verdict.TheVariants.{Agree, AgreeButForPrints, MayDiffer}
use Rattle.schedule_report.specs.Schedules.{verdict_of}

abbrev pub swap_line : Race → List ℕ
swap_line = pair_line (codes "swap")

-- the tasks and the lines of two unordered prints
abbrev pub unordered_line : Race → List ℕ
unordered_line r = line (codes "prints unordered tasks" ∷ decimal r.first.0 ∷ decimal r.second.0 ∷ codes "lines" ∷ decimal r.first.1 ∷ decimal r.second.1 ∷ [])

-- whether the prints are in order; otherwise the first two that aren't
abbrev pub prints_line : List Race → List ℕ
prints_line [] = line (codes "prints ordered" ∷ [])
prints_line (r ∷ rest) = unordered_line r

abbrev pub verdict_line : Verdict → List ℕ
verdict_line Agree = end_line (codes "every schedule agrees" ∷ [])
verdict_line AgreeButForPrints = end_line (codes "every schedule agrees but for the order of prints" ∷ [])
verdict_line (MayDiffer n) = end_line (codes "schedules may differ" ∷ decimal n ∷ [])

abbrev pub clashes_text : Clashes → List ℕ
clashes_text c = flat_map race_line c.races ++ flat_map swap_line c.swaps ++ prints_line c.prints ++ verdict_line (verdict_of c)
