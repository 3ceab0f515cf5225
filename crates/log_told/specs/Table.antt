-- Lines by their numbers.
use Rattle.std.specs.Prelude.{◌≡◌, ℕ, List, map, Contains}
use Rattle.std.specs.List.Sorted.{IsStrictlyIncreasing}
use Rattle.act_lines.specs.ActLines.{act_line}
use Rattle.race_scan.specs.declared.cells.FoundRace.{FoundRace}
use Rattle.log_births.specs.declared.findings.Finding.{Finding}
use Rattle.log_told.specs.declared.table.LineTable.{LineTable}

-- the table has the lines of the acts that are wanted
pub record IsTable (texts : List (List ℕ)) (wanted : List ℕ) (table : LineTable) : Type 0 where
  pub ascending : IsStrictlyIncreasing table.numbers
  pub lines : table.lines ≡ map (act_line texts) table.numbers
  pub has : (n : ℕ) → Contains wanted n → Contains table.numbers n

-- both lines are wanted
abbrev pub IsToldRace : List ℕ → FoundRace → Type 0
IsToldRace wanted f = Contains wanted f.race.first.line × Contains wanted f.race.second.line

abbrev pub IsToldUse : List ℕ → Finding → Type 0
IsToldUse wanted f = Contains wanted f.line × Contains wanted f.other
