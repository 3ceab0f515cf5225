-- Which stacks a cell stands for.
use Rattle.std.specs.Prelude.{Option, Some, None, [], ◌∷◌, option_to_list}
use Rattle.race_cells.specs.declared.access.CellEntry.{CellEntry}
use Rattle.race_cells.specs.declared.stacks.Stacks.{Stacks}
use Rattle.race_cells.specs.declared.cell.KeptAccesses.{KeptAccesses}
use Rattle.race_cells.specs.declared.cell.KeptAccesses.TheVariants.{Done, Few, Two, Many}
use Rattle.race_cells.specs.Scan.{with_reads}

abbrev pub few_stacks : Option CellEntry → Option CellEntry → Stacks
few_stacks write read = with_reads write (option_to_list read)

-- None where a race was reported
abbrev pub kept_stacks : KeptAccesses → Option Stacks
kept_stacks Done = None
kept_stacks (Few write read) = Some (few_stacks write read)
kept_stacks (Two write below top) = Some (with_reads write (top ∷ (below ∷ [])))
kept_stacks (Many stacks) = Some stacks
