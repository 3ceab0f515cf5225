-- What holds of all logs.
use Rattle.std.specs.Prelude.{ℕ, List}
use Rattle.log_births.specs.Common.{GraphStrand, tasks_in, StrandPrecedes, LogTasks, Event}
use Rattle.log_births.specs.declared.findings.Finding.{Finding}
use Rattle.log_births.specs.Blocks.{yielded}
use Rattle.log_births.specs.Findings.{DoesToBlock, IsEntangledRead, IsEntangledUse}

-- a read that yields a block is entangled if it happens before an entangled use of the block
abbrev pub UsesTellReads : Type 0
UsesTellReads =
    (events : List Event) (tasks : LogTasks) (found : Finding) (entangled : IsEntangledUse events tasks found) (n : ℕ) (read : GraphStrand)
    → DoesToBlock yielded events tasks found.block n read → StrandPrecedes (tasks_in tasks.turns) read entangled.strand
    → IsEntangledRead events tasks (record { block = found.block; line = n; other = found.other })
