-- What a run is scanned for: accesses of fields; those by `cas` alone, counted like any access; or prints.
use Rattle.std.specs.Prelude.{ℕ, Bool, true, false, Option, Some, None, List, [], ◌∷◌, slice_get, if◌then◌else◌}
use Rattle.run_journal.specs.below.hh_lang.{Instr, Out, Line, ProgramText}
use Rattle.run_journal.specs.below.hh_model.{Strand, Task, MachineState, can_step, fetched, start, step, strand_of}
use Rattle.race_report.specs.declared.data.Field.{Field}
use Rattle.race_report.specs.declared.data.FieldAccess.{FieldAccess}
use Rattle.race_report.specs.declared.data.Sight.{Sight}
use Rattle.race_report.specs.declared.data.Sight.TheVariants.{Fields, Swaps, Prints}
use Rattle.race_report.specs.Accesses.{access, next_access, accesses_from, with_some}

-- COMPARE AND SWAPS

-- counted as an access not made by `cas`
abbrev pub plain : FieldAccess → FieldAccess
plain a = record a { swaps = false }

abbrev pub swap_if : Bool → FieldAccess → Option FieldAccess
swap_if true a = Some (plain a)
swap_if false a = None

abbrev pub swap_of : Option FieldAccess → Option FieldAccess
swap_of None = None
swap_of (Some a) = swap_if a.swaps a

-- the accesses made by `cas`, each counted like any other
abbrev pub swaps_of : List FieldAccess → List FieldAccess
swaps_of [] = []
swaps_of (a ∷ rest) = with_some (swap_if a.swaps a) (swaps_of rest)

-- PRINTS count as writes to one common field

abbrev pub print_field : Field
print_field = record { name = record { task = 0; count = 0 }; is_number = false; index = 0 }

abbrev pub said_by : Strand → ℕ → Instr → Option FieldAccess
said_by s line (Out x) = access s line true false (Some print_field)
said_by s line _ = None

abbrev pub line_said : ℕ → Task → Option Line → Option FieldAccess
line_said t x None = None
line_said t x (Some line) = said_by (strand_of t x) line.number line.instr

abbrev pub task_said : ProgramText → ℕ → Option Task → Option FieldAccess
task_said p t None = None
task_said p t (Some x) = line_said t x (fetched p x.top)

-- what the next step of a task prints, if it can take one and prints
abbrev pub said_of : ProgramText → MachineState → ℕ → Option FieldAccess
said_of p m t = if can_step m t then task_said p t (slice_get m.tasks t) else None

abbrev pub said_from : ProgramText → MachineState → List ℕ → List FieldAccess
said_from p m [] = []
said_from p m (t ∷ ts) = with_some (said_of p m t) (said_from p (step p m t) ts)

-- ALL

abbrev pub looked_of : Sight → ProgramText → MachineState → ℕ → Option FieldAccess
looked_of Fields p m t = next_access p m t
looked_of Swaps p m t = swap_of (next_access p m t)
looked_of Prints p m t = said_of p m t

abbrev pub looked_from : Sight → ProgramText → MachineState → List ℕ → List FieldAccess
looked_from Fields p m ts = accesses_from p m ts
looked_from Swaps p m ts = swaps_of (accesses_from p m ts)
looked_from Prints p m ts = said_from p m ts

-- what steps of these tasks add to the scan, in this order
abbrev pub looked : Sight → ProgramText → ℕ → List ℕ → List FieldAccess
looked sight p limit ts = looked_from sight p (start p limit) ts
