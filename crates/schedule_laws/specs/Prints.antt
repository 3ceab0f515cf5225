-- What steps print, and in which strand.
use Rattle.std.specs.Prelude.{◌≡◌, ℕ, ℤ, ◌+◌, ◌<◌, Option, Some, None, List, [], ◌∷◌, if◌then◌else◌, slice_get}
use Rattle.schedule_laws.specs.Common.{Line, ProgramText, Strand, Edge, Task, MachineState, Effect, Goes, Prints, Calls, Forks, Returns, Traps, Stops, effect, Precedes, same_strand, can_step, fetched, setting, start, step, strand_of, with_some}

pub record Print : Type 0 where
  pub strand : Strand
  pub number : ℤ

abbrev pub print_by : Strand → Effect → Option Print
print_by s (Prints k) = Some (record { strand = s; number = k })
print_by s (Goes f store) = None
print_by s (Calls g) = None
print_by s (Forks g h) = None
print_by s Returns = None
print_by s (Traps kind) = None
print_by s (Stops n) = None

abbrev pub line_print : MachineState → ℕ → Task → Option Line → Option Print
line_print m t x None = None
line_print m t x (Some line) = print_by (strand_of t x) (effect (setting m t x) x.top m.store line.instr)

abbrev pub task_print : ProgramText → MachineState → ℕ → Option Task → Option Print
task_print p m t None = None
task_print p m t (Some x) = line_print m t x (fetched p x.top)

-- what the next step of a task prints, if it can take one and prints
abbrev pub print_of : ProgramText → MachineState → ℕ → Option Print
print_of p m t = if can_step m t then task_print p m t (slice_get m.tasks t) else None

abbrev pub prints_from : ProgramText → MachineState → List ℕ → List Print
prints_from p m [] = []
prints_from p m (t ∷ ts) = with_some (print_of p m t) (prints_from p (step p m t) ts)

-- what steps of these tasks print, in this order
abbrev pub prints : ProgramText → ℕ → List ℕ → List Print
prints p limit ts = prints_from p (start p limit) ts

-- the numbers that one strand printed, in their order
abbrev pub printed_by : Strand → List Print → List ℤ
printed_by s [] = []
printed_by s (x ∷ xs) = if same_strand x.strand s then x.number ∷ printed_by s xs else printed_by s xs

-- of two prints the strand of the earlier one happens before that of the later one
abbrev pub PrintsAreOrdered : List Edge → List Print → Type 0
PrintsAreOrdered edges all = (i j : ℕ) (u v : Print) → i < j → slice_get all i ≡ Some u → slice_get all j ≡ Some v → Precedes edges u.strand v.strand

-- the number of these steps that are taken
abbrev pub turns_from : ProgramText → MachineState → List ℕ → ℕ
turns_from p m [] = 0
turns_from p m (t ∷ ts) = if can_step m t then turns_from p (step p m t) ts + 1 else turns_from p (step p m t) ts

abbrev pub turns : ProgramText → ℕ → List ℕ → ℕ
turns p limit ts = turns_from p (start p limit) ts
