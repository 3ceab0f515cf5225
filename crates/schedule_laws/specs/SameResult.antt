-- Two runs with the same result.
use Rattle.std.specs.Prelude.{◌≡◌, ◌↔◌, ℕ, List, length, Contains}
use Rattle.schedule_laws.specs.Common.{ProgramText, Strand, run, Field, FieldAccess, accesses, IsRenaming, name_to, strand_to, AreRenamed}
use Rattle.schedule_laws.specs.Prints.{prints, printed_by, PrintsAreOrdered, turns}
use Rattle.schedule_laws.specs.Ordered.{IsOrdered}

-- fields and accesses of renamed tasks
abbrev pub field_to : (ℕ → ℕ) → Field → Field
field_to f x = record x { name = name_to f x.name }

abbrev pub access_to : (ℕ → ℕ) → FieldAccess → FieldAccess
access_to f a = record a { strand = strand_to f a.strand; field = field_to f a.field }

-- the run by us has the same result as that by ts, except for the numbers of tasks
pub record SameResult (p : ProgramText) (limit : ℕ) (ts us : List ℕ) : Type 0 where
  -- f maps the numbers of tasks in the first run to those in the second, and g is its inverse
  pub f : ℕ → ℕ
  pub g : ℕ → ℕ
  pub renaming : IsRenaming (length (run p limit ts).tasks) f g
  -- all tasks with all that they hold, all objects, all edges and the end
  pub alike : AreRenamed f (run p limit ts) (run p limit us)
  pub turns : turns p limit us ≡ turns p limit ts
  pub accesses : (a : FieldAccess) → Contains (accesses p limit us) (access_to f a) ↔ Contains (accesses p limit ts) a
  pub ordered : IsOrdered p limit us
  -- each strand prints the same numbers in the same order; if the prints are in order, the outputs are the same
  pub printed : (s : Strand) → printed_by (strand_to f s) (prints p limit us) ≡ printed_by s (prints p limit ts)
  pub outputs : PrintsAreOrdered (run p limit ts).edges (prints p limit ts) → (run p limit us).outputs ≡ (run p limit ts).outputs
