-- When a leaf collection of a part is due, why it neither begins nor is put off, and how many chunks it takes.
use Rattle.std.specs.Prelude.{ℕ, ◌*◌, ◌-◌, Option, None, max, is_some}
use Rattle.core_invariant.specs.Common.{Refused, Collecting, NotDue, refused_if, refused_unless, units, Private, is_part_due}
use Rattle.core_invariant.specs.SharedValue.{SharedValue}
use Rattle.core_invariant.specs.WorkerPartFits.{WorkerPartFits}

-- the part is one that a worker holds
abbrev pub IsOutPart : SharedValue → Private → Type 0
IsOutPart w p = (worker : ℕ) × WorkerPartFits w worker p

-- for small objects of w words: one chunk less than twice the number that would hold them
abbrev pub take_by : ℕ → ℕ
take_by words = 2 * max 1 (units words) - 1

-- the causes common to beginning a collection and putting it off
abbrev pub due_cause : Private → Option ℕ → Option Refused
due_cause p asks = refused_if (is_some p.begun) Collecting (refused_unless (is_part_due p asks) (NotDue p.heap.since) None)
