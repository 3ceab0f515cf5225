-- The strand and the kind of an access.
use Rattle.std.specs.Prelude.{ℕ, ◌==◌, ◌&&◌, Bool, List, map}
use Rattle.std.specs.Bool.{beq}
use Rattle.std.specs.List.{list_any}
use Rattle.race_report.specs.declared.data.FieldAccess.{FieldAccess}
use Rattle.race_report.specs.declared.data.Seen.{Seen}

-- the strand, whether it writes, and whether it is by `cas`
abbrev pub Way : Type 0
Way = (ℕ × ℕ) × (Bool × Bool)

abbrev pub way_of : FieldAccess → Way
way_of a = ((a.strand.task, a.strand.joins), (a.writes, a.swaps))

abbrev pub same_way : Way → Way → Bool
same_way x y = ((x.0.0 == y.0.0) && (x.0.1 == y.0.1)) && (beq x.1.0 y.1.0 && beq x.1.1 y.1.1)

abbrev pub ways_of : List Seen → List Way
ways_of us = map (λ (u : Seen). way_of u.access) us

-- one of these accesses is of the same strand and kind
abbrev pub has_alike : List Seen → FieldAccess → Bool
has_alike us a = list_any (same_way (way_of a)) (ways_of us)
