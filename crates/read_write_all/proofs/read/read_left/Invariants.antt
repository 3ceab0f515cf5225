use Rattle.std.proofs.Common.{◌≡◌, ◌≤◌, ◌+◌, ◌-◌, ℕ, List, length, take, drop}
use Rattle.std.specs.Prelude.{Some}
use Rattle.read_write_all.proofs.read.read_left.Given as goal

abbrev pub invariant-loop-source : goal.invariant-loop-source
invariant-loop-source g l =
    ((left : List ℕ) → g.S.Source.left l.fn.source ≡ Some left → (l.input.items ≡ take (length l.input.items) left) × (g.S.Source.left l.source ≡ Some (drop (length l.input.items) left)))
    × (length l.input.items ≤ l.limit + 1)
    × (g.S.Source.faults l.fn.source ≤ g.S.Source.faults l.source)
    × ((n : List ℕ) → g.S.Source.named l.source n ≡ g.S.Source.named l.fn.source n)

abbrev pub decreases-loop-source : goal.decreases-loop-source
decreases-loop-source g l = l.limit + 1 - length l.input.items
