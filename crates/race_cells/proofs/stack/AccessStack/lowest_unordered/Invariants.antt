use Rattle.race_cells.proofs.Common.{◌≡◌, not, drop, find}
use Rattle.race_cells.proofs.stack.AccessStack.lowest_unordered.Given as goal

abbrev pub invariant-loop-entry : goal.invariant-loop-entry
invariant-loop-entry g l =
    find (λ u. not ((g.S.Strands.order l.strands).before u.strand l.strand)) (drop l.entry-index l.entry-items)
    ≡ find (λ u. not ((g.S.Strands.order l.strands).before u.strand l.strand)) l.entry-items
