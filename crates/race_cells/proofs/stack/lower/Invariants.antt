use Rattle.race_cells.proofs.Common.{◌≡◌, ◌≤◌, reverse, vec_len, vec_capacity, lowered_stack}
use Rattle.race_cells.proofs.stack.lower.Given as goal

abbrev pub invariant-loop-below : goal.invariant-loop-below
invariant-loop-below g l = record {
  left : lowered_stack (g.S.Strands.order l.strands) l.strand (reverse l.entries.items)
      ≡ lowered_stack (g.S.Strands.order l.strands) l.strand (reverse l.fn.entries.items);
  capacity : vec_capacity l.entries ≡ vec_capacity l.fn.entries;
  fewer : vec_len l.entries ≤ vec_len l.fn.entries;
}

abbrev pub decreases-loop-below : goal.decreases-loop-below
decreases-loop-below g l = vec_len l.entries
