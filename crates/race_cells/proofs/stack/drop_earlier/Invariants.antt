use Rattle.race_cells.proofs.Common.{◌≡◌, ◌≤◌, reverse, vec_len, vec_capacity, without_earlier}
use Rattle.race_cells.proofs.stack.drop_earlier.Given as goal

abbrev pub invariant-loop-top : goal.invariant-loop-top
invariant-loop-top g l = record {
  left : without_earlier (g.S.Strands.order l.strands) l.strand (reverse l.entries.items)
      ≡ without_earlier (g.S.Strands.order l.strands) l.strand (reverse l.fn.entries.items);
  capacity : vec_capacity l.entries ≡ vec_capacity l.fn.entries;
  fewer : vec_len l.entries ≤ vec_len l.fn.entries;
}

abbrev pub decreases-loop-top : goal.decreases-loop-top
decreases-loop-top g l = vec_len l.entries
