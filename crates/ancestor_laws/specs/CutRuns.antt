-- What a run that was cut off says of the whole one.
use Rattle.std.specs.Prelude.{◌↔◌}
use Rattle.ancestor_laws.specs.Common.{GraphStrand, TaskTurns, HasStrand, StrandPrecedes, IsAttached, IsNested, with_joins, IsCut}

-- a strand that was kept, at least in part: it is attached, and all turns before it are there
pub record IsKept (cut : TaskTurns) (u : GraphStrand) : Type 0 where
  pub attached : IsAttached (with_joins cut) u
  pub stands : HasStrand cut u

-- with joins of what is unjoined the cut run is nested, and of what was kept the same precedes the same
abbrev pub CutRunsSpeakTruly : Type 0
CutRunsSpeakTruly =
    (cut whole : TaskTurns) → IsNested whole → IsCut cut whole
    → IsNested (with_joins cut)
    × ((u v : GraphStrand) → IsKept cut u → IsKept cut v → IsAttached whole u × (StrandPrecedes (with_joins cut) u v ↔ StrandPrecedes whole u v))
