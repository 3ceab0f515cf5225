use Rattle.run_ledger.specs.Heaps.{heap_of}
use Rattle.refinement.proofs.changes.Sweep as proved
use Rattle.refinement.proofs.laws.sweeps_keep.Goals as goal

pub returns : goal.returns
returns c = λ v v' l l' t S V. proved.swept v v' l l' t (heap_of l t).snapshot S V
