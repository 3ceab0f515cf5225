-- Entangled uses tell of entangled reads.
use Rattle.log_births.proofs.Common.{tasks_in, both, UsesTellReads}

pub uses_tell_reads : UsesTellReads
uses_tell_reads events tasks found entangled n read yields before = record {
  birth = entangled.birth;
  strand = read;
  born_there = entangled.born_there;
  seen_here = yields;
  not_before = λ sooner. entangled.not_before (both (tasks_in tasks.turns) entangled.birth read entangled.strand sooner before);
}
