use Rattle.leaf_collections.proofs.FallingChunks.{taken_still}
use Rattle.leaf_collections.proofs.leaf_begin.take_falling.Goals as goal

pub returns-clause-taken : goal.returns-clause-taken
returns-clause-taken c = taken_still _ _ _ _ _ _ _ c.requires.none c.in_ok-take_all.ensures.taken c.put_falling.ensures.permutation
