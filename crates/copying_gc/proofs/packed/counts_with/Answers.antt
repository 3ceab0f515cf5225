use Rattle.copying_gc.proofs.packed.counts_with.Goals as goal

pub returns : goal.returns
returns c = c.requires c.if-are_large.false
