use Rattle.copying_gc.proofs.Common.{subst, sym, List, ChunkValue, AreCounted}
use Rattle.copying_gc.proofs.exchange.put_counted.Goals as goal

pub counts_with-held-requires : goal.counts_with-held-requires
counts_with-held-requires c = λ no. subst (λ (ks : List ChunkValue). AreCounted ks c.args.counts) (sym c.deref.ensures.value) (c.requires.counted no)

pub put_chunks-requires-clause-counted : goal.put_chunks-requires-clause-counted
put_chunks-requires-clause-counted c = subst (λ (ks : List ChunkValue). AreCounted ks c.counts_with-held.result) c.deref.ensures.value c.counts_with-held.ensures
