use Rattle.remembered_set.proofs.Common.{List, ap, eqb, sym, ◌∙◌, list_any, take_all, ChunkValue, found_any}
use Rattle.remembered_set.proofs.table.number_chunks.Goals as goal

pub returns-clause-known : goal.returns-clause-known
returns-clause-known c = λ n.
    c.loop-chunk.invariant.known n
    ∙ (ap (λ (ks : List ChunkValue). list_any (λ (k : ChunkValue). eqb k.number n) ks) (take_all c.loop-chunk.chunk-index c.args.chunks.now c.loop-chunk-test.false) ∙ sym (found_any c.args.chunks.now n))
