use Rattle.memory_scenes.proofs.Common.{arith, cell_at, cells_from, HasSoundReferences}
use Rattle.memory_scenes.proofs.Checks.{all_step}
use Rattle.memory_scenes.proofs.cells.is_fit_chunk.Goals as goal

pub loop-at-preserved : goal.loop-at-preserved
loop-at-preserved c =
    let words = c.used-used.ensures.words in
    let within = c.next_at-at.ensures.within in
    let cells = c.args.chunk.now.cells in
    record {
      within = omega arith;
      begins = λ less. c.next_at-at.ensures.begins (omega arith);
      fit = λ rest. c.loop-at.invariant.fit (all_step (HasSoundReferences c.args.heap.now.chunks) (cells_from cells c.loop-at.at) (cells_from cells c.next_at-at.result) (cell_at cells c.loop-at.at) c.next_at-at.ensures.rest (c.is_fit.ensures c.if-not-is_fit.false) rest);
    }
