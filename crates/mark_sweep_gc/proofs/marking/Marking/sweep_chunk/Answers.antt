use Rattle.mark_sweep_gc.proofs.Common.{◌≡◌, ◌+◌, List, arith, refl, sym, ap, ◌∙◌, subst, Cell, size_of, ChunkValue, IsCellAt, cell_at, words_in}
use Rattle.object_layout.proofs.PlaceLemmas as place
use Rattle.mark_sweep_gc.proofs.Sweeping as sweeping
use Rattle.mark_sweep_gc.proofs.Sweeping.{before}
use Rattle.mark_sweep_gc.proofs.marking.Marking.sweep_chunk.Goals as goal

pub sweep_at-requires : goal.sweep_at-requires
sweep_at-requires c =
    let k : ChunkValue = c.args.chunk.now in
    subst (λ (xs : List Cell). IsCellAt xs c.loop-at.at) (sym (ap (λ (x : ChunkValue). x.cells) c.loop-at.invariant.chunk))
    (sweeping.before_begins c.args.self.now.found k.number 0 k.cells c.loop-at.at (c.loop-at.invariant.begins c.loop-at-test.true))

pub next_at-at-requires : goal.next_at-at-requires
next_at-at-requires c =
    let k : ChunkValue = c.args.chunk.now in
    sweeping.after_begins c.args.self.now.found k.number k c.loop-at.chunk c.sweep_at.new.chunk c.loop-at.at refl (c.loop-at.invariant.begins c.loop-at-test.true) c.loop-at.invariant.chunk c.sweep_at.ensures

pub loop-at-preserved : goal.loop-at-preserved
loop-at-preserved c =
    let k : ChunkValue = c.args.chunk.now in
    let o : IsCellAt c.args.chunk.now.cells c.loop-at.at = c.loop-at.invariant.begins c.loop-at-test.true in
    let size = sweeping.after_size c.args.self.now.found k.number k c.loop-at.chunk c.sweep_at.new.chunk c.loop-at.at refl o c.loop-at.invariant.chunk c.sweep_at.ensures in
    let next : c.next_at-at.result ≡ c.loop-at.at + size_of (cell_at c.args.chunk.now.cells c.loop-at.at) = c.next_at-at.ensures.next ∙ ap (λ n. c.loop-at.at + n) size in
    let ends = place.cell_ends c.args.chunk.now.cells c.loop-at.at o in
    record {
      chunk = sweeping.after_is c.args.self.now.found k.number k c.loop-at.chunk c.sweep_at.new.chunk c.loop-at.at refl o c.loop-at.invariant.chunk c.sweep_at.ensures c.next_at-at.result next;
      within = omega arith;
      begins = λ l. rw next (place.next_cell c.args.chunk.now.cells c.loop-at.at o (omega arith));
    }

pub returns : goal.returns
returns c =
    let k : ChunkValue = c.args.chunk.now in
    let w = c.loop-at.invariant.within in
    let at : c.loop-at.at ≡ words_in c.args.chunk.now.cells = omega arith in
    c.loop-at.invariant.chunk ∙ ap (λ (xs : List Cell). let r : ChunkValue = record c.args.chunk.now { cells = xs } in r) (ap (before c.args.self.now.found k.number 0 k.cells) at ∙ sweeping.before_all c.args.self.now.found k.number 0 k.cells)
