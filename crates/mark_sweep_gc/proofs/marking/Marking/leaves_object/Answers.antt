use Rattle.mark_sweep_gc.proofs.Common.{◌∙◌, ◌+◌, arith, sym, cell_at, cells_from, size_of}
use Rattle.object_layout.proofs.PlaceLemmas as place
use Rattle.mark_sweep_gc.proofs.Sweeping as sweeping
use Rattle.mark_sweep_gc.proofs.marking.Marking.leaves_object.Goals as goal

pub returns-then-leaves_object_at : goal.returns-then-leaves_object_at
returns-then-leaves_object_at c =
    let cells = c.args.chunk.now.cells in
    let at = c.loop-at.at in
    sym (c.loop-at.invariant.rest
    ∙ sweeping.some_left c.args.self.now.found c.args.chunk.now.number (cells_from cells at) at (cell_at cells at) (cells_from cells (at + size_of (cell_at cells at)))
    (place.cells_from-next cells at (c.loop-at.invariant.begins c.loop-at-test.true)) (sym c.leaves_object_at.ensures ∙ c.if-leaves_object_at.true))

pub loop-at-preserved : goal.loop-at-preserved
loop-at-preserved c =
    let cells = c.args.chunk.now.cells in
    let at = c.loop-at.at in
    let words = c.used-used.ensures.words in
    let within = c.next_at-at.ensures.within in
    record {
      within = omega arith;
      begins = λ less. c.next_at-at.ensures.begins (omega arith);
      rest = c.loop-at.invariant.rest
          ∙ sweeping.go_on c.args.self.now.found c.args.chunk.now.number (cells_from cells at) at c.next_at-at.result (cell_at cells at) (cells_from cells c.next_at-at.result)
          c.next_at-at.ensures.rest c.next_at-at.ensures.next (sym c.leaves_object_at.ensures ∙ c.if-leaves_object_at.false);
    }
