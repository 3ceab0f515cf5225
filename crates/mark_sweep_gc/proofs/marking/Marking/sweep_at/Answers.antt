use Rattle.mark_sweep_gc.proofs.Common.{◌≡◌, ◌∙◌, ℕ, List, ap, sym, Cell, ChunkValue, cell_at, put_cell, has_address}
use Rattle.object_layout.proofs.PlaceLemmas as place
use Rattle.mark_sweep_gc.proofs.Sweeping as sweeping
use Rattle.mark_sweep_gc.proofs.marking.Marking.sweep_at.Goals as goal

-- putting a cell where it is
put_same : (k : ChunkValue) (at : ℕ) (d : Cell) → d ≡ cell_at k.cells at → k ≡ record k { cells = put_cell k.cells at d }
put_same k at d e = ap (λ (cs : List Cell). let r : ChunkValue = record k { cells = cs } in r) (sym (ap (put_cell k.cells at) e ∙ place.put_cell-itself k.cells at))

pub returns-then-not-is_object_at : goal.returns-then-not-is_object_at
returns-then-not-is_object_at c =
    let none = sym (sweeping.object_is (cell_at c.args.chunk.now.cells c.args.at).mark c.is_object_at.result c.is_object_at.ensures) ∙ c.if-not-is_object_at.true in
    put_same c.args.chunk.now c.args.at _ (sweeping.swept_itself (has_address c.args.self.now.found (record { chunk = c.args.chunk.now.number; offset = c.args.at })) (cell_at c.args.chunk.now.cells c.args.at) none)

pub returns-else-not-leaves_object_at : goal.returns-else-not-leaves_object_at
returns-else-not-leaves_object_at c =
    put_same c.args.chunk.now c.args.at _
    (sweeping.left_itself (has_address c.args.self.now.found (record { chunk = c.args.chunk.now.number; offset = c.args.at })) (cell_at c.args.chunk.now.cells c.args.at) (sym c.leaves_object_at.ensures ∙ c.if-not-leaves_object_at.false))

pub returns-then-not-leaves_object_at : goal.returns-then-not-leaves_object_at
returns-then-not-leaves_object_at c =
    let some = sym (sweeping.object_is (cell_at c.args.chunk.now.cells c.args.at).mark c.is_object_at.result c.is_object_at.ensures) ∙ c.if-not-is_object_at.false in
    let gone = sym c.leaves_object_at.ensures ∙ c.if-not-leaves_object_at.true in
    c.drop_at.ensures
    ∙ ap (λ (d : Cell). let r : ChunkValue = record c.args.chunk.now { cells = put_cell c.args.chunk.now.cells c.args.at d } in r)
    (sweeping.dropped_is (has_address c.args.self.now.found (record { chunk = c.args.chunk.now.number; offset = c.args.at })) (cell_at c.args.chunk.now.cells c.args.at) some gone)
