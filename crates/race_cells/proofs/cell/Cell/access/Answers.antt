use Rattle.std.proofs.Common.{Some, None, sym}
use Rattle.race_cells.proofs.Exactness.{next_of_cell}
use Rattle.race_cells.proofs.cell.Cell.access.Goals as goal

pub returns-in-Some-clause-exact : goal.returns-in-Some-clause-exact
returns-in-Some-clause-exact g c =
    next_of_cell (g.S.Strands.order c.args.strands.now) c.args.self.now c.args.access (Some c.in-Some.race) (sym c.in-Some.ensures)

pub returns-in_ok-keep-in-None-clause-exact : goal.returns-in_ok-keep-in-None-clause-exact
returns-in_ok-keep-in-None-clause-exact g c =
    next_of_cell (g.S.Strands.order c.args.strands.now) c.args.self.now c.args.access None (sym c.in-None.ensures)
