use Rattle.shared_tree.proofs.Common.{◌<◌, length, sym, subst, Line, SharedValue, node_there, AsksFork, fork_shared, forks_to, is_par_line, par_is, asked_alone_forks as asked_alone}
use Rattle.shared_tree.proofs.shared.Shared.next_fork.Goals as goal
use Rattle.shared_tree.proofs.shared.Shared.next_fork.Goals.{After-next_line-instr, After-stands}

-- What the fork asks.
asks : (c : After-stands) → AsksFork c.args.self.now c.requires.out.worker c.args.part.now
asks c = record { I = c.stands.ensures; F = c.requires.out.fits; at_fork = c.requires.forks; free = c.requires.out.free }

-- Its line.
abbrev line : After-next_line-instr → Line
line c = record { instr = c.next_line-instr.result.0; number = c.next_line-instr.result.1 }

pub next_line-instr-requires-clause-shared : goal.next_line-instr-requires-clause-shared
next_line-instr-requires-clause-shared c = fork_shared c.args.self.now c.args.part.now c.requires.forks

pub unreachable-requires : goal.unreachable-requires
unreachable-requires c =
    let a = goal.at.unreachable-requires c in
    let par = par_is c.next_line-instr.result.0 (is_par_line (asks a.After-stands) (line a.After-next_line-instr) c.next_line-instr.ensures) in
    c.in_default.not-Par par.0 par.1 par.2

pub depth-requires : goal.depth-requires
depth-requires c =
    subst (λ (z : SharedValue). c.args.part.now.task < length z.tree) (sym c.self.view_is) (node_there (asked_alone (asks (goal.at.depth-requires c).After-stands)))

pub returns-then-depth-lt-DEPTH_LIMIT-clause-goes : goal.returns-then-depth-lt-DEPTH_LIMIT-clause-goes
returns-then-depth-lt-DEPTH_LIMIT-clause-goes c =
    let a = goal.at.returns-then-depth-lt-DEPTH_LIMIT-clause-goes c in
    (c.next_line-instr.result.1, forks_to (asks a.After-stands) (line a.After-next_line-instr) c.in-Par.left c.in-Par.right c.next_line-instr.ensures c.in-Par.is)

pub returns-else-depth-lt-DEPTH_LIMIT-clause-traps : goal.returns-else-depth-lt-DEPTH_LIMIT-clause-traps
returns-else-depth-lt-DEPTH_LIMIT-clause-traps c =
    let a = goal.at.returns-else-depth-lt-DEPTH_LIMIT-clause-traps c in
    (c.in-Par.left, c.in-Par.right, forks_to (asks a.After-stands) (line a.After-next_line-instr) c.in-Par.left c.in-Par.right c.next_line-instr.ensures c.in-Par.is)
