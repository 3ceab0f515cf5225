use Rattle.shared_tree.proofs.Common.{◌≡◌, ◌≤◌, None, sym, subst, Depth, depth_of, Private, SharedValue, WorkerPartFits, refused, alone_entry, HaltsAlone, IsAtFork, ForksTo, trap_is, deep_traps, fork_shared}
use Rattle.shared_tree.proofs.shared.Shared.trap_fork.Goals as goal

pub enter_halt-requires-clause-fits : goal.enter_halt-requires-clause-fits
enter_halt-requires-clause-fits c = subst (λ (r : Private). WorkerPartFits c.args.self.now c.args.worker r) (sym c.take_out-held.ensures) c.requires.fits

pub enter_halt-requires-clause-shared : goal.enter_halt-requires-clause-shared
enter_halt-requires-clause-shared c =
    fork_shared c.args.self.now c.take_out-held.result.0 (subst (λ (r : Private). IsAtFork c.args.self.now r) (sym c.take_out-held.ensures) c.requires.forks)

pub enter_halt-requires-clause-free : goal.enter_halt-requires-clause-free
enter_halt-requires-clause-free c = subst (λ (r : Private). refused c.args.self.now (alone_entry c.args.worker r) ≡ None) (sym c.take_out-held.ensures) c.requires.free

pub enter_halt-requires-clause-ends : goal.enter_halt-requires-clause-ends
enter_halt-requires-clause-ends c =
    let w : SharedValue = c.args.self.now in
    let p : Private = c.take_out-held.result.0 in
    let F : WorkerPartFits w c.args.worker p = subst (λ (r : Private). WorkerPartFits w c.args.worker r) (sym c.take_out-held.ensures) c.requires.fits in
    let forks : IsAtFork w p = subst (λ (r : Private). IsAtFork w r) (sym c.take_out-held.ensures) c.requires.forks in
    let free : refused w (alone_entry c.args.worker p) ≡ None = subst (λ (r : Private). refused w (alone_entry c.args.worker r) ≡ None) (sym c.take_out-held.ensures) c.requires.free in
    let by : ForksTo w p c.requires.by.0 c.requires.by.1 c.args.line = subst (λ (r : Private). ForksTo w r c.requires.by.0 c.requires.by.1 c.args.line) (sym c.take_out-held.ensures) c.requires.by.2 in
    let deep : 1000 ≤ depth_of w.tree p.task = subst (λ (r : Private). 1000 ≤ depth_of w.tree r.task) (sym c.take_out-held.ensures) c.requires.deep in
    trap_is w p Depth c.args.line (deep_traps (record { I = c.stands.ensures; F = F; at_fork = forks; free = free }) c.requires.by.0 c.requires.by.1 c.args.line by deep)

pub enter_halt-requires-clause-other : goal.enter_halt-requires-clause-other
enter_halt-requires-clause-other c = λ e. cc

pub returns : goal.returns
returns c =
    subst (λ (x : Private). HaltsAlone c.args.self.now c.enter_halt.new.self c.args.worker c.args.part x) (sym c.fill.ensures)
    (subst (λ (r : Private). HaltsAlone c.args.self.now c.enter_halt.new.self c.args.worker r c.enter_halt.new.part) c.take_out-held.ensures c.enter_halt.ensures)
