use Rattle.hh_model.proofs.Common.{rules, ◌≡◌, ◌∙◌, true, Some, ap, slice_get, subst, sym, advanced_by, calculates, IsOfRun, MachineValue, can_step}
use Rattle.hh_model.proofs.Calculating.{after, as_frame, each, reached_by}
use Rattle.hh_model.proofs.machine.Machine.calculate.Goals as goal

pub invariant_of-self : goal.invariant_of-self
invariant_of-self c =
    let g : MachineValue = record { program = c.self.inside.program.now; state = c.self.inside.state; steps = c.self.inside.steps } in
    let can : can_step g.state c.args.t ≡ true = search rules in
    let there : slice_get g.state.tasks c.args.t ≡ Some c.at_mut-task.result.now = search rules in
    subst IsOfRun (after g c.args.t c.at_mut-task.result.now can there c.calculate_on-count.result c.calculate_on-count.new.self c.calculate_on-count.ensures.leads)
    (reached_by g c.args.t c.calculate_on-count.result c.self.invariant)

pub returns-clause-only : goal.returns-clause-only
returns-clause-only c =
    let g : MachineValue = record { program = c.self.inside.program.now; state = c.self.inside.state; steps = c.self.inside.steps } in
    let can : can_step g.state c.args.t ≡ true = search rules in
    let there : slice_get g.state.tasks c.args.t ≡ Some c.at_mut-task.result.now = search rules in
    let same : g ≡ c.args.self.now = search rules in
    λ k lt.
    ap (λ (h : MachineValue). calculates h.program (advanced_by h c.args.t k).state c.args.t) (sym same)
    ∙ each g c.args.t c.at_mut-task.result.now can there c.calculate_on-count.result c.calculate_on-count.new.self c.calculate_on-count.ensures.leads k lt

pub returns-clause-all : goal.returns-clause-all
returns-clause-all c =
    let g : MachineValue = record { program = c.self.inside.program.now; state = c.self.inside.state; steps = c.self.inside.steps } in
    let can : can_step g.state c.args.t ≡ true = search rules in
    let there : slice_get g.state.tasks c.args.t ≡ Some c.at_mut-task.result.now = search rules in
    let same : g ≡ c.args.self.now = search rules in
    let n = c.calculate_on-count.result in
    let L = c.calculate_on-count.ensures.leads in
    let m = after g c.args.t c.at_mut-task.result.now can there n c.calculate_on-count.new.self L in
    λ lt.
    ap (λ (h : MachineValue). calculates c.args.self.now.program h.state c.args.t) (sym m)
    ∙ (ap (λ (h : MachineValue). calculates h.program (advanced_by g c.args.t n).state c.args.t) (sym same)
    ∙ (as_frame g c.args.t c.at_mut-task.result.now can there n c.calculate_on-count.new.self L ∙ c.calculate_on-count.ensures.all lt))

pub returns-clause-after : goal.returns-clause-after
returns-clause-after c =
    let g : MachineValue = record { program = c.self.inside.program.now; state = c.self.inside.state; steps = c.self.inside.steps } in
    let can : can_step g.state c.args.t ≡ true = search rules in
    let there : slice_get g.state.tasks c.args.t ≡ Some c.at_mut-task.result.now = search rules in
    let same : g ≡ c.args.self.now = search rules in
    sym (after g c.args.t c.at_mut-task.result.now can there c.calculate_on-count.result c.calculate_on-count.new.self c.calculate_on-count.ensures.leads)
    ∙ ap (λ (h : MachineValue). advanced_by h c.args.t c.calculate_on-count.result) same
