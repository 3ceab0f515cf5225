use Rattle.hh_model.proofs.Common.{rules, ◌<◌, ◌+◌, ◌^◌, ap, sym, subst, arith, MachineState, MachineValue, IsOfRun}
use Rattle.hh_model.proofs.Counts.{reached_sound, step_reached}
use Rattle.hh_model.proofs.Taken.{step_nothing}
use Rattle.hh_model.proofs.machine.Machine.step_line.Goals as goal

pub act-requires-clause-sound : goal.act-requires-clause-sound
act-requires-clause-sound c =
    let g : MachineValue = record { program = c.self.inside.program.now; state = c.self.inside.state; steps = c.self.inside.steps } in
    let few : c.self.inside.steps < 2 ^ 30 = omega (arith, ap (λ (h : MachineValue). h.steps) c.self.view_is) in
    reached_sound g c.self.invariant few

pub invariant_of-self : goal.invariant_of-self
invariant_of-self c =
    let g : MachineValue = record { program = c.self.inside.program.now; state = c.self.inside.state; steps = c.self.inside.steps } in
    let here : MachineState → Type 0 = λ m. IsOfRun (record { program = c.self.inside.program.now; state = m; steps = c.self.inside.steps + 1 }) in
    subst here (step_nothing g.program g.state c.args.t (search rules) (search rules)) (step_reached g c.args.t c.self.invariant)

pub invariant_of-self-2 : goal.invariant_of-self-2
invariant_of-self-2 c =
    let g : MachineValue = record { program = c.self.inside.program.now; state = c.self.inside.state; steps = c.self.inside.steps } in
    let here : MachineState → Type 0 = λ m. IsOfRun (record { program = c.self.inside.program.now; state = m; steps = c.self.inside.steps + 1 }) in
    subst here (sym (search rules)) (step_reached g c.args.t c.self.invariant)
