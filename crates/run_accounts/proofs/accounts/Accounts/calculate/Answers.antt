use Rattle.run_accounts.proofs.Common.{◌≡◌, ◌+◌, ◌∙◌, arith, ap, rules, advanced_by, MachineValue, MachineState, AccountsValue}
use Rattle.run_accounts.proofs.Calculated.{calculated_is, calculated_standing, same_program, steps_taken}
use Rattle.run_accounts.proofs.accounts.Accounts.calculate.Goals as goal

pub invariant_of-self : goal.invariant_of-self
invariant_of-self c =
    let after = c.calculate-count.ensures.after in
    let steps = ap (λ (g : MachineValue). g.steps) after in
    let taken = steps_taken c.self.inside.machine c.args.t c.calculate-count.result in
    let before = c.self.invariant.0 in (
      omega (arith, steps, taken, before),
      ap (λ (g : MachineValue). g.program) after ∙ (same_program c.self.inside.machine c.args.t c.calculate-count.result ∙ c.self.invariant.1),
    )

pub returns-clause-standing : goal.returns-clause-standing
returns-clause-standing c =
    let a : AccountsValue =
    record {
      program = c.self.inside.program.now;
      settings = c.self.inside.settings;
      ledger = record { machine = c.self.inside.machine.state; heaps = c.self.inside.heaps; steps = c.self.inside.steps; end = c.self.inside.end };
      used = c.self.inside.used;
      taken = c.self.inside.taken;
    } in
    let same : a ≡ c.args.self.now = search rules in
    calculated_standing c.args.self.now c.self.inside.machine c.args.t c.args.most c.calculate-count.result (c.self.invariant.1 ∙ ap (λ (b : AccountsValue). b.program) same) (ap (λ (b : AccountsValue). b.ledger.machine) same)
    c.requires.used c.requires.steady c.calculate-count.ensures.most c.calculate-count.ensures.only

pub returns-clause-after : goal.returns-clause-after
returns-clause-after c =
    let a : AccountsValue =
    record {
      program = c.self.inside.program.now;
      settings = c.self.inside.settings;
      ledger = record { machine = c.self.inside.machine.state; heaps = c.self.inside.heaps; steps = c.self.inside.steps; end = c.self.inside.end };
      used = c.self.inside.used;
      taken = c.self.inside.taken;
    } in
    let same : a ≡ c.args.self.now = search rules in
    let g : MachineValue = c.self.inside.machine in
    let n = c.calculate-count.result in
    let with : AccountsValue → MachineState → AccountsValue = λ b m. record b { ledger = record b.ledger { machine = m; steps = b.ledger.steps + n } } in
    ap (λ (h : MachineValue). with a h.state) c.calculate-count.ensures.after
    ∙ (ap (λ b. with b (advanced_by g c.args.t n).state) same
    ∙ calculated_is c.args.self.now g c.args.t c.args.most n (c.self.invariant.1 ∙ ap (λ (b : AccountsValue). b.program) same) (ap (λ (b : AccountsValue). b.ledger.machine) same) c.requires.used c.requires.steady
    c.calculate-count.ensures.most c.calculate-count.ensures.only)
