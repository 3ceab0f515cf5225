use Rattle.run_accounts.proofs.Common.{sym, subst, on_ok_weaker, MachineState, AreOwned, AccountsValue}
use Rattle.run_accounts.proofs.Stepped.{fork_is}
use Rattle.run_accounts.proofs.accounts.Accounts.fork.Goals as goal

pub within-requires : goal.within-requires
within-requires c =
    subst (λ (m : MachineState). AreOwned m.tasks c.self.inside.heaps) (sym c.state.ensures)
    (subst (λ (s : AccountsValue). AreOwned s.ledger.machine.tasks s.ledger.heaps) (sym c.self.view_is) c.requires)

pub returns : goal.returns
returns c =
    let v : AccountsValue = record { program = c.self.inside.program.now; settings = c.self.inside.settings; ledger = record { machine = c.self.inside.machine.state; heaps = c.self.inside.heaps; steps = c.self.inside.steps; end = c.self.inside.end }; used = c.self.inside.used; taken = c.self.inside.taken } in
    on_ok_weaker c.fork_heaps.result
    (λ f. fork_is v c.args.self.now c.self.view_is c.args.t c.state.result.now c.state.ensures c.in_ok-names.names c.in_ok-names.ensures c.fork_heaps.new.heaps f) c.fork_heaps.ensures
