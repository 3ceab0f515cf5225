use Rattle.run_accounts.proofs.Common.{sym, subst, MachineState, AreOwned, AccountsValue}
use Rattle.run_accounts.proofs.accounts.Accounts.begin.Goals as goal

pub within-requires : goal.within-requires
within-requires c =
    subst (λ (m : MachineState). AreOwned m.tasks c.self.inside.heaps) (sym c.state.ensures)
    (subst (λ (s : AccountsValue). AreOwned s.ledger.machine.tasks s.ledger.heaps) (sym c.self.view_is) c.requires.owned)
