use Rattle.run_accounts.proofs.Common.{◌≡◌, ◌-◌, ◌≤◌, went_on}
use Rattle.run_accounts.proofs.Standings.{Ran}
use Rattle.run_accounts.proofs.accounts.Accounts.ran.Given as goal

abbrev pub decreases-loop-done : goal.decreases-loop-done
decreases-loop-done l = l.steps - l.done

abbrev pub invariant-loop-done : goal.invariant-loop-done
invariant-loop-done l = record {
  ran : Ran l.fn.self.settings l.fn.self.program l.fn.self.ledger l.t l.steps l.done l.self.ledger;
  is : l.self ≡ went_on l.fn.self l.self.ledger;
  most : l.done ≤ l.steps;
}
