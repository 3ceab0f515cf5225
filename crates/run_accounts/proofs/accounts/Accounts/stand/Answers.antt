use Rattle.run_accounts.proofs.Common.{◌≡◌, ◌∙◌, ap, false, is_some, rules, task_step, is_due, is_in_need, is_own, AccountsValue}
use Rattle.run_accounts.proofs.Standings.{stood_is}
use Rattle.run_accounts.proofs.accounts.Accounts.stand.Goals as goal

pub returns-clause-stood : goal.returns-clause-stood
returns-clause-stood c =
    let d : is_due c.args.self.now.settings c.args.self.now.program c.args.self.now.ledger c.args.t ≡ false = search rules in
    let n : is_in_need c.args.self.now.program c.args.self.now.ledger c.args.t ≡ false = search rules in
    let own : c.next_step-ahead.result.own ≡ is_own c.args.self.now.program c.args.self.now.ledger.machine c.args.t = search rules in
    let now : c.is_some-ended.result ≡ is_some c.step.new.self.ledger.machine.end = search rules in
    let e : c.is_some-ended.result ≡ is_some (task_step c.args.self.now.program c.args.self.now.ledger c.args.t).machine.end =
    now ∙ ap (λ (s : AccountsValue). is_some s.ledger.machine.end) c.in_ok-step.ensures in
    c.stood_by.ensures ∙ stood_is c.args.self.now.settings c.args.self.now.program c.args.self.now.ledger c.args.t _ _ d n own e
