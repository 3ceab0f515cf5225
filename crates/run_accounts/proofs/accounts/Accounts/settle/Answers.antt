use Rattle.run_accounts.proofs.Common.{◌≡◌, ◌∙◌, ap, true, Some, None, slice_get, rules, on_ok_weaker, is_joined, is_waiting, parents, Ledger}
use Rattle.run_accounts.proofs.Stepped.{settled_fork}
use Rattle.run_accounts.proofs.accounts.Accounts.settle.Goals as goal

pub fork-requires : goal.fork-requires
fork-requires c = let w : is_waiting (slice_get c.args.self.now.ledger.machine.tasks c.args.t) ≡ true = search rules in c.requires.owned w

pub returns-in-Waiting : goal.returns-in-Waiting
returns-in-Waiting c =
    let w : is_waiting (slice_get c.args.self.now.ledger.machine.tasks c.args.t) ≡ true = search rules in
    let e : c.args.self.now.ledger.machine.end ≡ None = search rules in
    on_ok_weaker c.fork.result (λ q. q ∙ ap (λ (l : Ledger). record c.args.self.now { ledger = l }) (settled_fork c.args.self.now.ledger c.args.t e w)) c.fork.ensures

pub join-requires-clause-paired : goal.join-requires-clause-paired
join-requires-clause-paired c =
    let j : is_joined (slice_get c.args.self.now.ledger.machine.tasks c.args.t) ≡ true = search rules in
    let e : parents c.args.self.now.ledger.machine.tasks c.args.t ≡ Some c.in-Some-parent.parent = search rules in
    c.requires.paired j c.args.t c.in-Some-parent.parent e
