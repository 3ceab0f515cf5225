use Rattle.run_accounts.proofs.Common.{sym, ◌∙◌, ap, after_kind, Fuel}
use Rattle.run_accounts.proofs.accounts.Accounts.enter_fuel.Goals as goal

pub returns-in-Some-clause-err : goal.returns-in-Some-clause-err
returns-in-Some-clause-err c = λ w. sym (c.fuel_cause.ensures w) ∙ c.in-Some.is

pub returns-clause-none : goal.returns-clause-none
returns-clause-none c = λ w. sym (c.fuel_cause.ensures w) ∙ c.in_default.is

pub returns-clause-ok : goal.returns-clause-ok
returns-clause-ok c = λ w. c.fuel.ensures w ∙ ap (λ u. record c.args.self.now { ledger = after_kind c.args.self.now.program c.args.self.now.settings c.args.self.now.ledger w Fuel; used = u }) c.requires.used
