use Rattle.run_accounts.proofs.Went.{went_took}
use Rattle.run_accounts.proofs.accounts.Accounts.enter_took.Goals as goal

pub returns-clause-ok : goal.returns-clause-ok
returns-clause-ok c =
    went_took c.args.self.now c.took.new.self c.args.worker c.args.task c.requires.agrees _ c.took.ensures
