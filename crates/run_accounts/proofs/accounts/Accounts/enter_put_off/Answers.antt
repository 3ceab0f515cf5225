use Rattle.run_accounts.proofs.Went.{went_put_off}
use Rattle.run_accounts.proofs.accounts.Accounts.enter_put_off.Goals as goal

pub returns-clause-ok : goal.returns-clause-ok
returns-clause-ok c =
    went_put_off c.args.self.now c.put_off.new.self c.args.worker c.args.task c.requires.agrees (c.put_off.ensures c.args.worker)
