use Rattle.run_ledger.specs.Heaps.{heap_of}
use Rattle.run_accounts.proofs.Went.{went_sweep}
use Rattle.run_accounts.proofs.Numbers.{sweep_few}
use Rattle.run_accounts.proofs.accounts.Accounts.enter_sweep.Goals as goal

pub returns-clause-ok : goal.returns-clause-ok
returns-clause-ok c = λ w.
    went_sweep c.args.self.now c.count_swept.new.self c.put_swept.new.self w c.args.task c.args.given _ c.requires.agrees c.in_ok-parts.ensures.number c.count_swept.ensures c.put_swept.ensures

pub count_cause-requires : goal.count_cause-requires
count_cause-requires c = sweep_few c.args.self.now.ledger.machine (heap_of c.args.self.now.ledger c.args.task) (c.requires.steady.units c.args.task) _ c.in_ok-parts.ensures.number
