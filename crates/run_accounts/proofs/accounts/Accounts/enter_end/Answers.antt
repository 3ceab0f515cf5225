use Rattle.run_ledger.specs.Heaps.{heap_of}
use Rattle.run_accounts.proofs.Went.{went_end}
use Rattle.run_accounts.proofs.Numbers.{end_few}
use Rattle.run_accounts.proofs.accounts.Accounts.enter_end.Goals as goal

pub returns-clause-ok : goal.returns-clause-ok
returns-clause-ok c =
    went_end c.args.self.now c.count_collected.new.self c.put_collected.new.self c.args.worker c.args.task c.args.said.0 c.args.said.1 c.args.said.2 c.in_ok-parts.parts c.requires.agrees c.in_ok-parts.ensures.heap c.in_ok-parts.ensures.numbers
    c.count_collected.ensures c.put_collected.ensures

pub end_cause-requires : goal.end_cause-requires
end_cause-requires c =
    end_few c.args.self.now.ledger.machine (heap_of c.args.self.now.ledger c.args.task) (c.requires.steady.words c.args.task) (c.requires.steady.units c.args.task) _ _ _ c.in_ok-parts.ensures.numbers
