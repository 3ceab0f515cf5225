use Rattle.run_accounts.proofs.Common.{ap, arith, AccountsValue}
use Rattle.run_accounts.proofs.Went.{went_chunk}
use Rattle.run_accounts.proofs.accounts.Accounts.enter_chunk.Goals as goal

pub returns-clause-ok : goal.returns-clause-ok
returns-clause-ok c =
    went_chunk c.args.self.now c.chunk.new.self c.count_places.new.self c.args.worker c.args.task _ c.requires.agrees c.places-places.ensures.value (c.in_ok-chunk.ensures.ok c.args.worker) c.count_places.ensures

pub count_places-requires : goal.count_places-requires
count_places-requires c =
    let e = ap (λ (s : AccountsValue). s.used) (c.in_ok-chunk.ensures.ok c.args.worker) in omega (arith, e, c.requires.agrees.used, c.requires.steady.in_use)
