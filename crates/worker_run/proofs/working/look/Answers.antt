use Rattle.std.proofs.Common.{rules}
use Rattle.worker_run.proofs.Finding.{finds_same}
use Rattle.worker_run.proofs.working.look.Goals as goal

pub returns-clause-hand : goal.returns-clause-hand
returns-clause-hand g c = record { rest = search rules; thieves = (finds_same c.args.worker_state.now.worker c.args.worker_state.now.hand c.find.new.hand c.find.result c.find.ensures).workers }
