use Rattle.std.proofs.Common.{rules, refl}
use Rattle.worker_run.proofs.working.share_right.Goals as goal

pub returns-in-Ok-clause-hand : goal.returns-in-Ok-clause-hand
returns-in-Ok-clause-hand g c = record { rest = search rules; thieves = c.in-Ok.ensures.ok.same.workers }

pub returns-in-Ok-clause-shared : goal.returns-in-Ok-clause-shared
returns-in-Ok-clause-shared g c = (refl, c.in-Ok.ensures.ok)

pub returns-in-Err-clause-hand : goal.returns-in-Err-clause-hand
returns-in-Err-clause-hand g c = record { rest = search rules; thieves = c.in-Err.ensures.err.same.workers }
