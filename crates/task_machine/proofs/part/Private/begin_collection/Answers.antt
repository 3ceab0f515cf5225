use Rattle.std.proofs.Common.{Some}
use Rattle.task_machine.proofs.Entries.{begun_fits}
use Rattle.task_machine.proofs.part.Private.begin_collection.Goals as goal

pub returns-clause-fits : goal.returns-clause-fits
returns-clause-fits c = begun_fits c.args.self.now (Some c.args.begun)
