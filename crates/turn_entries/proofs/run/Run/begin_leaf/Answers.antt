use Rattle.turn_entries.proofs.Common.{refl, Some, Begin}
use Rattle.turn_entries.proofs.Turning.{not_over, unchanged}
use Rattle.turn_entries.proofs.run.Run.begin_leaf.Goals as goal

pub returns-in-Err : goal.returns-in-Err
returns-in-Err g c = λ ready. c.halted.ensures (g.P.EntryCalls.value c.args.self.now.paced) c.args.worker ready (Some (Begin c.args.part.task)) (unchanged (g.P.EntryCalls.value c.args.self.now.paced) (g.P.EntryCalls.value c.args.self.now.paced) refl) (not_over (g.P.EntryCalls.value c.args.self.now.paced) c.requires.enter.on c.requires.enter.goes)
