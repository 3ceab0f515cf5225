use Rattle.turn_entries.proofs.Turning.{halts_with}
use Rattle.turn_entries.proofs.run.Run.halted.Goals as goal

pub returns : goal.returns
returns g c = halts_with (g.P.EntryCalls.value c.args.self.now.paced) (g.P.EntryCalls.value c.halt.new.self) c.halt.ensures.same c.halt.ensures.fits
