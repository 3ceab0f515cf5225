use Rattle.turn_entries.specs.below.turn_lock.{identity}
use Rattle.worker_run.proofs.Giving.{extends}
use Rattle.worker_run.proofs.turn.give_entry.Goals as goal

pub give_back-requires-clause-turn : goal.give_back-requires-clause-turn
give_back-requires-clause-turn g c =
    (c.requires.entry.taken, c.requires.entry.turn, extends g.P.EntryCalls.value (identity c.args.turn.now) c.args.worker_state.now c.args.run c.requires.entry c.is_short.ensures)
