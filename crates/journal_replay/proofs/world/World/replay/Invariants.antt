use Rattle.std.proofs.Common.{◌≡◌, ◌+◌}
use Rattle.journal_replay.proofs.Replayed.{CameTo}
use Rattle.journal_replay.proofs.world.World.replay.Given as goal

abbrev pub invariant-loop-entry : goal.invariant-loop-entry
invariant-loop-entry g l = record {
  came : CameTo l.fn.self.shared.program l.fn.self.shared.settings l.entries l.entry-index l.index l.world;
  count : l.index ≡ l.entry-index + 1;
}
