use Rattle.journal_replay.proofs.Common.{Err, arith, refl, subst, AppliesTo}
use Rattle.journal_replay.proofs.Replayed.{came_first, came_more, come_to}
use Rattle.journal_replay.proofs.world.World.replay.Goals as goal

pub loop-entry-init : goal.loop-entry-init
loop-entry-init g c = record {
  came = came_first c.args.self.shared.program c.args.self.shared.settings c.args.entries.now c.args.self refl refl c.requires.first c.requires.goes;
  count = refl;
}

pub returns-in-Err-NoMemory : goal.returns-in-Err-NoMemory
returns-in-Err-NoMemory g c =
    come_to c.args.self.shared.program c.args.self.shared.settings c.args.entries.now c.loop-entry.entry-index c.loop-entry.index c.entry-item.result c.loop-entry-test.true c.entry-item.is c.loop-entry.world c.apply.new.self c.loop-entry.invariant.came c.stands.ensures.shared
    (subst (λ z. AppliesTo c.loop-entry.world c.apply.new.self c.entry-item.result (Err z)) c.in-Err-NoMemory.field-0-is c.in-Err-NoMemory.ensures)

pub loop-entry-preserved : goal.loop-entry-preserved
loop-entry-preserved g c = record {
  came =
      came_more c.args.self.shared.program c.args.self.shared.settings c.args.entries.now c.loop-entry.entry-index c.loop-entry.index c.entry-item.result c.loop-entry-test.true c.entry-item.is c.loop-entry.world c.apply.new.self c.loop-entry.invariant.came c.in-Ok.ensures;
  count = omega arith;
}
