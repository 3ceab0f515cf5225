use Rattle.log_walk.specs.Tables.{AreSpawnLinks}
use Rattle.log_walk.proofs.links.spawn_links.Given as goal

abbrev pub invariant-loop-place : goal.invariant-loop-place
invariant-loop-place l = AreSpawnLinks l.order l.firsts l.place l.links.items
