use Rattle.log_walk.proofs.Common.{length, tasks_in, AreMarkPlaces}
use Rattle.log_walk.proofs.places.places_of.Given as goal

abbrev pub invariant-loop-place : goal.invariant-loop-place
invariant-loop-place l = AreMarkPlaces (tasks_in l.tasks) (length l.tasks) l.order l.mark l.place l.places
