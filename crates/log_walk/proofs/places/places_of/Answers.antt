use Rattle.log_walk.proofs.Common.{◌+◌, length, sym, subst, tasks_in, AreMarkPlaces}
use Rattle.log_walk.proofs.Marks.{place_noted}
use Rattle.log_walk.proofs.places.places_of.Goals as goal

pub loop-place-preserved : goal.loop-place-preserved
loop-place-preserved c =
    let tasks = tasks_in c.args.tasks.now in
    let n = length c.args.tasks.now in
    subst (AreMarkPlaces tasks n c.args.order.now c.args.mark (c.loop-place.place + 1)) (sym c.note.ensures)
    (place_noted tasks n c.args.order.now c.args.mark c.requires c.loop-place.place c.at-strand.result.now c.at-strand.ensures c.loop-place.places c.loop-place.invariant)
