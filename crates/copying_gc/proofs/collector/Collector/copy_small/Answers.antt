use Rattle.copying_gc.proofs.Common.{◌≡◌, ◌<◌, true, length, sym, ap, ◌∙◌, subst, size_of, IsObject, cell_of, place_in, CollectorValue, copied, is_moved, ObjectFits}
use Rattle.copying_gc.proofs.collector.Collector.copy_small.Goals as goal

pub copy_if_small-requires-clause-place : goal.copy_if_small-requires-clause-place
copy_if_small-requires-clause-place c =
    ap (λ (z : CollectorValue). place_in z.heap.chunks c.args.survivor.old.chunk) c.place_of-place.ensures.same ∙ c.place_of-place.ensures.place

pub copy_if_small-requires-clause-object : goal.copy_if_small-requires-clause-object
copy_if_small-requires-clause-object c =
    subst (λ (z : CollectorValue). IsObject (cell_of z.heap.chunks c.args.survivor.old).mark) (sym c.place_of-place.ensures.same) c.requires.object

pub copy_if_small-requires-clause-room : goal.copy_if_small-requires-clause-room
copy_if_small-requires-clause-room c =
    subst (λ (z : CollectorValue). is_moved z.heap.chunks c.args.survivor.old ≡ true → ObjectFits z.laying (size_of (cell_of z.heap.chunks c.args.survivor.old))) (sym c.place_of-place.ensures.same) c.requires.room

pub copy_if_small-requires-clause-list : goal.copy_if_small-requires-clause-list
copy_if_small-requires-clause-list c =
    subst (λ (z : CollectorValue). length z.moved < length z.found) (sym c.place_of-place.ensures.same) c.requires.list

pub returns : goal.returns
returns c = c.copy_if_small.ensures ∙ ap (λ (z : CollectorValue). copied z c.args.survivor) c.place_of-place.ensures.same
