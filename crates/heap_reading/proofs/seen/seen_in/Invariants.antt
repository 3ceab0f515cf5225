use Rattle.heap_reading.proofs.Common.{◌≡◌, ◌-◌, ◌<◌, ◌≤◌, ◌⊎◌, ◌++◌, All, None, map, moved_to, IsCellAt, cells_from, Located, objects_from, In, IsInWords, in_words}
use Rattle.heap_reading.proofs.seen.seen_in.Given as goal

abbrev pub invariant-loop-at : goal.invariant-loop-at
invariant-loop-at l = record {
  end : l.at ≤ l.used;
  begins : l.at < l.used → IsCellAt l.chunk.cells l.at;
  unmoved : All (λ c. moved_to c.mark ≡ None) (cells_from l.chunk.cells l.at);
  objects : l.objects ++ map in_words (objects_from l.chunk.number l.at (cells_from l.chunk.cells l.at)) ≡ map in_words (objects_from l.chunk.number 0 l.chunk.cells);
  words : (o : Located) → In (objects_from l.chunk.number 0 l.chunk.cells) o → IsInWords o ⊎ In (objects_from l.chunk.number l.at (cells_from l.chunk.cells l.at)) o;
}

abbrev pub decreases-loop-at : goal.decreases-loop-at
decreases-loop-at l = l.used - l.at
