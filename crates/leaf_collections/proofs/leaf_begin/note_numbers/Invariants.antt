use Rattle.leaf_collections.proofs.Common.{◌≡◌, ◌≤◌, ◌+◌, ◌++◌, length, map, take, number_of}
use Rattle.leaf_collections.proofs.leaf_begin.note_numbers.Given as goal

abbrev pub invariant-loop-chunk : goal.invariant-loop-chunk
invariant-loop-chunk l = record { items : l.numbers.items ≡ l.fn.numbers.items ++ map number_of (take l.chunk-index l.chunks); room : length l.chunks ≤ l.numbers.room + l.chunk-index }
