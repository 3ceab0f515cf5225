use Rattle.heap_graph.proofs.Common.{◌≡◌, ◌++◌, length, flat_map, words_of, word_field}
use Rattle.heap_graph.proofs.words.add_fields.Given as goal

abbrev pub invariant-loop-word : goal.invariant-loop-word
invariant-loop-word l = l.title.items ++ flat_map word_field (words_of l.rest) ≡ l.fn.title.items ++ flat_map word_field (words_of l.line)

abbrev pub decreases-loop-word : goal.decreases-loop-word
decreases-loop-word l = length l.rest
