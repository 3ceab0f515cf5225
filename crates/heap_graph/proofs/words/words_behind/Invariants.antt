use Rattle.heap_graph.proofs.Common.{◌≡◌, drop, words_of}
use Rattle.heap_graph.proofs.words.words_behind.Given as goal

abbrev pub invariant-loop : goal.invariant-loop
invariant-loop l = words_of l.rest ≡ drop l.counter (words_of l.line)
