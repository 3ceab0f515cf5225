use Rattle.ledger_heaps.proofs.Common.{◌≡◌, ◌<◌, ◌^◌, [], drop, laid_onto, last_words}
use Rattle.ledger_heaps.proofs.collection.lay_all.Given as goal

abbrev pub invariant-loop-name : goal.invariant-loop-name
invariant-loop-name l = record {
  all : laid_onto l.machine l.chunks (drop l.name-index l.names) ≡ laid_onto l.machine [] l.names;
  last : l.last ≡ last_words l.machine l.chunks;
  small : l.last < 2 ^ 62;
}
