use Rattle.remembered_set.proofs.Common.{◌≡◌, ◌++◌, drop, targets_of, AreFields}
use Rattle.remembered_set.proofs.table.FieldTable.targets.Given as goal

abbrev pub invariant-loop-source : goal.invariant-loop-source
invariant-loop-source g l = record {
  fields : AreFields g.W.Words.refs_at l.words (drop l.source-index l.source-items);
  rest :
      targets_of g.W.Words.refs_at l.words l.heap l.source-items
      ≡ l.targets.items ++ targets_of g.W.Words.refs_at l.words l.heap (drop l.source-index l.source-items);
}
