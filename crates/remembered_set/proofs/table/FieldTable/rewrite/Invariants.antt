use Rattle.remembered_set.proofs.Common.{◌≡◌, drop, fold, redirected, AreFields}
use Rattle.remembered_set.proofs.table.FieldTable.rewrite.Given as goal

abbrev pub invariant-loop-source : goal.invariant-loop-source
invariant-loop-source g l = record {
  fields : AreFields g.W.Words.refs_at l.words (drop l.source-index l.source-items);
  rest :
      fold (redirected g.W.Words.refs_at g.W.Words.with_ref_at l.moved) l.fn.words l.source-items
      ≡ fold (redirected g.W.Words.refs_at g.W.Words.with_ref_at l.moved) l.words (drop l.source-index l.source-items);
}
