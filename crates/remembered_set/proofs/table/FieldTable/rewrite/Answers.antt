use Rattle.remembered_set.proofs.Common.{◌+◌, drop, drop_more, RefField}
use Rattle.remembered_set.proofs.SourceLemmas as lemma
use Rattle.remembered_set.proofs.table.FieldTable.rewrite.Goals as goal

abbrev none : RefField
none = record { object = record { chunk = 0; offset = 0 }; field = 0 }

pub loop-source-preserved : goal.loop-source-preserved
loop-source-preserved g c =
    let more = drop_more c.deref-source-items.result.now c.loop-source.source-index none c.loop-source-test.true in
    let fields = rw more at c.loop-source.invariant.fields in
    let rest = rw more at c.loop-source.invariant.rest in
    record {
      fields =
          rw c.redirect.ensures
          (lemma.fields_kept g.W.Words.refs_at g.W.Words.with_ref_at g.met.W.Words.refs_at_same g.met.W.Words.refs_at_other c.args.moved.now c.loop-source.words _
          (drop (c.loop-source.source-index + 1) c.deref-source-items.result.now) fields.1);
      rest = rw c.redirect.ensures rest;
    }
