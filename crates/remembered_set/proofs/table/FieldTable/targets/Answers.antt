use Rattle.remembered_set.proofs.Common.{◌∙◌, None, append_assoc, get_or, nat_eq, contains, drop_more, get_or_from_slice_get, RefField}
use Rattle.remembered_set.specs.Sources.{has_chunk}
use Rattle.remembered_set.proofs.SourceLemmas as lemma
use Rattle.remembered_set.proofs.table.FieldTable.targets.Goals as goal

abbrev none : RefField
none = record { object = record { chunk = 0; offset = 0 }; field = 0 }

pub loop-source-preserved : goal.loop-source-preserved
loop-source-preserved g c =
    let more = drop_more c.deref-source-items.result.now c.loop-source.source-index none c.loop-source-test.true in
    let fields = rw more at c.loop-source.invariant.fields in
    let rest = rw more at c.loop-source.invariant.rest in
    let held =
    get_or_from_slice_get (g.W.Words.refs_at c.args.words.now (get_or c.deref-source-items.result.now c.loop-source.source-index none).object)
    (get_or c.deref-source-items.result.now c.loop-source.source-index none).field c.ref_field-held.result None c.ref_field-held.ensures.value in
    let same = lemma.into_same (contains nat_eq c.number_chunks.new.numbers) (has_chunk c.args.heap.now) c.number_chunks.ensures.known c.ref_field-held.result in
    record {
      fields = fields.1;
      rest = rest ∙ rw (held, c.in_ok-push_target.ensures, same, append_assoc);
    }
