use Rattle.heap_reading.proofs.Common.{ap, ◌∙◌, ◌++◌, ◌∷◌, [], sym, rules, to_z-of_z, FitsSigned, w64, object_at}
use Rattle.heap_reading.proofs.ObjectsRead.{all_next, take_next}
use Rattle.heap_reading.proofs.seen.ints_at.Goals as goal

pub loop-field-preserved : goal.loop-field-preserved
loop-field-preserved c =
    let ints = (object_at c.args.chunk.now.cells c.args.at).ints in
    let fits : FitsSigned w64 c.int_at.result = search rules in
    record {
      ints = c.in_ok-push.ensures.ok ∙ (ap (λ z. c.loop-field.ints ++ z ∷ []) (to_z-of_z w64 c.int_at.result fits)
          ∙ (ap (λ z. z ++ c.int_at.result ∷ []) c.loop-field.invariant.ints ∙ sym (take_next ints c.loop-field.field c.int_at.result c.int_at.ensures)));
      fit = all_next (FitsSigned w64) ints c.loop-field.field c.int_at.result c.int_at.ensures fits c.loop-field.invariant.fit;
    }
