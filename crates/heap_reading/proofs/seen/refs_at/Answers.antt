use Rattle.heap_reading.proofs.Common.{◌^◌, ◌<◌, ap, ◌∙◌, IfSome, Option, Some, None, ◌++◌, ◌∷◌, [], sym, map, take, BeginsInFirstUnit, IsRef, Addr, word_of_ref, object_at}
use Rattle.heap_reading.proofs.ObjectsRead.{all_next, map_next}
use Rattle.heap_reading.proofs.seen.refs_at.Goals as goal

near_of : (r : Option Addr) → BeginsInFirstUnit r → IfSome r (λ a. a.chunk < 2 ^ 32) → IsRef r
near_of None place short = tt
near_of (Some a) place short = (place, short)

pub loop-field-preserved : goal.loop-field-preserved
loop-field-preserved c =
    let refs = (object_at c.args.chunk.now.cells c.args.at).refs in
    record {
      refs = c.in_ok-push.ensures.ok ∙ (ap (λ z. z ++ c.reference_number.result ∷ []) c.loop-field.invariant.refs
          ∙ (ap (λ z. map word_of_ref (take c.loop-field.field refs) ++ z ∷ []) c.reference_number.ensures.number ∙ sym (map_next word_of_ref refs c.loop-field.field c.ref_at.result c.ref_at.ensures.value)));
      near = all_next IsRef refs c.loop-field.field c.ref_at.result c.ref_at.ensures.value (near_of c.ref_at.result c.ref_at.ensures.place c.reference_number.ensures.short) c.loop-field.invariant.near;
    }
