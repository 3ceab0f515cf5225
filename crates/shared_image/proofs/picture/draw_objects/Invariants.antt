use Rattle.shared_image.proofs.Common.{take, In, InUse, AreAll, AreInWords, objects_of, ObjectBefore, AreObjectsOf}
use Rattle.shared_image.proofs.picture.draw_objects.Given as goal

abbrev pub invariant-loop-chunk : goal.invariant-loop-chunk
invariant-loop-chunk l = record {
  objects : AreAll ObjectBefore (AreObjectsOf l.shared (take l.chunk-index l.in_use)) l.objects;
  words : (c : InUse) → In (take l.chunk-index l.in_use) c → AreInWords (objects_of l.shared c.number);
}
