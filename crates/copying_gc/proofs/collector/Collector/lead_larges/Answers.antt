use Rattle.copying_gc.proofs.Common.{List, arith, ◌∙◌, ChunkValue, Survivor}
use Rattle.copying_gc.proofs.Places as places
use Rattle.copying_gc.proofs.collector.Collector.lead_larges.Goals as goal

pub invariant_of-self : goal.invariant_of-self
invariant_of-self c =
    let h : List ChunkValue = c.self.inside.heap.chunks in
    let ss : List Survivor = c.deref.result.now in
    let objects = places.fewer_led h ss in
    let chunks = places.length_led h ss in
    let places_are = c.self.invariant.0 in
    rw c.follow_larges.ensures (
      record { found = omega arith; moved = omega arith; laid = omega arith },
      (places.place_led h ss c.self.inside.object.number ∙ c.self.invariant.1.0, places.place_led h ss c.self.inside.target.number ∙ c.self.invariant.1.1),
    )
