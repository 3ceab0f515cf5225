use Rattle.copying_gc.proofs.Common.{◌≡◌, Some, refl, sym, ap, ◌∙◌, place_in, chunk_position, CollectorValue}
use Rattle.object_layout.proofs.ChunkLaws as laws
use Rattle.leaf_heap.proofs.HeapLemmas as heaps
use Rattle.copying_gc.proofs.collector.Collector.place_of.Goals as goal

pub unwrap-requires : goal.unwrap-requires
unwrap-requires c =
    let there = heaps.place_there c.args.self.now.heap.chunks c.args.object.chunk (laws.chunk_of_object c.args.self.now.heap.chunks c.args.object c.requires) in
    let is : c.place_of.result ≡ Some (chunk_position c.args.self.now.heap.chunks c.args.object.chunk) =
    c.place_of.ensures.place ∙ (ap (λ (z : CollectorValue). place_in z.heap.chunks c.args.object.chunk) c.self.view_is ∙ there) in
    rw is refl

pub returns-clause-place : goal.returns-clause-place
returns-clause-place c =
    sym (c.place_of.ensures.place ∙ ap (λ (z : CollectorValue). place_in z.heap.chunks c.args.object.chunk) c.self.view_is) ∙ c.unwrap.ensures

pub invariant_of-self : goal.invariant_of-self
invariant_of-self c = (c.self.invariant.0, (c.place_of.ensures.known, c.self.invariant.1.1))
