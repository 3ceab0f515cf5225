use Rattle.copying_gc.proofs.Common.{ap, ◌∙◌, place_in, CollectorValue}
use Rattle.copying_gc.proofs.collector.Collector.copy_if_small.Goals as goal

pub size_in-size-requires-clause-place : goal.size_in-size-requires-clause-place
size_in-size-requires-clause-place c = ap (λ (z : CollectorValue). place_in z.heap.chunks c.args.survivor.old.chunk) c.self.view_is ∙ c.requires.place
