use Rattle.copying_gc.proofs.Common.{fold, sym, ap, ◌∙◌, subst, All, IsObject, cell_of, place_in, CollectorValue, visited_reference, IsTarget}
use Rattle.copying_gc.proofs.collector.Collector.visit_refs.Goals as goal

pub visit_fields-requires-clause-place : goal.visit_fields-requires-clause-place
visit_fields-requires-clause-place c =
    ap (λ (z : CollectorValue). place_in z.heap.chunks c.args.object.chunk) c.place_of-place.ensures.same ∙ c.place_of-place.ensures.place

pub visit_fields-requires-clause-object : goal.visit_fields-requires-clause-object
visit_fields-requires-clause-object c =
    subst (λ (z : CollectorValue). IsObject (cell_of z.heap.chunks c.args.object).mark) (sym c.place_of-place.ensures.same) c.requires.object

pub visit_fields-requires-clause-targets : goal.visit_fields-requires-clause-targets
visit_fields-requires-clause-targets c =
    subst (λ (z : CollectorValue). All (IsTarget z.heap.chunks) (cell_of z.heap.chunks c.args.object).refs) (sym c.place_of-place.ensures.same) c.requires.targets

pub returns : goal.returns
returns c = c.visit_fields.ensures ∙ ap (λ (z : CollectorValue). fold visited_reference z (cell_of z.heap.chunks c.args.object).refs) c.place_of-place.ensures.same
