use Rattle.copying_gc.proofs.Common.{◌≡◌, List, Some, Option, slice_get, sym, ap, ◌∙◌, subst, all_at, Addr, IsObject, cell_of, place_in, ChunkValue, CollectorValue, visited_reference, IsTarget}
use Rattle.copying_gc.proofs.FoundLemmas as founds
use Rattle.copying_gc.proofs.ListLemmas as lists
use Rattle.copying_gc.proofs.collector.Collector.visit_fields.Goals as goal

pub loop-field-preserved : goal.loop-field-preserved
loop-field-preserved c =
    let s : CollectorValue = c.loop-field.self in
    let r : Option Addr = c.ref_in-reference.result in
    let h : List ChunkValue = c.args.self.now.heap.chunks in
    let heap : c.visit.new.self.heap.chunks ≡ (visited_reference s r).heap.chunks = ap (λ (t : CollectorValue). t.heap.chunks) c.visit.ensures in
    let now : slice_get (cell_of s.heap.chunks c.args.object).refs c.loop-field.field ≡ Some r =
    subst (λ (z : CollectorValue). slice_get (cell_of z.heap.chunks c.args.object).refs c.loop-field.field ≡ Some r) c.self-in-loop-field.view_is c.ref_in-reference.ensures.value in
    let got : slice_get (cell_of h c.args.object).refs c.loop-field.field ≡ Some r = subst (λ (rs : List (Option Addr)). slice_get rs c.loop-field.field ≡ Some r) c.loop-field.invariant.refs now in
    record {
      visited = c.visit.ensures ∙ (ap (λ (t : CollectorValue). visited_reference t r) c.loop-field.invariant.visited ∙ sym (lists.fold_got visited_reference c.args.self.now (cell_of h c.args.object).refs c.loop-field.field r got));
      place = ap (λ (k : List ChunkValue). place_in k c.args.object.chunk) heap ∙ (founds.visited_place s r c.args.object.chunk ∙ c.loop-field.invariant.place);
      object = subst (λ (k : List ChunkValue). IsObject (cell_of k c.args.object).mark) (sym heap) (founds.visited_object s r c.args.object c.loop-field.invariant.object);
      refs = ap (λ (k : List ChunkValue). (cell_of k c.args.object).refs) heap ∙ (founds.visited_refs s r c.args.object ∙ c.loop-field.invariant.refs);
      targets = founds.visited_all_targets s r c.visit.new.self.heap.chunks heap (cell_of h c.args.object).refs c.loop-field.invariant.targets;
    }

pub refs_in-field-end-requires-clause-place : goal.refs_in-field-end-requires-clause-place
refs_in-field-end-requires-clause-place c = ap (λ (z : CollectorValue). place_in z.heap.chunks c.args.object.chunk) c.self.view_is ∙ c.requires.place

pub ref_in-reference-requires-clause-place : goal.ref_in-reference-requires-clause-place
ref_in-reference-requires-clause-place c =
    ap (λ (z : CollectorValue). place_in z.heap.chunks c.args.object.chunk) c.self-in-loop-field.view_is ∙ (c.loop-field.invariant.place ∙ c.requires.place)

pub visit-requires : goal.visit-requires
visit-requires c =
    let r : Option Addr = c.ref_in-reference.result in
    let rs : List (Option Addr) = (cell_of c.args.self.now.heap.chunks c.args.object).refs in
    let now : slice_get (cell_of c.loop-field.self.heap.chunks c.args.object).refs c.loop-field.field ≡ Some r =
    subst (λ (z : CollectorValue). slice_get (cell_of z.heap.chunks c.args.object).refs c.loop-field.field ≡ Some r) c.self-in-loop-field.view_is c.ref_in-reference.ensures.value in
    let got : slice_get rs c.loop-field.field ≡ Some r = subst (λ (xs : List (Option Addr)). slice_get xs c.loop-field.field ≡ Some r) c.loop-field.invariant.refs now in
    all_at (IsTarget c.loop-field.self.heap.chunks) rs c.loop-field.field r c.loop-field.invariant.targets got
