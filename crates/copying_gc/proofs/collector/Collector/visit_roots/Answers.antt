use Rattle.copying_gc.proofs.Common.{Some, Option, get_or, map, sym, ap, ◌∙◌, in_map, in_read, read_in, Addr, as_reference, CollectorValue, visited_reference, IsTarget}
use Rattle.copying_gc.proofs.FoundLemmas as founds
use Rattle.copying_gc.proofs.ListLemmas as lists
use Rattle.copying_gc.proofs.collector.Collector.visit_roots.Goals as goal

nowhere : Addr
nowhere = record { chunk = 0; offset = 0 }

pub visit-requires : goal.visit-requires
unfolding nowhere
visit-requires c =
    read_in (IsTarget c.loop-root.self.heap.chunks) (map as_reference c.args.roots.now) (Some (get_or c.args.roots.now c.loop-root.root-index nowhere))
    (in_map as_reference c.args.roots.now _ (in_read c.args.roots.now c.loop-root.root-index nowhere c.loop-root-test.true)) c.loop-root.invariant.targets

pub loop-root-preserved : goal.loop-root-preserved
unfolding nowhere
loop-root-preserved c =
    let s : CollectorValue = c.loop-root.self in
    let r : Option Addr = Some (get_or c.args.roots.now c.loop-root.root-index nowhere) in
    record {
      visited = c.visit.ensures ∙ (ap (λ (t : CollectorValue). visited_reference t r) c.loop-root.invariant.visited ∙ sym (lists.fold_map_read visited_reference as_reference c.args.self.now c.args.roots.now c.loop-root.root-index nowhere c.loop-root-test.true));
      targets = founds.visited_all_targets s r c.visit.new.self.heap.chunks (ap (λ (t : CollectorValue). t.heap.chunks) c.visit.ensures) (map as_reference c.args.roots.now) c.loop-root.invariant.targets;
    }
