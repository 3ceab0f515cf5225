use Rattle.copying_gc.proofs.Common.{None, Option, get_or, sym, ap, ◌∙◌, fold_more, Addr, CollectorValue, visited_reference}
use Rattle.copying_gc.proofs.FoundLemmas as founds
use Rattle.copying_gc.proofs.collector.Collector.visit_all.Goals as goal

pub loop-reference-preserved : goal.loop-reference-preserved
loop-reference-preserved c =
    let s : CollectorValue = c.loop-reference.self in
    let r : Option Addr = get_or c.args.references.now c.loop-reference.reference-index None in
    record {
      visited = c.visit.ensures ∙ (ap (λ (t : CollectorValue). visited_reference t r) c.loop-reference.invariant.visited ∙ sym (fold_more visited_reference c.args.self.now c.args.references.now c.loop-reference.reference-index None c.loop-reference-test.true));
      targets = founds.visited_all_targets s r c.visit.new.self.heap.chunks (ap (λ (t : CollectorValue). t.heap.chunks) c.visit.ensures) c.args.references.now c.loop-reference.invariant.targets;
    }
