use Rattle.heap_graph.proofs.Common.{◌++◌, ◌∙◌, ap, sym, take, ℕ, List, append_assoc, flat_map, braces_end}
use Rattle.heap_graph.proofs.Loops.{same_more}
use Rattle.heap_graph.proofs.draw.end_boxes.Goals as goal

pub loop-preserved : goal.loop-preserved
loop-preserved c =
    c.in_ok-end_braces.ensures ∙ (ap (λ (t : List ℕ). t ++ braces_end) c.loop.invariant ∙ (append_assoc c.args.text.now.items (flat_map (λ (x : ℕ). braces_end) (take c.loop.index c.args.way.now)) braces_end
    ∙ ap (λ (t : List ℕ). c.args.text.now.items ++ t) (sym (same_more braces_end c.args.way.now c.loop.index c.loop-test.true))))
