use Rattle.std.proofs.Common.{sym, ◌∙◌, arith, ◌≤◌}
use Rattle.heap_graph.proofs.Loops.{nothing_behind, behind_more}
use Rattle.heap_graph.proofs.words.words_behind.Goals as goal

pub returns-in-None : goal.returns-in-None
returns-in-None c =
    let le : c.loop.counter ≤ c.args.count = omega arith in
    c.in-None.ensures.words ∙ sym (nothing_behind _ c.loop.counter c.args.count le (sym c.loop.invariant ∙ c.in-None.ensures.words))

pub loop-preserved : goal.loop-preserved
loop-preserved c = behind_more _ c.loop.counter _ _ (sym c.loop.invariant ∙ c.in-Some.ensures.words)
