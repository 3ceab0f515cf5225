use Rattle.heap_graph.proofs.Common.{◌≡◌, ◌-◌, ◌++◌, suc, ap, sym, ◌∙◌, arith, on_ok_weaker}
use Rattle.heap_graph.proofs.Drawn.{path_alone, path_below}
use Rattle.heap_graph.proofs.draw.+add_path.Goals as goal

pub returns-in-None : goal.returns-in-None
returns-in-None n c =
    on_ok_weaker c.add_last.result
    (λ e. e ∙ ap (λ x. c.args.way.now.items ++ x) (sym (path_alone c.args.links c.args.tasks.now c.args.task c.if-links-eq0.false (sym c.parent.ensures ∙ c.in-None.is))))
    c.add_last.ensures

pub returns-in_ok-add_path-in-Some : goal.returns-in_ok-add_path-in-Some
returns-in_ok-add_path-in-Some n c =
    let ne = c.if-links-eq0.false in
    let q : suc (c.args.links - 1) ≡ c.args.links = omega (arith, ne) in
    on_ok_weaker c.add_last-in-Some.result
    (path_below (c.args.links - 1) c.args.links c.args.tasks.now c.args.task c.in-Some.parent c.args.way.now.items c.add_path.new.way.items c.add_last-in-Some.new.way.items
    q (sym c.parent.ensures ∙ c.in-Some.is) c.in_ok-add_path-in-Some.ensures)
    c.add_last-in-Some.ensures
