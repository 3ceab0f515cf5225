use Rattle.run_deltas.proofs.Common.{sym, ap, ◌∙◌, on_ok_weaker, names_of_references, registers, with_roots}
use Rattle.run_deltas.proofs.Held.{roots_append}
use Rattle.run_deltas.proofs.roots.add_registers.Goals as goal

pub returns : goal.returns
returns c =
    on_ok_weaker c.add_frames.result
    (λ e. e ∙ (ap (λ fs. with_roots c.add_references.new.found (registers fs)) c.as_slice.ensures
    ∙ (ap (λ ns. with_roots ns (registers c.args.task.now.below)) c.in_ok-add_references.ensures ∙ sym (roots_append c.args.found.now (names_of_references c.args.task.now.top.refs) (registers c.args.task.now.below)))))
    c.add_frames.ensures
