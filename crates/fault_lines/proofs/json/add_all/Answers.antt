use Rattle.fault_lines.proofs.Common.{◌∙◌, ◌++◌, ap, arith, drop, take_all, length-drop, on_ok_weaker}
use Rattle.fault_lines.proofs.Pieces.{pieces_are}
use Rattle.fault_lines.proofs.json.add_all.Goals as goal

pub returns-in-len1-up : goal.returns-in-len1-up
returns-in-len1-up c =
    on_ok_weaker c.add_some.result
    (λ e. e ∙ ap (λ x. c.args.text.now.items ++ x) (pieces_are c.args.faults.now _ c.first-item.result c.in-len1-up.len_at_least c.first-item.is
    (take_all _ (drop 1 c.args.faults.now) (omega (arith, length-drop 1 c.args.faults.now)))))
    c.add_some.ensures
