use Rattle.fault_lines.proofs.Common.{◌∙◌, fault_piece}
use Rattle.fault_lines.proofs.Pieces.{some_added}
use Rattle.fault_lines.proofs.json.add_some.Goals as goal

pub returns : goal.returns
returns c =
    some_added c.args.text.now.items _ _ (fault_piece c.args.first.now) _ _ c.in_ok-add_fault.ensures c.in_ok-extend_from_slice.ensures.items (c.as_slice.ensures.value ∙ c.in_ok-further.ensures)
