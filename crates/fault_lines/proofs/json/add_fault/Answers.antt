use Rattle.fault_lines.proofs.Common.{◌∙◌, ap, text_of_cause}
use Rattle.fault_lines.proofs.Pieces.{piece_added}
use Rattle.fault_lines.proofs.json.add_fault.Goals as goal

pub returns : goal.returns
returns c =
    piece_added c.args.fault.now c.args.text.now.items _ _ _ _ _ _ _ _ _ _ _
    c.in_ok-push.ensures.items c.in_ok-first_number.ensures c.in_ok-more_number.ensures c.as_slice.ensures c.in_ok-more_word.ensures
    (c.as_bytes.ensures.value ∙ c.text.ensures ∙ ap text_of_cause c.cause.ensures) c.in_ok-more_word-2.ensures
    (c.as_bytes-2.ensures.value ∙ c.in_ok-wanted.ensures) c.in_ok-more_word-3.ensures c.in_ok-add_near.ensures c.in_ok-push-2.ensures.items
