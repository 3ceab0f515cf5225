use Rattle.std.proofs.Common.{◌∙◌}
use Rattle.run_answers.proofs.image.answer_drawn.Goals as goal

pub returns : goal.returns
returns c =
    let drawn = c.in_ok-text.ensures in
    (c.from_vec.result, record { picture = drawn.0; draws = drawn.1; sound = drawn.2; held = drawn.3; written = c.from_vec.ensures ∙ drawn.4 }, c.bytes_alone.ensures)
