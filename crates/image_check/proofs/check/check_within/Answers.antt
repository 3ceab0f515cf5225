use Rattle.image_check.proofs.Rounds.{answers_by}
use Rattle.image_check.proofs.check.check_within.Goals as goal

pub returns : goal.returns
returns c =
    answers_by c.args.text.now c.args.whole.now c.new-read.result c.check_lines-fault.new.read c.len.result c.requires.whole c.new-read.ensures c.len.ensures
    c.check_lines-fault.result c.answer_to.result c.check_lines-fault.ensures.fault c.check_lines-fault.ensures.read c.answer_to.ensures
