use Rattle.log_strands.proofs.Common.{◌∙◌, ◌^◌, length, sym, arith, events_of_pieces}
use Rattle.log_strands.proofs.Bytes.{few_by_bytes, is_few, is_many}
use Rattle.log_strands.proofs.few.has_few_acts.Goals as goal

pub returns-then-has_few_bytes : goal.returns-then-has_few_bytes
returns-then-has_few_bytes c = few_by_bytes c.args.texts.now c.args.pieces.now (2 ^ 32) (sym c.has_few_bytes.ensures ∙ c.if-has_few_bytes.true)

pub returns-in-Some : goal.returns-in-Some
returns-in-Some c = is_few (length (events_of_pieces c.args.texts.now c.args.pieces.now)) (2 ^ 32) (let count = c.in-Some.ensures in omega (arith, count))

pub returns-in-None : goal.returns-in-None
returns-in-None c = is_many (length (events_of_pieces c.args.texts.now c.args.pieces.now)) (2 ^ 32) c.in-None.ensures
