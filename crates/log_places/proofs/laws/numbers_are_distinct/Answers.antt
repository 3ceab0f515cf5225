use Rattle.log_places.proofs.Numbering.{numbers_are_distinct}
use Rattle.log_places.proofs.laws.numbers_are_distinct.Goals as goal

pub returns : goal.returns
returns c = numbers_are_distinct
