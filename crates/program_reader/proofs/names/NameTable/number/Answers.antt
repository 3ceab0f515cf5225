use Rattle.program_reader.proofs.Common.{ap, ◌∙◌, numbered_of}
use Rattle.program_reader.proofs.Tables.{found_number}
use Rattle.program_reader.proofs.names.NameTable.number.Goals as goal

pub returns : goal.returns
returns c = c.copied.ensures ∙ c.get.ensures.value ∙ found_number c.args.name.now c.self.inside.numbers.entries ∙ ap (λ es. numbered_of es c.args.name.now) c.self.view_is
