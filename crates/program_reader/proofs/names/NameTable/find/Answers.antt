use Rattle.program_reader.proofs.Common.{ap, ◌∙◌, name_index}
use Rattle.program_reader.proofs.Tables.{found_place}
use Rattle.program_reader.proofs.names.NameTable.find.Goals as goal

pub returns : goal.returns
returns c = c.get_index_of.ensures.index ∙ found_place c.args.name.now c.self.inside.numbers.entries ∙ ap (λ es. name_index es c.args.name.now) c.self.view_is
