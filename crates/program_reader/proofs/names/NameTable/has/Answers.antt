use Rattle.program_reader.proofs.Common.{ap, ◌∙◌, is_noted}
use Rattle.program_reader.proofs.Tables.{found_any}
use Rattle.program_reader.proofs.names.NameTable.has.Goals as goal

pub returns : goal.returns
returns c = c.contains_key.ensures ∙ found_any c.args.name.now c.self.inside.numbers.entries ∙ ap (λ es. is_noted es c.args.name.now) c.self.view_is
