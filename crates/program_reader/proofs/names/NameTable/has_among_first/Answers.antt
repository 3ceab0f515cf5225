use Rattle.std.proofs.Common.{ap, ◌∙◌, sym}
use Rattle.program_reader.proofs.Tables.{noted_before, comes_before}
use Rattle.program_reader.proofs.names.NameTable.has_among_first.Goals as goal

pub returns-in-None : goal.returns-in-None
returns-in-None c = ap (λ o. comes_before o c.args.count) (sym c.in-None.is ∙ c.find.ensures) ∙ noted_before c.args.self.now c.args.name.now c.args.count

pub returns-in-Some : goal.returns-in-Some
returns-in-Some c = ap (λ o. comes_before o c.args.count) (sym c.in-Some.is ∙ c.find.ensures) ∙ noted_before c.args.self.now c.args.name.now c.args.count
