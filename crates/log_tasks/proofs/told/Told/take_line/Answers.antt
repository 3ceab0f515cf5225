use Rattle.std.proofs.Common.{◌≡◌, true, false, refl, sym, ◌∙◌}
use Rattle.log_tasks.proofs.Lines.{none_ends, none_tasks, other_ends, other_tasks}
use Rattle.log_tasks.proofs.told.Told.take_line.Goals as goal

pub returns-in-None : goal.returns-in-None
returns-in-None c = record { ends = none_ends c.args.self.now c.args.strand _ c.in-None.ensures; tasks = none_tasks c.args.self.now _ c.in-None.ensures; tops = refl; told = λ e. absurd (let z : false ≡ true = e in cc) }

pub returns-then-not-begins_with : goal.returns-then-not-begins_with
returns-then-not-begins_with c = record { ends = other_ends c.args.self.now c.args.strand c.args.line.now (sym c.begins_with.ensures ∙ c.if-not-begins_with.true); tasks = other_tasks c.args.self.now c.args.line.now (sym c.begins_with.ensures ∙ c.if-not-begins_with.true); tops = refl; told = λ e. absurd (let z : false ≡ true = e in cc) }
