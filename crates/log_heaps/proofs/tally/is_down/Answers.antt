use Rattle.std.proofs.Common.{◌∙◌, Some, None, false, refl, sym}
use Rattle.log_heaps.proofs.Naming.{down_told}
use Rattle.log_heaps.proofs.tally.is_down.Goals as goal

pub returns-in-Some-Some : goal.returns-in-Some-Some
returns-in-Some-Some c =
    down_told c.args.walk.now c.args.births.now c.args.place c.args.act (Some c.in-Some-Some.block) (Some c.in-Some-Some.target) (sym c.in-Some-Some.is-0 ∙ c.stored_into.ensures) (sym c.in-Some-Some.is-1 ∙ c.stored.ensures)
    c.leads_down.result c.leads_down.ensures

pub returns-in_default : goal.returns-in_default
returns-in_default c =
    down_told c.args.walk.now c.args.births.now c.args.place c.args.act (Some c.in_default.field-0-0) None (sym c.in_default.is-0 ∙ c.stored_into.ensures) (sym c.in_default.is-1 ∙ c.stored.ensures) false refl
