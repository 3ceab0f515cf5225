use Rattle.task_machine.proofs.Common.{sym, subst, LeafHeapValue, FitsAsWell}
use Rattle.task_machine.proofs.Entries.{since_fits}
use Rattle.task_machine.proofs.part.Private.reset_since.Goals as goal

pub returns-clause-fits : goal.returns-clause-fits
returns-clause-fits c =
    let old = c.args.self.now in
    let P : LeafHeapValue → Type 0 = λ h. FitsAsWell old (record old { heap = h }) in
    subst P (sym c.reset_since.ensures) (since_fits old 0)
