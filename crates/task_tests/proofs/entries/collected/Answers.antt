use Rattle.std.proofs.Common.{None, subst, sym}
use Rattle.task_machine.proofs.Entries.{begun_fits}
use Rattle.task_machine.specs.Fits.{FitsNow}
use Rattle.task_machine.specs.declared.part.Private.{Private}
use Rattle.task_tests.proofs.entries.collected.Goals as goal

pub returns-clause-fits : goal.returns-clause-fits
returns-clause-fits c =
    let p = c.args.program.now in
    let m = c.requires.fits.0 in
    let above = c.requires.fits.1 in
    let begun = c.begin_collection.ensures.fits.now p m above c.requires.fits.2 in
    let ended = subst (λ (q : Private). FitsNow p q m above) (sym c.end_collection-begun.ensures.changed) ((begun_fits c.begin_collection.new.self None).now p m above begun) in
    (m, above, c.begin_entry.ensures.fits.now p m above (c.reset_since.ensures.fits.now p m above ended))
