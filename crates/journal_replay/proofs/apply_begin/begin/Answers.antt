use Rattle.journal_replay.proofs.Common.{EntryValue, Begin, entry_on}
use Rattle.journal_replay.proofs.BegunPart.{begin_on}
use Rattle.journal_replay.proofs.Making.{begin_fails}
use Rattle.journal_replay.proofs.apply_begin.begin.Goals as goal

pub copy_begun-moved-requires-clause-goes : goal.copy_begun-moved-requires-clause-goes
copy_begun-moved-requires-clause-goes g c =
    begin_on (g.S.LegalCalls.value c.args.shared.now) (g.S.LegalCalls.value c.leaf_begin.new.self) c.args.worker c.args.part.task (let e : EntryValue = record { worker = c.args.worker; kind = Begin c.args.part.task } in entry_on (g.S.LegalCalls.value c.args.shared.now) e c.in-Ok.ensures.refused) c.in-Ok.ensures.enters

pub returns-in-Err : goal.returns-in-Err
returns-in-Err g c =
    begin_fails (g.S.LegalCalls.value c.args.shared.now) (g.S.LegalCalls.value c.leaf_begin.new.self) c.args.worker _ c.args.part c.leaf_begin.new.part c.in-Err.cause c.in-Err.ensures.refused c.in-Err.ensures.same c.in-Err.ensures.back c.requires.holds c.leaf_begin.ensures.fits
