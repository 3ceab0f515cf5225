use Rattle.gc_pacer.proofs.Common.{◌≤◌, length, arith, Mark, accounts, KeepsNoted}
use Rattle.gc_pacer.proofs.Noted.{out_notes, set_notes}
use Rattle.gc_pacer.proofs.noting.note_mark.Goals as goal

pub returns-then-worker-len : goal.returns-then-worker-len
returns-then-worker-len c = set_notes c.args.paces.now c.args.worker c.at_mut.result.now c.after_mark.new.pace (KeepsNoted (accounts c.args.shared.now) (Mark c.args.task)) c.at_mut.ensures.value c.after_mark.ensures

pub returns-else-worker-len : goal.returns-else-worker-len
returns-else-worker-len c =
    let le : length c.args.paces.now ≤ c.args.worker = omega (arith, c.if-worker-len.false, c.len.ensures) in
    out_notes c.args.paces.now c.args.worker (KeepsNoted (accounts c.args.shared.now) (Mark c.args.task)) le
