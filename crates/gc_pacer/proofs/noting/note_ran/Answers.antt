use Rattle.gc_pacer.proofs.Common.{◌≤◌, length, arith, Ran, accounts, KeepsNoted}
use Rattle.gc_pacer.proofs.Noted.{out_notes, set_notes}
use Rattle.gc_pacer.proofs.noting.note_ran.Goals as goal

pub returns-then-worker-len-clause-noted : goal.returns-then-worker-len-clause-noted
returns-then-worker-len-clause-noted c = λ on k.
    set_notes c.args.paces.now c.args.worker c.at_mut.result.now c.after_ran.new.pace (KeepsNoted (accounts c.args.shared.now) (Ran c.args.task k)) c.at_mut.ensures.value (c.after_ran.ensures k)

pub returns-else-worker-len-clause-noted : goal.returns-else-worker-len-clause-noted
returns-else-worker-len-clause-noted c = λ on k.
    let le : length c.args.paces.now ≤ c.args.worker = omega (arith, c.if-worker-len.false, c.len.ensures) in
    out_notes c.args.paces.now c.args.worker (KeepsNoted (accounts c.args.shared.now) (Ran c.args.task k)) le
