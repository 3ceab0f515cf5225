use Rattle.worker_run.proofs.Common.{sym, subst, refl, view, Next, Copied as IsCopied, Prepares}
use Rattle.worker_run.proofs.Finding.{comes_looking, comes_sharing}
use Rattle.worker_run.proofs.Giving.{comes_copied}
use Rattle.worker_run.proofs.working.prepare.Goals as goal

pub returns-in-Collecting-clause-comes : goal.returns-in-Collecting-clause-comes
returns-in-Collecting-clause-comes g c =
    comes_copied c.args.shop.now.program.now c.args.worker_state.now.worker (view c.args.worker_state.now.seat).part c.args.next c.in-Collecting.collecting c.copy_part.result c.requires.goes c.in-Collecting.is c.copy_part.ensures.begun (c.copy_part.ensures.copied c.args.shop.now.program.now)

pub returns-in-Collecting-clause-tasks : goal.returns-in-Collecting-clause-tasks
returns-in-Collecting-clause-tasks g c =
    subst (λ (n : Next). Prepares c.args.shop.now.program.now c.args.worker_state.now.worker n c.args.worker_state.now.hand c.args.worker_state.now.hand (IsCopied c.copy_part.result)) (sym c.in-Collecting.is)
    (refl, (c.copy_part.ensures.begun, c.copy_part.ensures.copied c.args.shop.now.program.now))

pub returns-in-Forked-clause-comes : goal.returns-in-Forked-clause-comes
returns-in-Forked-clause-comes g c =
    comes_sharing c.args.shop.now.program.now c.args.worker_state.now.worker c.in-Forked.left c.in-Forked.right (view c.args.worker_state.now.seat).part c.args.worker_state.now.hand c.share_right.new.worker_state.hand c.share_right.result c.share_right.ensures.shared

pub returns-in-Idle-clause-comes : goal.returns-in-Idle-clause-comes
returns-in-Idle-clause-comes g c =
    comes_looking c.args.shop.now.program.now c.args.worker_state.now.worker (view c.args.worker_state.now.seat).part c.args.worker_state.now.hand c.look.new.worker_state.hand c.look.result c.look.ensures.found

pub returns-in-Waits-clause-comes : goal.returns-in-Waits-clause-comes
returns-in-Waits-clause-comes g c =
    comes_looking c.args.shop.now.program.now c.args.worker_state.now.worker (view c.args.worker_state.now.seat).part c.args.worker_state.now.hand c.look-in-Waits.new.worker_state.hand c.look-in-Waits.result c.look-in-Waits.ensures.found
