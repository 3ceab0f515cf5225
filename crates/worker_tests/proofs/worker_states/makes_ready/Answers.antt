use Rattle.std.proofs.Common.{Option, ap, sym, subst, ◌∙◌}
use Rattle.std.specs.declared.snapshot.Snapshot.{Snapshot}
use Rattle.worker_run.specs.below.core_invariant.{SharedValue}
use Rattle.worker_run.specs.below.turn_entries.{GoesWith, Sight}
use Rattle.worker_run.specs.below.task_machine.{Private}
use Rattle.worker_tests.proofs.worker_states.makes_ready.Goals as goal

pub returns-clause-still : goal.returns-clause-still
returns-clause-still g c = λ n goes. subst (λ (kept : Option (Snapshot Private)). GoesWith c.args.shop.now.program.now c.args.other.now.worker kept n)
    (sym (ap (λ (v : Sight SharedValue). v.part) c.release_unchanged.ensures.seat.1 ∙ ap (λ (v : Sight SharedValue). v.part) c.take-run.ensures.seat)) goes
