use Rattle.shared_tree.proofs.Common.{◌≡◌, ◌≤◌, ◌<◌, ℕ, None, refl, sym, subst, depth_of, Private, LeavesBy, WorkerPartFits, refused, alone_entry, IsAtFork, ForksTo}
use Rattle.shared_tree.proofs.shared.Shared.ran_leaving.Goals as goal

pub next_fork-requires-clause-out : goal.next_fork-requires-clause-out
next_fork-requires-clause-out c = record {
  worker = c.args.worker;
  fits = subst (λ (r : Private). WorkerPartFits c.args.self.now c.args.worker r) (sym c.get.ensures) c.requires.fits;
  free = subst (λ (r : Private). refused c.args.self.now (alone_entry c.args.worker r) ≡ None) (sym c.get.ensures) c.requires.free;
}

pub next_fork-requires-clause-forks : goal.next_fork-requires-clause-forks
next_fork-requires-clause-forks c =
    subst (λ (r : Private). IsAtFork c.args.self.now r) (sym c.get.ensures) (subst (LeavesBy c.args.self.now c.args.part) c.in-Forks.is c.requires.leaves)

pub enter_fork-requires-clause-forks : goal.enter_fork-requires-clause-forks
enter_fork-requires-clause-forks c = subst (LeavesBy c.args.self.now c.args.part) c.in-Forks.is c.requires.leaves

pub enter_fork-requires-clause-by : goal.enter_fork-requires-clause-by
enter_fork-requires-clause-by c =
    subst (λ (r : Private). (line : ℕ) × ForksTo c.args.self.now r c.in-Ok.left c.in-Ok.right line) c.get.ensures c.in-Ok.ensures.goes

pub enter_fork-requires-clause-shallow : goal.enter_fork-requires-clause-shallow
enter_fork-requires-clause-shallow c = subst (λ (r : Private). depth_of c.args.self.now.tree r.task < 1000) c.get.ensures c.in-Ok.ensures.shallow

pub trap_fork-requires-clause-forks : goal.trap_fork-requires-clause-forks
trap_fork-requires-clause-forks c = subst (LeavesBy c.args.self.now c.args.part) c.in-Forks.is c.requires.leaves

pub trap_fork-requires-clause-by : goal.trap_fork-requires-clause-by
trap_fork-requires-clause-by c =
    subst (λ (r : Private). (left : ℕ) × (right : ℕ) × ForksTo c.args.self.now r left right c.in-Err.line) c.get.ensures c.in-Err.ensures.traps

pub trap_fork-requires-clause-deep : goal.trap_fork-requires-clause-deep
trap_fork-requires-clause-deep c = subst (λ (r : Private). 1000 ≤ depth_of c.args.self.now.tree r.task) c.get.ensures c.in-Err.ensures.deep

pub returns-in-Err : goal.returns-in-Err
returns-in-Err c = record { refused = refl; same = tt; still = tt; back = tt; answered = c.trap_fork.ensures }

pub ran_ending-requires-clause-ends : goal.ran_ending-requires-clause-ends
ran_ending-requires-clause-ends c = subst (LeavesBy c.args.self.now c.args.part) c.in-Ends.is c.requires.leaves

pub ran_done-requires-clause-at_end : goal.ran_done-requires-clause-at_end
ran_done-requires-clause-at_end c = subst (LeavesBy c.args.self.now c.args.part) c.in-Finishes.is c.requires.leaves
