use Rattle.fork_join_commit.proofs.Common.{refl, rest_at}
use Rattle.fork_join_commit.proofs.JoinPlaces.{same_itself}
use Rattle.fork_join_commit.proofs.join.make_places.Goals as goal

pub returns-in_err-chunks-clause-same : goal.returns-in_err-chunks-clause-same
returns-in_err-chunks-clause-same c = record {
  task_slots = refl;
  many = refl;
  others = λ u ne. refl;
  same = same_itself (rest_at c.args.task_slots.now.rests c.args.parent) (rest_at c.args.task_slots.now.rests c.args.parent) refl;
  many_sets = refl;
  same_sets = λ u. refl;
}
