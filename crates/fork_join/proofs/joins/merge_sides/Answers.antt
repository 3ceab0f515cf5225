use Rattle.fork_join.proofs.Common.{ap, ◌∙◌, rules, room_of}
use Rattle.fork_join.proofs.Room.{room_kept}
use Rattle.fork_join.proofs.joins.merge_sides.Goals as goal

pub returns : goal.returns
returns c = record {
  task = search rules;
  heap = search rules;
  room =
      ap room_of c.merge.ensures.merged
      ∙ (room_kept c.lift-2.new.parent.heap c.args.left.heap c.args.right.heap c.merge.new.self.slots c.merge.new.self.spare
      ∙ ap room_of (c.lift-2.ensures.heap ∙ c.lift.ensures.heap));
  sources = search rules;
}
