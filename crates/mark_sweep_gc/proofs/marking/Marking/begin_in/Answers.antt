use Rattle.mark_sweep_gc.proofs.Common.{◌≡◌, ◌∙◌, ◌<◌, ◌≤◌, [], List, ap, arith, rules, sym, Addr, has_address}
use Rattle.mark_sweep_gc.proofs.Finding as finding
use Rattle.mark_sweep_gc.proofs.Marked as marked
use Rattle.mark_sweep_gc.proofs.marking.Marking.begin_in.Goals as goal

pub invariant_of-marking : goal.invariant_of-marking
invariant_of-marking c = λ a. c.reserve-2.ensures.keys.2 a ∙ (c.room.invariant.1 a ∙ ap (λ (xs : List Addr). has_address xs a) (sym (c.reserve.ensures.items ∙ c.room.invariant.0)))

pub visit_all-requires : goal.visit_all-requires
visit_all-requires c = record {
  room = (
    c.args.heap.now.chunks,
    c.requires,
    finding.room_at_first c.args.heap.now.chunks _ (c.reserve.ensures.items ∙ c.room.invariant.0) (search rules) (search rules) (search rules),
  );
}

pub returns-clause-own : goal.returns-clause-own
returns-clause-own c = λ kept.
    let finds = c.visit_all.ensures.finds in
    let marked_none = finds.marked in
    let followed_none = finds.followed in
    record {
      room =
          c.visit_all.ensures.room c.args.heap.now.chunks c.requires
          (finding.room_at_first c.args.heap.now.chunks _ (c.reserve.ensures.items ∙ c.room.invariant.0) (search rules) (search rules) (search rules));
      marked = omega arith;
      followed = omega arith;
    }

pub returns-clause-marking : goal.returns-clause-marking
returns-clause-marking c =
    λ f kept same objects. marked.begun f kept c.args.heap.now.chunks c.args.roots.now _ c.visit_all.new.self same objects c.requires
    (c.reserve.ensures.items ∙ c.room.invariant.0) c.visit_all.ensures.finds c.visit_all.ensures.finds.marked c.visit_all.ensures.finds.followed
