use Rattle.mark_sweep_gc.proofs.Common.{◌≡◌, ◌+◌, ◌<◌, ◌≤◌, length, sym, ap, ◌∙◌, subst, arith, rules, vec_len, slice_get-get_or, Addr, MarkingValue}
use Rattle.mark_sweep_gc.proofs.Marked as marked
use Rattle.mark_sweep_gc.proofs.marking.Marking.mark_objects.Goals as goal

abbrev none : Addr
none = record { chunk = 0; offset = 0 }

pub follow-requires : goal.follow-requires
follow-requires c = record { own = (c.args.heap.now.chunks, c.requires.kept, c.requires.own) }

pub loop-count-init : goal.loop-count-init
loop-count-init c =
    let finds = c.follow.ensures.finds in
    let m : c.follow.new.self.marked ≡ c.args.self.now.marked = finds.marked in
    record {
      own = c.follow.ensures.own c.args.heap.now.chunks c.requires.kept c.requires.own;
      followed = finds.followed;
      before = marked.take_grown c.args.self.now.found c.follow.new.self.found finds.grown.0 c.args.self.now.marked finds.grown.1 c.requires.own.marked;
      count = omega arith;
      most = omega arith;
      marking = λ f s m. marked.followed f c.args.kept.now c.args.heap.now.chunks c.args.self.now c.follow.new.self s c.requires.kept c.requires.own finds m;
    }

pub loop-count-preserved : goal.loop-count-preserved
loop-count-preserved c =
    let finds = c.mark_next.ensures.finds none in
    let t : c.self.inside.marked < c.len.result = c.if-self-len.true in
    let v = c.self.view_is in
    let is_marked : c.self.inside.marked ≡ c.loop-count.self.marked = ap (λ (m : MarkingValue). m.marked) v in
    let is_found : length c.self.inside.found.items ≡ length c.loop-count.self.found = ap (λ (m : MarkingValue). length m.found) v in
    let is_len : vec_len c.self.inside.found ≡ length c.self.inside.found.items = search rules in
    let n : c.len.result ≡ vec_len c.self.inside.found = c.len.ensures in
    let less : c.loop-count.self.marked < length c.loop-count.self.found = omega arith in
    let was : c.loop-count.self.marked ≡ c.args.self.now.marked + c.loop-count.count = c.loop-count.invariant.count in
    let m : c.mark_next.new.self.marked ≡ c.loop-count.self.marked + 1 = finds.marked in
    record {
      own = record {
        room = c.mark_next.ensures.room;
        marked = marked.still_within c.loop-count.self.found c.mark_next.new.self.found finds.grown.0 c.loop-count.self.marked c.mark_next.new.self.marked finds.grown.1 less m;
        followed = subst (λ k. k ≤ length c.args.kept.now) (sym finds.followed) c.loop-count.invariant.own.followed;
      };
      followed = finds.followed ∙ c.loop-count.invariant.followed;
      before = marked.take_grown c.loop-count.self.found c.mark_next.new.self.found finds.grown.0 c.args.self.now.marked finds.grown.1 (omega arith) ∙ c.loop-count.invariant.before;
      count = omega arith;
      most = omega arith;
      marking = λ f s k. marked.marked_next f c.args.kept.now c.args.heap.now.chunks c.loop-count.self c.mark_next.new.self _ s (slice_get-get_or c.loop-count.self.found c.loop-count.self.marked none less) less c.loop-count.invariant.followed finds (c.loop-count.invariant.marking f s k);
    }

pub returns-else-self-len-clause-left : goal.returns-else-self-len-clause-left
returns-else-self-len-clause-left c = λ f s k less.
    let t : c.len.result ≤ c.self.inside.marked = c.if-self-len.false in
    let v = c.self.view_is in
    let is_marked : c.self.inside.marked ≡ c.loop-count.self.marked = ap (λ (m : MarkingValue). m.marked) v in
    let is_found : length c.self.inside.found.items ≡ length c.loop-count.self.found = ap (λ (m : MarkingValue). length m.found) v in
    let is_len : vec_len c.self.inside.found ≡ length c.self.inside.found.items = search rules in
    let n : c.len.result ≡ vec_len c.self.inside.found = c.len.ensures in
    let within : c.loop-count.self.marked ≤ length c.loop-count.self.found = c.loop-count.invariant.own.marked in
    let all : c.loop-count.self.marked ≡ length c.loop-count.self.found = omega arith in
    marked.nothing_left f c.args.kept.now c.loop-count.self (c.loop-count.invariant.marking f s k) all
    (λ a d. absurd (marked.none_left c.loop-count.self.followed c.args.kept.now c.loop-count.invariant.followed a d))
