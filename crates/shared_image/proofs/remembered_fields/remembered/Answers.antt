use Rattle.shared_image.proofs.Common.{◌≡◌, ◌<◌, arith, ap, sym, ◌∙◌, subst, Some, List, slice_get, length, map, got_some, TaskNode, StandOnce, SetOf, sources_of, SharedValue, AreAll, FieldBefore, IsNoted, field_of, noted_in_order}
use Rattle.shared_image.proofs.remembered_fields.remembered.Goals as goal

pub returns : goal.returns
returns c =
    let w : SharedValue = c.args.shared.now in
    let t = c.args.task in
    let few : t < length w.sets = subst (λ n. t < n) (sym c.stands.ensures.noted) (let p = c.made.ensures.count in let q = ap (λ (ns : List TaskNode). length ns) c.tree.ensures in let m : t < length w.tree = omega (arith, p, q, c.if-task-made.false) in m) in
    let found : (s : SetOf) × (slice_get w.sets t ≡ Some s) = got_some w.sets t few in
    let set : SetOf = found.0 in
    let is : sources_of (slice_get c.heaps.result.now.task_slots.sets t) ≡ set.remembered.sources = ap (λ (xs : List SetOf). sources_of (slice_get xs t)) c.heaps.ensures.sets ∙ ap sources_of found.1 in
    let fs = c.in_ok-fields.fields.items in
    let gs = c.sort_unstable.new.self.items in
    let all = c.in_ok-fields.ensures ∙ ap (map field_of) (c.sources.ensures.sources ∙ is) in
    subst (AreAll FieldBefore (IsNoted w t)) (sym c.from_vec.ensures)
    (noted_in_order w c.stands.ensures t set found.1 fs gs (subst StandOnce is c.sources.ensures.once) all c.sort_unstable.ensures.permutation c.sort_unstable.ensures.sorted)
