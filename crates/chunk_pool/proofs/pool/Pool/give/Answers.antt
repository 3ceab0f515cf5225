use Rattle.chunk_pool.proofs.UnitLemmas.{given_fits, gives, gives_within}
use Rattle.chunk_pool.proofs.pool.Pool.give.Goals as goal

pub overflow_sub-self : goal.overflow_sub-self
overflow_sub-self c =
    let p = c.self.inside in
    let u = c.remove-held.ensures.updates in
    given_fits p.limit p.used p.slots.slots c.remove-held.new.self.slots c.self.invariant.0 c.number-number.result u.others c.remove-held.result c.remove-held.ensures.value u.changed

pub invariant_of-self : goal.invariant_of-self
invariant_of-self c =
    let p = c.self.inside in
    let u = c.remove-held.ensures.updates in
    (gives_within p.limit p.used p.slots.slots c.remove-held.new.self.slots c.self.invariant.0 c.number-number.result u.others c.remove-held.result c.remove-held.ensures.value u.changed, c.keep.ensures)

pub returns : goal.returns
returns c =
    let p = c.self.inside in
    let u = c.remove-held.ensures.updates in
    let all = gives p.limit p.used p.slots.slots c.remove-held.new.self.slots c.self.invariant.0 c.number-number.result u.others c.remove-held.result c.remove-held.ensures.value u.changed in
    rw (← c.self.view_is, ← c.number-number.ensures) all
