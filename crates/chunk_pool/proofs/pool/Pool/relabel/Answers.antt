use Rattle.chunk_pool.proofs.Common.{◌≡◌, Some, None, get_or, refl, sym, Slot}
use Rattle.chunk_pool.proofs.UnitLemmas.{relabels, relabels_within, set_there, set_elsewhere}
use Rattle.chunk_pool.proofs.pool.Pool.relabel.Goals as goal

pub invariant_of-self : goal.invariant_of-self
invariant_of-self c =
    let p = c.self.inside in
    let xs = p.slots.slots in
    let n = c.args.number in
    let h = c.in-Some.held.now in
    let g : Slot = record h { owner = c.args.owner } in
    let was : get_or xs n None ≡ Some h = sym c.in-Some.ensures.value in
    (relabels_within p.limit p.used xs _ c.self.invariant.0 n (set_elsewhere xs n (Some g)) h g was (set_there xs n h (Some g) was) refl, c.self.invariant.1)

pub returns : goal.returns
returns c =
    let p = c.self.inside in
    let xs = p.slots.slots in
    let n = c.args.number in
    let h = c.in-Some.held.now in
    let g : Slot = record h { owner = c.args.owner } in
    let was : get_or xs n None ≡ Some h = sym c.in-Some.ensures.value in
    rw (← c.self.view_is) (relabels p.limit p.used xs _ c.self.invariant.0 n (set_elsewhere xs n (Some g)) h c.args.owner was (set_there xs n h (Some g) was))
