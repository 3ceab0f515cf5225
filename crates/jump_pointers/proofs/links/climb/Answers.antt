use Rattle.std.proofs.Common.{◌≡◌, ◌+◌, ◌-◌, ◌*◌, ◌<◌, ◌≤◌, ℕ, suc, refl, arith, ◌∙◌}
use Rattle.jump_pointers.proofs.Walks.{ancestor_add}
use Rattle.jump_pointers.proofs.Costs.{within_next, few_links}
use Rattle.jump_pointers.proofs.links.climb.Goals as goal

pub loop-count-init : goal.loop-count-init
loop-count-init g c =
    let d : ℕ = g.T.FarLinks.depth_at c.args.links.now c.args.t in
    let none : d - d ≡ 0 = omega arith in
    record {
      there = c.requires.there;
      not_past = c.requires.within;
      not_below = omega arith;
      up = rw none refl;
      counted = omega arith;
      cost = λ most w. (most, w, refl);
    }

pub loop-count-preserved : goal.loop-count-preserved
loop-count-preserved g c =
    let par = g.T.FarLinks.parent_at c.args.links.now in
    let dep = g.T.FarLinks.depth_at c.args.links.now in
    let far = g.T.FarLinks.far_at c.args.links.now in
    let a = dep c.args.t in
    let b = dep c.loop-count.at in
    let d = dep c.step_up-at.result in
    let ba : b ≤ a = c.loop-count.invariant.not_below in
    let db : d < b = c.step_up-at.ensures.higher in
    let whole : a - d ≡ (a - b) + (b - d) = omega arith in
    let one : c.step_up-at.new.count ≡ c.loop-count.count + 1 = c.step_up-at.ensures.counted in
    let counted : c.args.count.now ≤ c.loop-count.count = c.loop-count.invariant.counted in
    record {
      there = c.step_up-at.ensures.there;
      not_past = c.step_up-at.ensures.not_past;
      not_below = omega arith;
      up = rw whole (ancestor_add par (a - b) (b - d) c.args.t c.loop-count.at c.loop-count.invariant.up ∙ c.step_up-at.ensures.up);
      counted = omega arith;
      cost = λ most w.
          let before = c.loop-count.invariant.cost most w in
          let sum : c.loop-count.count + before.0 ≡ c.args.count.now + most = before.2 in
          let past : c.args.depth ≤ d = c.step_up-at.ensures.not_past in
          let least : c.args.depth < b = omega arith in
          let next = within_next par dep far c.args.depth before.0 c.loop-count.at c.step_up-at.result least c.step_up-at.ensures.next before.1 in
          let fewer : suc next.0 ≡ before.0 = next.1 in
          (next.0, next.2, omega arith);
    }

pub returns-clause-cost : goal.returns-clause-cost
returns-clause-cost g c = λ log deep.
    let par = g.T.FarLinks.parent_at c.args.links.now in
    let dep = g.T.FarLinks.depth_at c.args.links.now in
    let far = g.T.FarLinks.far_at c.args.links.now in
    let w = few_links (g.T.FarLinks.places c.args.links.now) par dep far c.requires.linked c.args.depth log c.args.t c.requires.there deep in
    let last = c.loop-count.invariant.cost (3 * log) w in
    let sum : c.loop-count.count + last.0 ≡ c.args.count.now + 3 * log = last.2 in
    omega arith
