use Rattle.jump_pointers.proofs.Common.{◌≡◌, ◌+◌, ◌-◌, ◌<◌, ◌≤◌, ℕ, Some, ancestor, Within}
use Rattle.jump_pointers.proofs.links.climb.Given as goal

abbrev pub invariant-loop-count : goal.invariant-loop-count
invariant-loop-count g l = record {
  there : l.at < g.T.FarLinks.places l.links;
  not_past : l.depth ≤ g.T.FarLinks.depth_at l.links l.at;
  not_below : g.T.FarLinks.depth_at l.links l.at ≤ g.T.FarLinks.depth_at l.links l.t;
  up : ancestor (g.T.FarLinks.parent_at l.links) (g.T.FarLinks.depth_at l.links l.t - g.T.FarLinks.depth_at l.links l.at) l.t ≡ Some l.at;
  counted : l.fn.count ≤ l.count;
  cost : (most : ℕ) → Within (g.T.FarLinks.parent_at l.links) (g.T.FarLinks.depth_at l.links) (g.T.FarLinks.far_at l.links) l.depth most l.t
      → (rest : ℕ) × (Within (g.T.FarLinks.parent_at l.links) (g.T.FarLinks.depth_at l.links) (g.T.FarLinks.far_at l.links) l.depth rest l.at) × (l.count + rest ≡ l.fn.count + most);
}

abbrev pub decreases-loop-count : goal.decreases-loop-count
decreases-loop-count g l = g.T.FarLinks.depth_at l.links l.at
