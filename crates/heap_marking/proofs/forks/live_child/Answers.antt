use Rattle.heap_marking.proofs.Common.{◌≡◌, ◌≤◌, ◌&&◌, ℕ, not, false, List, Option, option_map, length, inl, inr, arith, below_more, ap, sym, ◌∙◌, cases_lt, got_past, TaskNode, parent_in, option_is, is_live_child, is_state_joined}
use Rattle.heap_marking.proofs.forks.live_child.Goals as goal

unmade_child : (tree : List TaskNode) (t c : ℕ) → length tree ≤ c → is_live_child tree t c ≡ false
unmade_child tree t c le = ap (λ (o : Option TaskNode). option_is (parent_in o) t && not (is_state_joined (option_map (λ (n : TaskNode). n.state) o))) (got_past tree c le)

pub returns : goal.returns
returns c = λ k. elim (cases_lt k (length c.args.tree.now)) [
  | inl lt ↦ c.loop-child.invariant k (omega (arith, c.made-count.ensures.count))
  | inr ge ↦ unmade_child c.args.tree.now c.args.t k ge
]

pub loop-child-preserved : goal.loop-child-preserved
loop-child-preserved c = below_more _ _ c.loop-child.invariant (sym c.is_live_child.ensures ∙ c.if-is_live_child.false)
