-- A task has one depth, and two tasks have one lowest common ancestor.
use Rattle.log_heaps.proofs.Common.{◌≡◌, inl, inr, ℕ, zero, suc, refl, sym, ap, subst, TaskTurns, IsParent, IsAncestor, IsForkJoin, IsLowestCommon, IsLine, through, child_above, up_cases, one_parent, no_root_parent, no_self, rooted_above}

module _ (tasks : TaskTurns) (fj : IsForkJoin tasks) where
  pub one_depth : (k m t : ℕ) → IsLine tasks 0 k t → IsLine tasks 0 m t → k ≡ m
  one_depth zero zero t w v = refl
  one_depth zero (suc m) t w v = no_root_parent tasks fj v.0 (subst (IsParent tasks v.0) w v.2)
  one_depth (suc k) zero t w v = no_root_parent tasks fj w.0 (subst (IsParent tasks w.0) v w.2)
  one_depth (suc k) (suc m) t w v = ap suc (one_depth k m w.0 w.1 (subst (IsLine tasks 0 m) (one_parent tasks fj v.0 w.0 t v.2 w.2) v.1))

  pub one_lowest : (q r a b : ℕ) → IsAncestor tasks 0 a → IsLowestCommon tasks q a b → IsLowestCommon tasks r a b → q ≡ r
  one_lowest q r a b root l m =
      let over : IsAncestor tasks r q = l.lowest r m.above_first m.above_second in
      elim (up_cases tasks q r (m.lowest q l.above_first l.above_second)) [
        | inl same ↦ sym same
        | inr (p, above, e) ↦ no_self tasks fj p r (rooted_above tasks fj p a root (child_above tasks p r a e m.above_first)) e (through tasks r q p over above)
      ]
