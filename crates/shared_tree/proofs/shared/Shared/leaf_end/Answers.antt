use Rattle.shared_tree.proofs.Common.{◌≡◌, ℕ, false, refl, sym, subst, ◌∙◌, Moved, Private, SharedValue, first_cause, refused, IsSharedValue, FitsCopied, end_entry, end_answer, the_view}
use Rattle.shared_tree.proofs.shared.Shared.leaf_end.Goals as goal

-- the first cause is the only one
first_is : (w z : SharedValue) (k : ℕ) (p : Private) (m : Moved) → IsSharedValue w → w ≡ z → FitsCopied z k p m → first_cause w.end w.steps w.settings k false ≡ refused z (end_entry k p m)
first_is w z k p m I e F =
    subst (λ (y : SharedValue). first_cause w.end w.steps w.settings k false ≡ refused y (end_entry k p m)) e (sym (end_answer w k p m I (subst (λ (y : SharedValue). FitsCopied y k p m) (sym e) F)))

pub enter_leaf_end-requires-clause-free : goal.enter_leaf_end-requires-clause-free
enter_leaf_end-requires-clause-free c =
    sym (first_is (the_view c.self.inside) c.args.self.now c.args.worker c.args.part.now c.args.moved c.self.invariant c.self.view_is c.requires.fits) ∙ (sym c.first_cause.ensures ∙ c.in-None.is)

pub returns-in-Some : goal.returns-in-Some
returns-in-Some c = record {
  refused = sym c.in-Some.is ∙ (c.first_cause.ensures ∙ first_is (the_view c.self.inside) c.args.self.now c.args.worker c.args.part.now c.args.moved c.self.invariant c.self.view_is c.requires.fits);
  same = refl;
  back = refl;
  moved = refl;
  part = tt;
  enters = tt;
  fits = tt;
  others = tt;
}

pub returns-in-None : goal.returns-in-None
returns-in-None c = record {
  refused = sym c.in-None.is ∙ (c.first_cause.ensures ∙ first_is (the_view c.self.inside) c.args.self.now c.args.worker c.args.part.now c.args.moved c.self.invariant c.self.view_is c.requires.fits);
  same = tt;
  back = tt;
  moved = tt;
  part = c.enter_leaf_end.ensures.part;
  enters = c.enter_leaf_end.ensures.enters;
  fits = c.enter_leaf_end.ensures.fits;
  others = c.enter_leaf_end.ensures.others;
}
