use Rattle.shared_tree.proofs.Common.{◌≡◌, ◌<◌, ℕ, false, refl, sym, subst, ◌∙◌, Ran, Private, SharedValue, first_cause, refused, WorkerPartFits, IsSharedValue, ran_answer, the_view}
use Rattle.shared_tree.proofs.shared.Shared.ran_private.Goals as goal

-- the first cause is the only one
first_is : (w z : SharedValue) (k : ℕ) (p : Private) → IsSharedValue w → w ≡ z → WorkerPartFits z k p → 0 < p.fresh → first_cause w.end w.steps w.settings k false ≡ refused z (record { worker = k; kind = Ran p.task p.fresh })
first_is w z k p I e F fresh =
    subst (λ (y : SharedValue). first_cause w.end w.steps w.settings k false ≡ refused y (record { worker = k; kind = Ran p.task p.fresh })) e (sym (ran_answer w k p I (subst (λ (y : SharedValue). WorkerPartFits y k p) (sym e) F) fresh))

pub enter_steps-requires-clause-free : goal.enter_steps-requires-clause-free
enter_steps-requires-clause-free c =
    sym (first_is (the_view c.self.inside) c.args.self.now c.args.worker c.args.part.now c.self.invariant c.self.view_is c.requires.fits c.requires.fresh) ∙ (sym c.first_cause.ensures ∙ c.in_default.is)

pub returns-in-Some : goal.returns-in-Some
returns-in-Some c = record {
  refused = sym c.in-Some.is ∙ (c.first_cause.ensures ∙ first_is (the_view c.self.inside) c.args.self.now c.args.worker c.args.part.now c.self.invariant c.self.view_is c.requires.fits c.requires.fresh);
  same = refl;
  back = refl;
  enters = tt;
  end = tt;
  goes = tt;
  fits = c.requires.fits;
  others = tt;
}

pub returns : goal.returns
returns c = record {
  refused = sym c.in_default.is ∙ (c.first_cause.ensures ∙ first_is (the_view c.self.inside) c.args.self.now c.args.worker c.args.part.now c.self.invariant c.self.view_is c.requires.fits c.requires.fresh);
  same = tt;
  back = tt;
  enters = c.enter_steps.ensures.enters;
  end = c.enter_steps.ensures.end;
  goes = c.begin_entry.ensures.changed;
  fits = subst (λ (q : Private). WorkerPartFits c.enter_steps.new.self c.args.worker q) (sym c.begin_entry.ensures.changed) c.enter_steps.ensures.fits;
  others = c.enter_steps.ensures.others;
}
