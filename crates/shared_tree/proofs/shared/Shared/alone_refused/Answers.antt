use Rattle.shared_tree.proofs.Common.{◌≡◌, alone_answer, IsShared, alone_entry, SharedValue, WorkerPartFits, refused, first_cause, or_else, Refused, Collecting, refused_if, Private, the_view, sym, subst, Option, ◌∙◌, None, is_some, ap, false}
use Rattle.shared_tree.proofs.Asked.{by_first, by_next}
use Rattle.shared_tree.proofs.shared.Shared.alone_refused.Goals as goal
use Rattle.shared_tree.proofs.shared.Shared.alone_refused.Goals.{After-first_cause-first}

-- in the order of the causes
abbrev amid : Private → Option Refused
amid p = refused_if (is_some p.begun) Collecting None

module _ (c : After-first_cause-first) where
  abbrev w : SharedValue
  w = the_view c.self.inside

  abbrev p : Private
  p = c.args.part.now

  answer : refused c.args.self.now (alone_entry c.args.worker p) ≡ or_else (first_cause w.end w.steps w.settings c.args.worker false) (amid p)
  answer =
      let F : WorkerPartFits w c.args.worker p = subst (λ (z : SharedValue). WorkerPartFits z c.args.worker p) (sym c.self.view_is) c.requires.fits in
      let shared : IsShared w p = subst (λ (z : SharedValue). IsShared z p) (sym c.self.view_is) c.requires.shared in
      ap (λ (z : SharedValue). refused z (alone_entry c.args.worker p)) (sym c.self.view_is) ∙ alone_answer w c.args.worker p c.self.invariant F shared

pub returns-then-is_some : goal.returns-then-is_some
returns-then-is_some c =
    by_first _ (answer (goal.at.returns-then-is_some c).After-first_cause-first) c.first_cause-first.result c.first_cause-first.ensures (sym c.is_some.ensures ∙ c.if-is_some.true)

pub returns-then-is_some-2 : goal.returns-then-is_some-2
returns-then-is_some-2 c =
    ap (λ x. refused_if x Collecting None) (sym c.if-is_some-2.true ∙ c.is_some-2.ensures)
    ∙ by_next (answer (goal.at.returns-then-is_some-2 c).After-first_cause-first) c.first_cause-first.result c.first_cause-first.ensures (sym c.is_some.ensures ∙ c.if-is_some.false)

pub returns-else-is_some-2 : goal.returns-else-is_some-2
returns-else-is_some-2 c =
    ap (λ x. refused_if x Collecting None) (sym c.if-is_some-2.false ∙ c.is_some-2.ensures)
    ∙ by_next (answer (goal.at.returns-else-is_some-2 c).After-first_cause-first) c.first_cause-first.result c.first_cause-first.ensures (sym c.is_some.ensures ∙ c.if-is_some.false)
