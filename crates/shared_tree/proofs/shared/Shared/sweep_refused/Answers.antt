use Rattle.shared_tree.proofs.Common.{sweep_answer, sweep_cause, marking_cause, SharedValue, refused, or_else, EntryValue, Sweep, the_view, ◌≡◌, sym, ◌∙◌, is_some, ap}
use Rattle.shared_tree.proofs.Asked.{by_first, by_next}
use Rattle.shared_tree.proofs.shared.Shared.sweep_refused.Goals as goal
use Rattle.shared_tree.proofs.shared.Shared.sweep_refused.Goals.{After-marking_cause-marking}

-- What the answer is if no cause precedes those of its kind.
module _ (c : After-marking_cause-marking) where
  abbrev w : SharedValue
  w = the_view c.self.inside

  abbrev e : EntryValue
  e = record { worker = c.args.worker; kind = Sweep c.args.t c.args.given }

  answer : refused c.args.self.now e ≡ or_else (marking_cause w c.args.t) (sweep_cause w c.args.t c.args.given)
  answer =
      ap (λ (z : SharedValue). refused z e) (sym c.self.view_is)
      ∙ sweep_answer w c.args.worker c.args.t c.args.given c.self.invariant (ap is_some (sym c.first_cause-first.ensures) ∙ (sym c.is_some.ensures ∙ c.if-is_some.false))

pub returns-then-is_some-2 : goal.returns-then-is_some-2
returns-then-is_some-2 c =
    let b = (goal.at.returns-then-is_some-2 c).After-marking_cause-marking in by_first _ (answer b) c.marking_cause-marking.result c.marking_cause-marking.ensures (sym c.is_some-2.ensures ∙ c.if-is_some-2.true)

pub returns : goal.returns
returns c =
    let b = (goal.at.returns c).After-marking_cause-marking in
    c.given_cause.ensures
    ∙ (ap (λ (z : SharedValue). sweep_cause z c.args.t c.args.given) (sym c.self.view_is) ∙ by_next (answer b) c.marking_cause-marking.result c.marking_cause-marking.ensures (sym c.is_some-2.ensures ∙ c.if-is_some-2.false))
