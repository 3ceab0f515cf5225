use Rattle.shared_tree.proofs.Common.{some_answer, marking_cause, SharedValue, accounts, refused, or_else, Marked, refused_if, heap_of, left_in, More, the_view, ◌≡◌, sym, ℕ, ◌∙◌, None, is_some, ap, ◌==◌, Bool}
use Rattle.shared_tree.proofs.Asked.{by_first, by_first_cause, by_next}
use Rattle.shared_tree.proofs.shared.Shared.marking_refused.Goals as goal
use Rattle.shared_tree.proofs.shared.Shared.marking_refused.Goals.{After-marking_cause-marking}

pub returns-then-is_some : goal.returns-then-is_some
returns-then-is_some c n =
    by_first_cause c.self.view_is c.self.invariant (record { worker = c.args.worker; kind = More c.args.t n }) c.first_cause-first.result c.first_cause-first.ensures (sym c.is_some.ensures ∙ c.if-is_some.true)

-- What the answer is if no cause precedes those of its kind.
module _ (c : After-marking_cause-marking) where
  abbrev w : SharedValue
  w = the_view c.self.inside

  abbrev t : ℕ
  t = c.args.t

  answer : (n : ℕ) → refused c.args.self.now (record { worker = c.args.worker; kind = More t n }) ≡ or_else (marking_cause w t) (refused_if (left_in (heap_of (accounts w) t) == 0) Marked None)
  answer n =
      ap (λ (z : SharedValue). refused z (record { worker = c.args.worker; kind = More t n })) (sym c.self.view_is)
      ∙ some_answer w c.self.invariant c.args.worker t n (ap is_some (sym c.first_cause-first.ensures) ∙ (sym c.is_some.ensures ∙ c.if-is_some.false))

  left : {b : Bool} → b ≡ (left_in (heap_of (accounts c.args.self.now) t) == 0) → refused_if b Marked None ≡ refused_if (left_in (heap_of (accounts w) t) == 0) Marked None
  left is = ap (λ x. refused_if x Marked None) (is ∙ ap (λ (z : SharedValue). left_in (heap_of (accounts z) t) == 0) (sym c.self.view_is))

pub returns-then-is_some-2 : goal.returns-then-is_some-2
returns-then-is_some-2 c n =
    let b = (goal.at.returns-then-is_some-2 c).After-marking_cause-marking in by_first _ (answer b n) c.marking_cause-marking.result c.marking_cause-marking.ensures (sym c.is_some-2.ensures ∙ c.if-is_some-2.true)

pub returns-then-is_marked : goal.returns-then-is_marked
returns-then-is_marked c n =
    let b = (goal.at.returns-then-is_marked c).After-marking_cause-marking in
    left b (sym c.if-is_marked.true ∙ c.is_marked.ensures) ∙ by_next (answer b n) c.marking_cause-marking.result c.marking_cause-marking.ensures (sym c.is_some-2.ensures ∙ c.if-is_some-2.false)

pub returns-else-is_marked : goal.returns-else-is_marked
returns-else-is_marked c n =
    let b = (goal.at.returns-else-is_marked c).After-marking_cause-marking in
    left b (sym c.if-is_marked.false ∙ c.is_marked.ensures) ∙ by_next (answer b n) c.marking_cause-marking.result c.marking_cause-marking.ensures (sym c.is_some-2.ensures ∙ c.if-is_some-2.false)
