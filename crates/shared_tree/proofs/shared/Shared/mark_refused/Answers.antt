use Rattle.shared_tree.proofs.Common.{mark_answer, waiting_cause, words_cause, SharedValue, accounts, refused, or_else, marks_at, saturating_words, Marking, refused_if, heap_of, words_in, EntryValue, Mark, the_view, ◌≡◌, sym, ℕ, Option, ◌∙◌, Some, is_some, refl, ap, option_copied, Bor, true, None, false}
use Rattle.shared_tree.proofs.Asked.{by_first, by_first_cause, by_next}
use Rattle.shared_tree.proofs.shared.Shared.mark_refused.Goals as goal
use Rattle.shared_tree.proofs.shared.Shared.mark_refused.Goals.{After-waiting_cause-waiting}

-- a reference exists if what it leads to does
some_copied : {A : Type 0} (o : Option (Bor A)) → is_some (option_copied o) ≡ is_some o
some_copied None = refl
some_copied (Some r) = refl

pub returns-then-is_some : goal.returns-then-is_some
returns-then-is_some c =
    by_first_cause c.self.view_is c.self.invariant (record { worker = c.args.worker; kind = Mark c.args.t }) c.first_cause-first.result c.first_cause-first.ensures (sym c.is_some.ensures ∙ c.if-is_some.true)

-- What the answer is if no cause precedes those of its kind.
module _ (c : After-waiting_cause-waiting) where
  abbrev w : SharedValue
  w = the_view c.self.inside

  abbrev t : ℕ
  t = c.args.t

  abbrev e : EntryValue
  e = record { worker = c.args.worker; kind = Mark t }

  abbrev words : SharedValue → ℕ
  words z = saturating_words (words_in (accounts z).machine (heap_of (accounts z) t))

  answer : refused c.args.self.now e ≡ or_else (waiting_cause w t) (refused_if (is_some (marks_at w.marks t)) Marking (words_cause w.settings (words w)))
  answer = ap (λ (z : SharedValue). refused z e) (sym c.self.view_is) ∙ mark_answer w c.self.invariant c.args.worker t (ap is_some (sym c.first_cause-first.ensures) ∙ (sym c.is_some.ensures ∙ c.if-is_some.false))

pub returns-then-is_some-2 : goal.returns-then-is_some-2
returns-then-is_some-2 c =
    let b = (goal.at.returns-then-is_some-2 c).After-waiting_cause-waiting in by_first _ (answer b) c.waiting_cause-waiting.result c.waiting_cause-waiting.ensures (sym c.is_some-2.ensures ∙ c.if-is_some-2.true)

pub returns-then-is_some-3 : goal.returns-then-is_some-3
returns-then-is_some-3 c =
    let b = (goal.at.returns-then-is_some-3 c).After-waiting_cause-waiting in
    let marked : is_some (marks_at (w b).marks (t b)) ≡ true = ap is_some (sym c.marking.ensures) ∙ (some_copied c.marking.result ∙ (sym c.is_some-3.ensures ∙ c.if-is_some-3.true)) in
    ap (λ x. refused_if x Marking (words_cause (w b).settings (words b (w b)))) (sym marked) ∙ by_next (answer b) c.waiting_cause-waiting.result c.waiting_cause-waiting.ensures (sym c.is_some-2.ensures ∙ c.if-is_some-2.false)

pub returns : goal.returns
returns c =
    let b = (goal.at.returns c).After-waiting_cause-waiting in
    let unmarked : is_some (marks_at (w b).marks (t b)) ≡ false = ap is_some (sym c.marking.ensures) ∙ (some_copied c.marking.result ∙ (sym c.is_some-3.ensures ∙ c.if-is_some-3.false)) in
    c.words_cause.ensures
    ∙ (ap (words_cause (w b).settings) (c.words_at.ensures ∙ ap (words b) (sym c.self.view_is))
    ∙ (ap (λ x. refused_if x Marking (words_cause (w b).settings (words b (w b)))) (sym unmarked) ∙ by_next (answer b) c.waiting_cause-waiting.result c.waiting_cause-waiting.ensures (sym c.is_some-2.ensures ∙ c.if-is_some-2.false)))
