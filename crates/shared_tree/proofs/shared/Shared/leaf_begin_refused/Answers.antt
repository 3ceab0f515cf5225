use Rattle.shared_tree.proofs.Common.{without_fresh, begin_answer, units_in_use, SharedValue, accounts, WorkerPartFits, refused, or_else, part_asks, due_cause, PoolShort, is_pool_enough, refused_unless, EntryValue, Begin, Private, the_view, ◌≡◌, sym, subst, ◌∙◌, Some, None, is_some, ap, true, false}
use Rattle.shared_tree.proofs.Asked.{by_first, by_first_cause, by_next}
use Rattle.shared_tree.proofs.shared.Shared.leaf_begin_refused.Goals as goal
use Rattle.shared_tree.proofs.shared.Shared.leaf_begin_refused.Goals.{After-due_cause-due}

pub returns-then-is_some : goal.returns-then-is_some
returns-then-is_some c =
    by_first_cause c.self.view_is c.self.invariant (record { worker = c.args.worker; kind = Begin c.args.part.now.task }) c.first_cause-first.result c.first_cause-first.ensures (sym c.is_some.ensures ∙ c.if-is_some.true)

-- What the answer is if no cause precedes those of its kind.
module _ (c : After-due_cause-due) where
  abbrev w : SharedValue
  w = the_view c.self.inside

  abbrev p : Private
  p = c.args.part.now

  abbrev e : EntryValue
  e = record { worker = c.args.worker; kind = Begin p.task }

  due : c.due_cause-due.result ≡ due_cause p (part_asks w.program p)
  due = c.due_cause-due.ensures ∙ ap (due_cause p) c.words_asked.ensures.asked

  answer : refused c.args.self.now e ≡ or_else (due_cause p (part_asks w.program p)) (refused_unless (is_pool_enough w.settings (accounts w) p.task) (PoolShort (units_in_use w.pool)) None)
  answer =
      let F : WorkerPartFits w c.args.worker p = subst (λ (z : SharedValue). WorkerPartFits z c.args.worker p) (sym c.self.view_is) c.requires.fits in
      ap (λ (z : SharedValue). refused z e) (sym c.self.view_is)
      ∙ begin_answer w c.args.worker p c.self.invariant (without_fresh w c.args.worker p F c.requires.fresh) (ap is_some (sym c.first_cause-first.ensures) ∙ (sym c.is_some.ensures ∙ c.if-is_some.false))

pub returns-then-is_some-2 : goal.returns-then-is_some-2
returns-then-is_some-2 c =
    let b = (goal.at.returns-then-is_some-2 c).After-due_cause-due in by_first _ (answer b) c.due_cause-due.result (due b) (sym c.is_some-2.ensures ∙ c.if-is_some-2.true)

pub returns-then-pool_enough : goal.returns-then-pool_enough
returns-then-pool_enough c =
    let b = (goal.at.returns-then-pool_enough c).After-due_cause-due in
    let enough : is_pool_enough (w b).settings (accounts (w b)) (p b).task ≡ true = ap (λ (z : SharedValue). is_pool_enough z.settings (accounts z) (p b).task) c.self.view_is ∙ (sym c.pool_enough.ensures ∙ c.if-pool_enough.true) in
    ap (λ x. refused_unless x (PoolShort (units_in_use (w b).pool)) None) (sym enough) ∙ by_next (answer b) c.due_cause-due.result (due b) (sym c.is_some-2.ensures ∙ c.if-is_some-2.false)

pub returns-else-pool_enough : goal.returns-else-pool_enough
returns-else-pool_enough c =
    let b = (goal.at.returns-else-pool_enough c).After-due_cause-due in
    let short : is_pool_enough (w b).settings (accounts (w b)) (p b).task ≡ false = ap (λ (z : SharedValue). is_pool_enough z.settings (accounts z) (p b).task) c.self.view_is ∙ (sym c.pool_enough.ensures ∙ c.if-pool_enough.false) in
    ap (λ n. Some (PoolShort n)) c.in_use.ensures.units
    ∙ (ap (λ x. refused_unless x (PoolShort (units_in_use (w b).pool)) None) (sym short) ∙ by_next (answer b) c.due_cause-due.result (due b) (sym c.is_some-2.ensures ∙ c.if-is_some-2.false))
