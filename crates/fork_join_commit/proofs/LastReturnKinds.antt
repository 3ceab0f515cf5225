-- The kind of a last return, by the task after it.
use Rattle.fork_join_commit.proofs.Common.{◌≡◌, ℕ, true, false, Some, None, slice_get, ap, sym, subst, ◌∙◌, both_ways, false≢true, same_Some, none_some, Out, Par, Ret, Line, ProgramText, MachineState, Task, is_over, Ledger, is_private, EndsFirst, EndsLast, IsOfKind, JustReads, LastKind, ChangesByWrite, Reading, Writing, Printing, Forking, Ending, Joining, Finishing, Halting, joined_not}
use Rattle.step_commit.specs.below.ledger_step_laws.{Private}

prints_not : {A : Type 0} {a : ℕ} → Ret ≡ Out a → A
prints_not e = absurd cc

forks_not : {A : Type 0} {g h : ℕ} → Ret ≡ Par g h → A
forks_not e = absurd cc

module _ (p : ProgramText) (m l' : Ledger) (t : ℕ) (x : Task) (line : Line) (shared : is_private p m.machine t ≡ false) (by : line.instr ≡ Ret) (y : Task) (is : slice_get l'.machine.tasks t ≡ Some y) (goes : l'.machine.end ≡ None) where
  abbrev Last : LastKind → Type 0
  Last kind = IsOfKind p m l' t x line kind

  -- it has ended, and hasn't joined
  module _ (open_ : is_over y.status ≡ false) where
    pub ends : (kind : LastKind) → Last kind → EndsFirst m l' t x
    ends Private private = absurd (both_ways (is_private p m.machine t) shared private)
    ends Reading r = absurd (subst (λ i. JustReads x i r.object r.frame) by r.reads)
    ends Writing r = absurd (subst (λ i. ChangesByWrite x i r.object r.written r.frame) by r.wrote)
    ends Printing q = prints_not (sym by ∙ q.by)
    ends Forking f = forks_not (sym by ∙ f.by)
    ends Ending e = e
    ends Joining j = joined_not m l' t x y is open_ j
    ends Finishing d = none_some (sym goes ∙ d.ended)
    ends Halting h = none_some (sym goes ∙ ap (λ (z : MachineState). z.end) h.machine)

  -- or it has joined
  module _ (over : is_over y.status ≡ true) where
    pub joins : (kind : LastKind) → Last kind → EndsLast m l' t x
    joins Private private = absurd (both_ways (is_private p m.machine t) shared private)
    joins Reading r = absurd (subst (λ i. JustReads x i r.object r.frame) by r.reads)
    joins Writing r = absurd (subst (λ i. ChangesByWrite x i r.object r.written r.frame) by r.wrote)
    joins Printing q = prints_not (sym by ∙ q.by)
    joins Forking f = forks_not (sym by ∙ f.by)
    joins Ending e = let same = same_Some _ y (sym e.ends.ended ∙ is) in absurd (false≢true (ap (λ (z : Task). is_over z.status) same ∙ over))
    joins Joining j = j
    joins Finishing d = none_some (sym goes ∙ d.ended)
    joins Halting h = none_some (sym goes ∙ ap (λ (z : MachineState). z.end) h.machine)
