-- A last step that leaves its task waiting is a fork.
use Rattle.fork_join_commit.proofs.Common.{◌≡◌, ℕ, true, false, Some, None, slice_get, ap, sym, subst, ◌∙◌, both_ways, false≢true, same_Some, none_some, Par, Line, ProgramText, MachineState, Task, is_over, waits, waits_is, Ledger, is_private, LastStepForks, IsOfKind, JustReads, LastKind, ChangesByWrite, Reading, Writing, Printing, Forking, Ending, Joining, Finishing, Halting, forks_not, joined_not}
use Rattle.step_commit.specs.below.ledger_step_laws.{Private}

module _ (p : ProgramText) (m l' : Ledger) (t : ℕ) (x : Task) (line : Line) (shared : is_private p m.machine t ≡ false) (g h : ℕ) (by : line.instr ≡ Par g h) (y : Task) (is : slice_get l'.machine.tasks t ≡ Some y) (wait : waits y.status ≡ true) (goes : l'.machine.end ≡ None) where
  pub forks : (kind : LastKind) → IsOfKind p m l' t x line kind → LastStepForks m l' t x line
  forks Private private = absurd (both_ways (is_private p m.machine t) shared private)
  forks Reading r = absurd (subst (λ i. JustReads x i r.object r.frame) by r.reads)
  forks Writing r = absurd (subst (λ i. ChangesByWrite x i r.object r.written r.frame) by r.wrote)
  forks Printing q = forks_not (sym by ∙ q.by)
  forks Forking f = f
  forks Ending e = let same = same_Some _ y (sym e.ends.ended ∙ is) in absurd (false≢true (ap (λ (z : Task). waits z.status) same ∙ wait))
  forks Joining j = joined_not m l' t x y is (ap is_over (waits_is y.status wait)) j
  forks Finishing d = none_some (sym goes ∙ d.ended)
  forks Halting h = none_some (sym goes ∙ ap (λ (z : MachineState). z.end) h.machine)
