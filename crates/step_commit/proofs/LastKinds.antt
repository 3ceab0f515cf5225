-- The kind of a last step, by the machine after it.
use Rattle.step_commit.proofs.Common.{◌≡◌, ◌⊎◌, ℕ, ◌+◌, true, false, Some, None, slice_get, inl, inr, ap, sym, ◌∙◌, both_ways, false≢true, same_Some, none_some, Out, Par, Line, ProgramText, Done, MachineState, Task, is_joined, is_over, runs, running_tells, Ledger, is_private, touched, LastStepEndsRun, EndsLast, GoesOn, IsOfKind, LastKind, Reading, Writing, Printing, Forking, Ending, Joining, Finishing, Halting}
use Rattle.core_invariant.specs.below.ledger_step_laws.{LastStepPrints, Private}

pub forks_not : {A : Type 0} {g h a : ℕ} → Par g h ≡ Out a → A
forks_not e = absurd cc

-- a task that hasn't joined isn't one of those that a last end joins
pub joined_not : {A : Type 0} (m l' : Ledger) (t : ℕ) (x y : Task) → slice_get l'.machine.tasks t ≡ Some y → is_over y.status ≡ false → EndsLast m l' t x → A
joined_not m l' t x y is live j = joined_not_by_cases j.results
  where
    off : {A : Type 0} (u : ℕ) → t ≡ u → is_joined (slice_get l'.machine.tasks u) ≡ true → A
    off u e h = absurd (both_ways (is_joined (slice_get l'.machine.tasks u)) (ap (λ z. is_joined (slice_get l'.machine.tasks z)) (sym e) ∙ (ap is_joined is ∙ live)) h)

    joined_not_by_cases : {A : Type 0} {B C D E : Type 0} → ((t ≡ j.left) × B × C) ⊎ ((t ≡ j.left + 1) × D × E) → A
    joined_not_by_cases (inl h) = off j.left h.0 j.joins.left
    joined_not_by_cases (inr h) = off (j.left + 1) h.0 j.joins.right

module _ (p : ProgramText) (m l' : Ledger) (t : ℕ) (x : Task) (line : Line) (shared : is_private p m.machine t ≡ false) where
  abbrev Last : LastKind → Type 0
  Last kind = IsOfKind p m l' t x line kind

  -- the task runs after it, and so does the machine: an output
  module _ (a : ℕ) (il : line.instr ≡ Out a) (y : Task) (is : slice_get l'.machine.tasks t ≡ Some y) (run : runs y.status ≡ true) (goes : l'.machine.end ≡ None) where
    pub prints : (kind : LastKind) → Last kind → LastStepPrints m l' t x line
    prints Private private = absurd (both_ways (is_private p m.machine t) shared private)
    prints Reading r = none_some (sym (ap (touched x.top) il) ∙ r.touches)
    prints Writing r = none_some (sym (ap (touched x.top) il) ∙ r.touches)
    prints Printing q = q
    prints Forking f = forks_not (sym f.by ∙ il)
    prints Ending e =
        let same = same_Some _ y (sym e.ends.ended ∙ is) in
        absurd (false≢true (ap (λ (z : Task). runs z.status) same ∙ run))
    prints Joining j = joined_not m l' t x y is (running_tells y.status run).0 j
    prints Finishing d = none_some (sym goes ∙ d.ended)
    prints Halting h = none_some (sym goes ∙ ap (λ (z : MachineState). z.end) h.machine)

  -- the run is done, and the task has ended
  module _ (ended : l'.machine.end ≡ Some Done) (y : Task) (is' : slice_get l'.machine.tasks t ≡ Some y) (over : runs y.status ≡ false) (is : slice_get m.machine.tasks t ≡ Some x) (run : runs x.status ≡ true) where
    pub done : (of : LastKind) → Last of → (GoesOn of → l'.machine.end ≡ None) → LastStepEndsRun m l' t x
    done Private private on = absurd (both_ways (is_private p m.machine t) shared private)
    done Reading r on = none_some (sym (on tt) ∙ ended)
    done Writing r on = none_some (sym (on tt) ∙ ended)
    done Printing q on = none_some (sym (on tt) ∙ ended)
    done Forking f on = none_some (sym (on tt) ∙ ended)
    done Ending f on = none_some (sym (on tt) ∙ ended)
    done Joining j on = none_some (sym (on tt) ∙ ended)
    done Finishing d on = d
    done Halting h on =
        let same : y ≡ x = same_Some y x (sym is' ∙ (ap (λ (z : MachineState). slice_get z.tasks t) h.machine ∙ is)) in
        absurd (both_ways (runs y.status) over (ap (λ (z : Task). runs z.status) same ∙ run))
