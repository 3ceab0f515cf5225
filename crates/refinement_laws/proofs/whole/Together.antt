-- The whole relation from its parts, and the last laws on copies and on the end.
use Rattle.refinement_laws.proofs.Common.{refl, subst, ◌≡◌, ℕ, Option, Some, None, ap, sym, ◌∙◌, Bool, true, slice_get, inl, Ledger, heap_of, with_heap, collected, Memory, rested, LastStepEndsRun, BegunBy, by_end, handed, RunsWithPart, Task, Running, can_step, goes_on, is_running, with_off, end_changes, Begun, CopiesEnd, WholeStands, WholeNotes}
use Rattle.refinement_laws.proofs.parts.Statements.{CopiesLeave}
use Rattle.refinement.specs.below.hh_model.{End}
use Rattle.refinement_laws.proofs.parts.Ends.{fits_end}
use Rattle.refinement_laws.proofs.parts.Copies.{copy_fits, moves}

pub copies_end : CopiesEnd
copies_end p s t h h' f v v' l x hs S is runs there C E none = (moves p s t h h' f v v' l x 0 S is runs hs there C E, copy_fits p s t h h' f v v' l x 0 S is runs hs there C E none)

pub none_begun : (v : Memory) (l : Ledger) (t : ℕ) (o : Option Begun) → o ≡ None → (heap_of l t).begun ≡ None → BegunBy v l t o
none_begun v l t None e h = h
none_begun v l t (Some b) e h = absurd cc

pub whole_stands : WholeStands
whole_stands v c l V T begun none N = record { belongings = V; tree_counts = T; begun = λ t r. none_begun v l t (v.belongings t).begun (none t r) (begun t r); keeps = λ t. (N t).keeps; since = λ t. (N t).since; marks = λ t. (N t).marks }

pub whole_notes : WholeNotes
whole_notes v c l W t = record { keeps = W.keeps t; since = W.since t; marks = W.marks t }

pub done_is_handed : (l l' : Ledger) (t : ℕ) (x : Task) → LastStepEndsRun l l' t x → t ≡ 0 → handed l' ≡ rested l' t
done_is_handed l l' t x D zero_is = ap (by_end l') D.is ∙ ap (rested l') (sym zero_is)

-- the end of a copy's collection keeps the parts of others fitting
pub copies_leave : CopiesLeave
copies_leave p s t h h' f v v' l x hs K K' is runs there C E r y P ne G =
    let l' : Ledger = with_heap l t (collected l.machine) in
    fits_end p s t h h' r v v' l l' C.old.fits.worker x y f K K' C.old.fits G
    (record { task = is; runs = ap (λ st. is_running (Some (record x { status = st }))) runs; can = goes_can_of l t x y P is runs; steady = inl refl }) P ne runs C.collects (end_changes l t)
    (with_off l t r.task (collected l.machine) (λ e. ne (sym e))) ((end_changes l t).worker ∙ C.old.fits.out) (moves p s t h h' f v v' l x 0 K.sound is runs hs there C E)
  where
    -- if one running task can step, so can another
    goes_can_of : (l : Ledger) (t : ℕ) (x y : Task) → RunsWithPart l r y → slice_get l.machine.tasks t ≡ Some x → x.status ≡ Running → can_step l.machine t ≡ true
    goes_can_of l t x y P is runs = goes_can_of_by_cases l.machine.end (is_running (slice_get l.machine.tasks r.task)) P.can
      where
        goes_can_of_by_cases : (o : Option End) (b : Bool) → goes_on o b ≡ true → goes_on o (is_running (slice_get l.machine.tasks t)) ≡ true
        goes_can_of_by_cases None b h = ap is_running is ∙ ap (λ st. is_running (Some (record x { status = st }))) runs
        goes_can_of_by_cases (Some e) b h = absurd cc
