-- An entry of steps is made: what it changes in the memory, in what is noted, and in the tree and the counts gives a
-- shared value, which the parts of other workers fit, and that of its own worker if it goes on.
use Rattle.core_invariant.proofs.Common.{◌≡◌, ℕ, suc, None, slice_get, refl, option_flatten, Ran, EntryValue, Ledger, after, task_steps, FramesValue, LastKind, Reading, Writing, Printing, Forking, Ending, Joining, Finishing, Halting, RunsPrivateSteps, part_for, BelongingsAfter, EntryMakes, taken_by, Marks, RanCounts, TasksOutGo, TreeCounts, WorkerFits, ran_fits_then, ran_leaves, ran_stands_for, Private, SharedValue, accounts, tree_counts_of, value_of, IsMeasured, IsSharedValue, WorkerPartFits, OthersFit, belongings_of_part, part_of, Enters, refused}
use Rattle.refinement_laws.specs.below.ledger_step_laws.{Private as PrivateKind}
use Rattle.core_invariant.proofs.EntryMade.{HasForm, entered_world, part_fits, tasks_apart}

-- the workers of tasks, except its own worker
pub others_out : (c c' : TreeCounts) (k : ℕ) (kind : LastKind) → TasksOutGo c c' k kind → (u : ℕ) → (u ≡ k → ⊥) → c'.task_out u ≡ c.task_out u
others_out c c' k PrivateKind T u ne = T u
others_out c c' k Reading T u ne = T u
others_out c c' k Writing T u ne = T u
others_out c c' k Printing T u ne = T u
others_out c c' k Forking T u ne = T.others u ne
others_out c c' k Ending T u ne = T.others u ne
others_out c c' k Joining T u ne = T.others u ne
others_out c c' k Finishing T u ne = T.others u ne
others_out c c' k Halting T u ne = T u

abbrev pub ran_entry : ℕ → Private → ℕ → EntryValue
ran_entry k p m = record { worker = k; kind = Ran p.task m }

-- the accounts after the entry
abbrev pub ran_to : SharedValue → ℕ → Private → ℕ → Ledger
ran_to w k p m = after w.program w.settings (accounts w) (ran_entry k p m)

-- the entry e of n private steps of the part p and one more leads from w to w': how it splits, and what its last step
-- changes
pub record MakesSteps (w w' : SharedValue) (k : ℕ) (p : Private) (n : ℕ) : Type 0 where
  pub enters : Enters w w' (ran_entry k p (suc n))
  pub form : HasForm w w'
  -- the pool has the chunks of each other worker
  pub units : (u : ℕ) (q : Private) → (u ≡ k → ⊥) → WorkerPartFits w u q → IsMeasured w'.pool q
  pub runs : RunsPrivateSteps w.program w.settings (accounts w) (ran_to w k p (suc n)) p.task k n
  pub own : WorkerFits w.program w.settings (part_for w.settings p.task (belongings_of_part p) (taken_by runs.splits.kind n)) (value_of w) (accounts w)
  pub makes : EntryMakes w.program (value_of w) (value_of w') (task_steps w.program (accounts w) p.task n) (ran_to w k p (suc n)) p.task (belongings_of_part p) runs.splits.task runs.splits.line runs.splits.kind runs.splits.last
  pub notes : Marks w.program (value_of w) (value_of w') (task_steps w.program (accounts w) p.task n) (ran_to w k p (suc n)) p.task (belongings_of_part p) runs.splits.task runs.splits.line runs.splits.kind runs.splits.last makes
  pub counts : RanCounts w.program (tree_counts_of w) (tree_counts_of w') (task_steps w.program (accounts w) p.task n) (ran_to w k p (suc n)) p.task k n runs.splits.task runs.splits.line runs.splits.kind runs.splits.last

module _ {w w' : SharedValue} {k : ℕ} {p : Private} {n : ℕ} (I : IsSharedValue w) (F : WorkerPartFits w k p) (free : refused w (ran_entry k p (suc n)) ≡ None) (M : MakesSteps w w' k p n) where
  pub steps_world : IsSharedValue w'
  steps_world =
      entered_world I free M.enters M.form
      (ran_stands_for w.program w.settings w.journal.items I.form I.legal (value_of w) (value_of w') (tree_counts_of w) (tree_counts_of w') k p.task n (belongings_of_part p) free M.runs I.stands M.own M.makes M.notes M.counts)

  -- THE PARTS OF OTHERS
  pub steps_others : OthersFit w w' k
  steps_others u q ne G =
      part_fits I free M.enters steps_world u q q (others_out (tree_counts_of w) (tree_counts_of w') k M.runs.splits.kind M.counts.task_out u ne) G refl G.form (M.units u q ne G)
      (ran_leaves w.program w.settings (value_of w) (value_of w') (accounts w) (ran_to w k p (suc n)) p.task k n (belongings_of_part p) M.runs M.own M.makes (part_of w.settings q) (tasks_apart w k u p q F G ne) G.fits)

  -- THE PART, if its worker goes on with it: its frames change, and no step is fresh
  module _ (frames : FramesValue) where
    abbrev q : Private
    q = record p { frames = frames; fresh = 0 }

    pub steps_part : option_flatten (slice_get w'.tasks_out k) ≡ option_flatten (slice_get w.tasks_out k) → IsMeasured w'.pool p
        → BelongingsAfter w.program (value_of w) (value_of w') (task_steps w.program (accounts w) p.task n) (ran_to w k p (suc n)) p.task (belongings_of_part p) M.runs.splits.task M.runs.splits.line M.runs.splits.kind M.runs.splits.last M.makes (belongings_of_part q)
        → WorkerPartFits w' k q
    steps_part same measured read =
        part_fits I free M.enters steps_world k p q same F refl F.form measured
        (ran_fits_then w.program w.settings (value_of w) (value_of w') (accounts w) (ran_to w k p (suc n)) p.task k n (belongings_of_part p) (belongings_of_part q) M.runs M.own M.makes read)
