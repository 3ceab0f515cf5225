-- The one entry of a part's fresh steps and its next one, which isn't private: the part afterwards.
use Rattle.std.specs.Prelude.{◌≡◌, ℕ}
use Rattle.leaf_collections.specs.below.task_machine.{Private}
use Rattle.leaf_collections.specs.below.core_invariant.{SharedValue, Returns}
use Rattle.fork_join_commit.specs.below.step_commit.{FinishesAlone, GoesAlone, HaltsAlone, EndingTells}
use Rattle.fork_join_commit.specs.ChildEnds.{EndsChild, IsAtEnd}
use Rattle.fork_join_commit.specs.Forks.{ForksOn, IsAtFork}
use Rattle.fork_join_commit.specs.NoTask.{HoldsNone}
use Rattle.entry_calls.specs.declared.answers.Ran.{Ran}
use Rattle.entry_calls.specs.declared.answers.Ran.TheVariants.{Forked, Ended, Over, Done}
use Rattle.entry_calls.specs.declared.answers.Leaving.{Leaving}
use Rattle.entry_calls.specs.declared.answers.Leaving.TheVariants.{Forks, Ends, Finishes}
use Rattle.entry_calls.specs.declared.answers.Lent.{Lent}
use Rattle.entry_calls.specs.declared.answers.Lent.TheVariants.{Goes, Over as IsOver, Leaves}

-- ---- WHAT THE NEXT STEP IS

-- it is the last return of the root
pub record IsAtRootEnd (w : SharedValue) (p : Private) : Type 0 where
  pub returns : (line : ℕ) × EndingTells w p Returns line
  pub root : p.task ≡ 0

-- it gives the part up in this way
abbrev pub LeavesBy : SharedValue → Private → Leaving → Type 0
LeavesBy w p Forks = IsAtFork w p
LeavesBy w p Ends = IsAtEnd w p
LeavesBy w p Finishes = IsAtRootEnd w p

-- ---- THE RESULT FOR A LENT PART

-- nothing is committed, since the next step gives the part up
pub record LeavesPart (w after : SharedValue) (p q : Private) (leaving : Leaving) : Type 0 where
  pub same : after ≡ w
  pub part : q ≡ p
  pub leaves : LeavesBy w p leaving

abbrev pub LentTo : SharedValue → SharedValue → ℕ → Private → Private → Lent → Type 0
LentTo w after k p q Goes = GoesAlone w after k p q
LentTo w after k p q IsOver = HaltsAlone w after k p q
LentTo w after k p q (Leaves leaving) = LeavesPart w after p q leaving

-- ---- THE RESULT FOR A TASK of a step that gives its part up

-- if it forks or ends, the worker holds nothing
abbrev pub RanTo : SharedValue → SharedValue → ℕ → Private → Ran → Type 0
RanTo w after k p (Forked left right) = ForksOn w after k p left right × HoldsNone after k
RanTo w after k p (Ended resumed) = EndsChild w after k p resumed × HoldsNone after k
RanTo w after k p (Over q) = HaltsAlone w after k p q
RanTo w after k p Done = FinishesAlone w after k p
