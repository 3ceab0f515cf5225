-- What clauses say of a hand's way to steal from one deque.
use Rattle.std.specs.Prelude.{◌≡◌, ℕ, ◌∷◌, []}
use Rattle.steal_scheduler.specs.declared.view.PassView.{PassView}
use Rattle.steal_scheduler.specs.declared.theft.Theft.{Theft}
use Rattle.crossbeam_deque.specs.Handles.{stealer_deque}
use Rattle.saturating_counts.specs.Counts.{raised_by}
use Rattle.steal_scheduler.specs.Ends.{thief_port, thief_view, thefts_of_none}
use Rattle.steal_scheduler.specs.Rule.{with_taken, HasAtMost}

-- what its pass records
abbrev pub theft_view : Theft → PassView
theft_view t = thief_view t.victim

abbrev pub theft_port : Theft → ℕ
theft_port t = thief_port t.victim

-- how many thefts found at most one number there
abbrev pub vain_thefts : Theft → ℕ
vain_thefts t = thefts_of_none t.victim

-- it steals from the same deque
abbrev pub SameTheft : Theft → Theft → Type 0
SameTheft old new = (stealer_deque new.victim.stealer ≡ stealer_deque old.victim.stealer) × (theft_port new ≡ theft_port old)

-- this number was stolen
pub record Stole (x : ℕ) (old new : Theft) : Type 0 where
  pub view_is : theft_view new ≡ with_taken (theft_view old) (x ∷ [])
  pub vain_is : vain_thefts new ≡ vain_thefts old

-- none was stolen, since at some step there was at most one number, which is counted
pub record StoleNone (old new : Theft) : Type 0 where
  pub view_is : theft_view new ≡ theft_view old
  pub vain_rose : vain_thefts new ≡ raised_by (vain_thefts old) 1
  pub few : HasAtMost 1 (theft_view old)
