-- What the creation of hands guarantees, step by step.
use Rattle.std.specs.Prelude.{◌≡◌, ℕ, ◌<◌, List, Some, slice_get, length}
use Rattle.crossbeam_deque.specs.declared.handles.Stealer.{Stealer}
use Rattle.std.specs.declared.alloc.Global.{Global}
use Rattle.steal_scheduler.specs.declared.view.PassView.{PassView}
use Rattle.steal_scheduler.specs.declared.rule.Deals.{Deals}
use Rattle.steal_scheduler.specs.declared.own_deque.OwnDeque.{OwnDeque}
use Rattle.steal_scheduler.specs.declared.theft.Theft.{Theft}
use Rattle.steal_scheduler.specs.Ends.{IsStealerOf, StealsBy, owner_view, slots, next_put, pops_of_none}
use Rattle.steal_scheduler.specs.Rule.{opening_view, guest_view}
use Rattle.steal_scheduler.specs.Thefts.{theft_view, vain_thefts}
use Rattle.steal_scheduler.specs.declared.hand.Hand.{Hand}
use Rattle.steal_scheduler.specs.Hands.{IsNewHand, thefts}

-- the relation holds at each position that both lists have
abbrev pub EachPlace : {A B : Type 0} → (A → B → Type 0) → List A → List B → Type 0
EachPlace {A} {B} R xs ys = (k : ℕ) (x : A) (y : B) → slice_get xs k ≡ Some x → slice_get ys k ≡ Some y → R x y

abbrev pub Owner : Type 0
Owner = OwnDeque PassView Deals

abbrev pub Thief : Type 0
Thief = Stealer ℕ Global PassView Deals

-- the owner's end of a new deque
pub record IsNewOwner (o : Owner) : Type 0 where
  pub view_is : owner_view o ≡ opening_view
  pub at_start : next_put o ≡ 0
  pub room : 0 < slots o
  pub none_counted : pops_of_none o ≡ 0

-- a stealer of each deque
pub record StealFrom (ss : List Thief) (os : List Owner) : Type 0 where
  pub count : length ss ≡ length os
  pub each : EachPlace IsStealerOf ss os

-- a way to steal from this stealer's deque, which has stolen nothing
abbrev pub IsNewTheft : Theft → Thief → Type 0
IsNewTheft t s = StealsBy t.victim s × (theft_view t ≡ guest_view) × (vain_thefts t ≡ 0)

-- one from each deque
pub record AreTheftsOf (ts : List Theft) (ss : List Thief) : Type 0 where
  pub count : length ts ≡ length ss
  pub each : EachPlace IsNewTheft ts ss

-- the hand of this owner, which can steal from each deque
pub record IsHandOf (ss : List Thief) (h : Hand) (o : Owner) : Type 0 where
  pub own : h.own ≡ o
  pub new : IsNewHand (length ss) h
  pub reaches : AreTheftsOf (thefts h) ss
