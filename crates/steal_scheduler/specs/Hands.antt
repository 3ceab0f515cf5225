-- What clauses say of a hand.
use Rattle.std.specs.Prelude.{◌≡◌, ◌≢◌, ℕ, ◌+◌, ◌<◌, ◌≤◌, List, [], ◌∷◌, ◌++◌, Some, slice_get, length}
use Rattle.crossbeam_deque.specs.Handles.{stealer_deque, worker_deque}
use Rattle.saturating_counts.specs.Counts.{raised_by}
use Rattle.steal_scheduler.specs.Ends.{owner_port, owner_view, slots, next_put, pops_of_none}
use Rattle.steal_scheduler.specs.declared.view.PassView.{PassView}
use Rattle.steal_scheduler.specs.declared.theft.Theft.{Theft}
use Rattle.steal_scheduler.specs.declared.hand.Hand.{Hand}
use Rattle.steal_scheduler.specs.Rule.{opening_view, guest_view, with_put, TookBack, HasAtMost}
use Rattle.steal_scheduler.specs.Thefts.{theft_view, vain_thefts, SameTheft}

-- what the hand's pass records at its own deque
abbrev pub own_view : Hand → PassView
own_view h = owner_view h.own

abbrev pub own_port : Hand → ℕ
own_port h = owner_port h.own

-- the numbers that didn't fit on the deque, and those put after them, the newest last
abbrev pub own_list : Hand → List ℕ
own_list h = h.list.items

-- how the hand steals from each deque, in order of the workers
abbrev pub thefts : Hand → List Theft
thefts h = h.thefts.items

-- the slots of the newest ring of the own deque
abbrev pub capacity : Hand → ℕ
capacity h = slots h.own

-- the index of the next put, which taking back decrements
abbrev pub index : Hand → ℕ
index h = next_put h.own

-- how many pops found the own deque empty
abbrev pub empty_pops : Hand → ℕ
empty_pops h = pops_of_none h.own

-- it steals from the own deque of this hand
abbrev pub StealsFrom : Theft → Hand → Type 0
StealsFrom t g = stealer_deque t.victim.stealer ≡ worker_deque g.own.worker

-- the same deques
pub record SameHand (old new : Hand) : Type 0 where
  pub deque : worker_deque new.own.worker ≡ worker_deque old.own.worker
  pub port : own_port new ≡ own_port old
  pub room : capacity old ≤ capacity new
  pub workers : length (thefts new) ≡ length (thefts old)

-- the number was put on the deque
pub record PutOnDeque (old new : Hand) (x : ℕ) : Type 0 where
  pub list_was : own_list old ≡ []
  pub list_is : own_list new ≡ []
  pub view_is : own_view new ≡ with_put (own_view old) (x ∷ [])
  pub index_is : index new ≡ index old + 1

-- the number was put on the list: it wasn't empty, or the deque, which had taken as many as it has slots, refused the
-- number
pub record PutOnList (old new : Hand) (x : ℕ) : Type 0 where
  pub list_is : own_list new ≡ own_list old ++ x ∷ []
  pub view_is : own_view new ≡ own_view old
  pub index_is : index new ≡ index old
  pub refused : own_list old ≡ [] → capacity old ≤ index old

-- the number was the newest of the list
pub record TookFromList (old new : Hand) (x : ℕ) : Type 0 where
  pub newest : own_list old ≡ own_list new ++ x ∷ []
  pub view_is : own_view new ≡ own_view old
  pub index_is : index new ≡ index old

-- the list is empty, and the number was the newest that the hand had put on its deque and not taken back
pub record TookFromDeque (old new : Hand) (x : ℕ) : Type 0 where
  pub list_was : own_list old ≡ []
  pub list_is : own_list new ≡ []
  pub took : TookBack (own_view old) (x ∷ []) (own_view new)
  pub index_falls : index new ≤ index old

-- the list was empty, and so was the own deque at some step, which is counted
pub record TookNone (old new : Hand) : Type 0 where
  pub list_was : own_list old ≡ []
  pub list_is : own_list new ≡ []
  pub view_is : own_view new ≡ own_view old
  pub index_falls : index new ≤ index old
  pub empty_pops_rose : empty_pops new ≡ raised_by (empty_pops old) 1
  pub was_empty : HasAtMost 0 (own_view old)

-- list and own deque are unchanged
pub record KeepsOwn (old new : Hand) : Type 0 where
  pub list_is : own_list new ≡ own_list old
  pub view_is : own_view new ≡ own_view old
  pub index_is : index new ≡ index old

-- of a hand's thefts, that from the victim changed in this way, and the others are unchanged
pub record ChangesAt (old new : List Theft) (victim : ℕ) (Then : Theft → Theft → Type 0) : Type 0 where
  pub others : (k : ℕ) → k ≢ victim → slice_get new k ≡ slice_get old k
  pub at_victim : (t u : Theft) → slice_get old victim ≡ Some t → slice_get new victim ≡ Some u → SameTheft t u × Then t u

-- a hand of a worker among n, before its first call
pub record IsNewHand (n : ℕ) (h : Hand) : Type 0 where
  pub list : own_list h ≡ []
  pub view_is : own_view h ≡ opening_view
  pub at_start : index h ≡ 0
  pub room : 0 < capacity h
  pub none_counted : empty_pops h ≡ 0
  pub workers : length (thefts h) ≡ n

-- a hand for each worker, each of which can steal from each deque
pub record AreNewHands (n : ℕ) (hands : List Hand) : Type 0 where
  pub count : length hands ≡ n
  pub each_hand : (k : ℕ) (h : Hand) → slice_get hands k ≡ Some h → IsNewHand n h
  pub reaches : (k j : ℕ) (h g : Hand) (t : Theft) → slice_get hands k ≡ Some h → slice_get hands j ≡ Some g → slice_get (thefts h) j ≡ Some t
      → StealsFrom t g × (theft_view t ≡ guest_view) × (vain_thefts t ≡ 0)
