-- What a call asks of the heap of a task that waits, and the names used in proofs.
use Rattle.heap_marking.proofs.Common.{◌≡◌, ℕ, None, ap, ◌∙◌, Heap, Ledger, heap_of, Memory, SharedValue, accounts, value_of, IsSharedValue, marking_cause, waiting_cause}

-- the accounts, the memory, and the account of the heap
pub record HeapNames : Type 0 where
  pub l : Ledger
  pub v : Memory
  pub a : Heap

abbrev pub heap_names : SharedValue → ℕ → HeapNames
heap_names w t = record { l = accounts w; v = value_of w; a = heap_of (accounts w) t }

-- while the run goes on, the task waits, and its heap wasn't swept since its fork
pub record AsksWaiting (w : SharedValue) (t : ℕ) : Type 0 where
  pub I : IsSharedValue w
  pub on : (accounts w).end ≡ None
  pub free : waiting_cause w t ≡ None

-- and its heap is being marked
pub record AsksMarked (w : SharedValue) (t : ℕ) : Type 0 where
  pub I : IsSharedValue w
  pub on : (accounts w).end ≡ None
  pub free : marking_cause w t ≡ None

-- by what is known of an equal value
pub asks_waiting : {w old : SharedValue} (t : ℕ) → w ≡ old → IsSharedValue w → (accounts old).end ≡ None → waiting_cause old t ≡ None → AsksWaiting w t
asks_waiting t same I on free = record { I = I; on = ap (λ z. (accounts z).end) same ∙ on; free = ap (λ z. waiting_cause z t) same ∙ free }

pub asks_marked : {w old : SharedValue} (t : ℕ) → w ≡ old → IsSharedValue w → (accounts old).end ≡ None → marking_cause old t ≡ None → AsksMarked w t
asks_marked t same I on free = record { I = I; on = ap (λ z. (accounts z).end) same ∙ on; free = ap (λ z. marking_cause z t) same ∙ free }
