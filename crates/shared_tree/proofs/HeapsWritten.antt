-- The value after the heaps, the steps and the journal have changed.
use Rattle.shared_tree.proofs.Common.{◌≡◌, ℕ, Option, List, ap₂, sym, ◌∙◌, ReservedVecValue, EntryValue, SetOf, Heaps, ParkedTask, SharedValue}

abbrev pub with_heaps : SharedValue → Heaps → ℕ → ReservedVecValue EntryValue → SharedValue
with_heaps w h n j = record w { pool = h.pool; rests = h.task_slots.rests; sets = h.task_slots.sets; marks = h.task_slots.marks; steps = n; journal = j }

-- a write changes what rests and what is noted, without adding to them
pub written_by : (w : SharedValue) (n : ℕ) (j : ReservedVecValue EntryValue) (h : Heaps) (hs : List (Option ParkedTask)) (ss : List SetOf) → h.pool ≡ w.pool → h.task_slots.marks ≡ w.marks → h.task_slots.rests ≡ hs → h.task_slots.sets ≡ ss
    → record w { rests = hs; sets = ss; steps = n; journal = j } ≡ with_heaps w h n j
written_by w n j h hs ss ep em eh es =
    ap₂ (λ x y. record w { rests = x; sets = y; steps = n; journal = j }) (sym eh) (sym es)
    ∙ ap₂ (λ x y. record w { pool = x; rests = h.task_slots.rests; sets = h.task_slots.sets; marks = y; steps = n; journal = j }) (sym ep) (sym em)
