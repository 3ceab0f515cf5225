-- The laws of entries that mark a heap.
use Rattle.std.specs.Prelude.{◌≡◌, ◌⊎◌, ◌↔◌, ◌++◌, ◌∷◌, ◌+◌, ◌<◌, ◌≤◌, ℕ, min, true, Option, Some, None, List, [], All, length, slice_get}
use Rattle.heap_marking.specs.Common.{is_waiting, Kind, More, EntryValue, Ledger, heap_of, left_in, after, Addr, HeapIsClosed, HasObjectAt, Located, CallFrame, IsAllMarked, IsMarking, IsOf, MarkingValue, marked_of, Fork, IsSince, In, Memory, HoldsAt, IsRememberedRoot, CanGoOnMarking, MarksStand, kept as kept_of, IsMarked, ParkedTask, SharedValue, accounts, marks_at, rest_at, value_of, IsSharedValue, EachPartStillFits, refused}

-- the start of a marking of the heap of t: an object of it that a register of t names, or to which a remembered field
-- refers
abbrev pub IsStart : Memory → Ledger → ℕ → Addr → Type 0
IsStart v l t a = ((o : Located) × HoldsAt (v.belongings t) a o × ((f : CallFrame) × In (v.belongings t).frames f × In f.refs (Some a))) ⊎ IsRememberedRoot v l t a

-- for a waiting task whose overwritten references are kept, such a marking goes on to exactly the snapshot
abbrev pub MarksBegin : Type 0
MarksBegin =
    (w : SharedValue) (t : ℕ) (r : ParkedTask) (roots : List Addr) (m : MarkingValue) → let v : Memory = value_of w in let l : Ledger = accounts w in
    IsSharedValue w → l.end ≡ None → rest_at w.rests t ≡ Some r → is_waiting (slice_get l.machine.tasks t) ≡ true → (v.noted t).keeps ≡ true
    → ((a : Addr) → In roots a ↔ IsStart v l t a) → IsOf r.heap.chunks (kept_of v t) m → IsMarking (record { heap = r.heap.chunks; roots = roots }) (kept_of v t) m
    → CanGoOnMarking v t (heap_of l t).snapshot m

-- the value with other marks, and one more entry
abbrev pub marked_more : SharedValue → EntryValue → List (Option MarkingValue) → ℕ → SharedValue
marked_more w e marks room = record w { marks = marks; journal = record { items = w.journal.items ++ e ∷ []; room = room } }

-- a marking that can go on, of as many objects as the account says, is committed
abbrev pub MarksEnter : Type 0
MarksEnter =
    (w : SharedValue) (k : ℕ) (kind : Kind) (t : ℕ) (m : MarkingValue) (marks : List (Option MarkingValue)) (room : ℕ) → let e : EntryValue = record { worker = k; kind = kind } in let l : Ledger = accounts w in
    IsSharedValue w → refused w e ≡ None → IsMarked kind t → marks_at marks t ≡ Some m → ((u : ℕ) → (u ≡ t → ⊥) → marks_at marks u ≡ marks_at w.marks u)
    → (heap_of (after w.program w.settings l e) t).marked ≡ Some (length (marked_of m)) → CanGoOnMarking (value_of w) t (heap_of l t).snapshot m
    → IsSharedValue (marked_more w e marks room) × EachPartStillFits w (marked_more w e marks room)

-- of a marking that can go on: what it requires of the heap, when nothing is left, and that it can go on after marking
-- more
pub record Further (w : SharedValue) (t : ℕ) (r : ParkedTask) (m : MarkingValue) : Type 0 where
  pub fork : Fork
  pub since : IsSince fork (kept_of (value_of w) t) r.heap.chunks
  pub marks : IsMarking fork (kept_of (value_of w) t) m
  pub own : IsOf r.heap.chunks (kept_of (value_of w) t) m
  pub kept : All (HasObjectAt r.heap.chunks) (kept_of (value_of w) t)
  pub closed : HeapIsClosed r.heap.chunks
  pub left : MarksStand (value_of w) (accounts w) t (marked_of m) → IsAllMarked fork (kept_of (value_of w) t) m ↔ (left_in (heap_of (accounts w) t) ≡ 0)
  pub further : (m' : MarkingValue) → IsOf r.heap.chunks (kept_of (value_of w) t) m'
      → ((f : Fork) → IsSince f (kept_of (value_of w) t) r.heap.chunks → IsMarking f (kept_of (value_of w) t) m → IsMarking f (kept_of (value_of w) t) m') → CanGoOnMarking (value_of w) t (heap_of (accounts w) t).snapshot m'

abbrev pub MarksGoFurther : Type 0
MarksGoFurther =
    (w : SharedValue) (t : ℕ) (r : ParkedTask) (m : MarkingValue) → IsSharedValue w → (accounts w).end ≡ None → rest_at w.rests t ≡ Some r → is_waiting (slice_get (accounts w).machine.tasks t) ≡ true → ((value_of w).noted t).keeps ≡ true
    → CanGoOnMarking (value_of w) t (heap_of (accounts w) t).snapshot m → Further w t r m

-- how many more are marked is what the account says: n, or what is left
abbrev pub MarksCount : Type 0
MarksCount =
    (w : SharedValue) (k t : ℕ) (r : ParkedTask) (m m' : MarkingValue) (n count : ℕ) → let v : Memory = value_of w in let l : Ledger = accounts w in
    IsSharedValue w → l.end ≡ None → rest_at w.rests t ≡ Some r → is_waiting (slice_get l.machine.tasks t) ≡ true → (v.noted t).keeps ≡ true → marks_at w.marks t ≡ Some m
    → CanGoOnMarking v t (heap_of l t).snapshot m' → m'.marked ≡ m.marked + count → count ≤ n
    → (count < n → (f : Fork) → IsSince f (kept_of v t) r.heap.chunks → IsMarking f (kept_of v t) m → IsAllMarked f (kept_of v t) m')
    → (count ≡ min n (left_in (heap_of l t))) × ((heap_of (after w.program w.settings l (record { worker = k; kind = More t n })) t).marked ≡ Some (length (marked_of m')))
