-- Entries that mark a heap: why they are refused, and what they keep.
use Rattle.std.proofs.Common.{le-leb}
use Rattle.heap_marking.proofs.Common.{◌≡◌, ◌==◌, ◌↔◌, ℕ, ◌+◌, ◌-◌, ◌^◌, ◌<◌, ◌≤◌, arith, All, Bool, true, false, min, Option, Some, None, List, length, is_none, is_some, slice_get, slice_set, take, inl, inr, refl, ap, sym, subst, ◌∙◌, option_flatten, IfSome, cases_lt, got_other, got_same, got_within, none_of, got_set, Mark, More, EntryValue, SettingsValue, Heap, Ledger, Refused, Marked, Marking, NotDue, after, kind_refusal, refused_if, refused_unless, heap_of, left_in, or_fresh, with_heap, words_in, SoundLedger, entry_tells, legal_sound, heap_there, Addr, held_words, HasObjectAt, saturating_words, AreFields, SetOf, IsAllMarked, IsMarking, IsOf, MarkingValue, marked_of, Fork, IsSince, heap_then, with_at, CanGoOnMarking, kept, kept_of, ParkedTask, resting_references, first_cause, or_else, refused, EachPartStillFits, heaps_of, sources_of, SharedValue, accounts, marks_at, noted_in, rest_at, value_of, IsSharedValue, words_are, entry_on, stands_now, on_is, refused_is, marking_cause, waiting_cause, words_cause, marked_more, MarkingHasBegun, starts_by, starts_in, starts_of, RefField}
use Rattle.heap_marking.proofs.MarkBegun.{chunks_at_rest, marks_begin, waiting_rests}
use Rattle.heap_marking.proofs.MarkCauses.{marks_refuse}
use Rattle.heap_marking.proofs.MarkCounts.{marks_count}
use Rattle.heap_marking.proofs.MarkedHeap.{further, waits}
use Rattle.heap_marking.proofs.MarkingEntered.{marks_enter}
use Rattle.heap_marking.proofs.MarkingStarts.{fields_there, starts_are, starts_held}
use Rattle.heap_marking.proofs.WaitingSlot as task_slots
use Rattle.heap_marking.proofs.HeapAsked.{AsksMarked, AsksWaiting, heap_names}

-- WHY THEY ARE REFUSED

pub or_none : (a b : Option Refused) → or_else a b ≡ None → (a ≡ None) × (b ≡ None)
or_none None b e = (refl, e)
or_none (Some c) b e = absurd cc

if_none : (b : Bool) (c : Refused) (rest : Option Refused) → refused_if b c rest ≡ None → b ≡ false
if_none true c rest e = absurd cc
if_none false c rest e = refl

kind_free : (w : SharedValue) (e : EntryValue) → refused w e ≡ None → kind_refusal w.program w.settings (accounts w) e.worker e.kind ≡ None
kind_free w e free = is_none_of (kind_refusal w.program w.settings (accounts w) e.worker e.kind) (entry_tells w.program w.settings (accounts w) e (ap is_none free)).2
  where
    is_none_of : (o : Option Refused) → is_none o ≡ true → o ≡ None
    is_none_of None h = refl
    is_none_of (Some c) h = absurd cc

-- the saturated count of a heap's words suffices to tell whether its marking is due
due_by : (s : SettingsValue) (n : ℕ) → s.inner < 2 ^ 32 → words_cause s (saturating_words n) ≡ words_cause s n
due_by s n few = elim (cases_lt n (2 ^ 64 - 1)) [
  | inl lt ↦ ap (words_cause s) (let q : saturating_words n ≡ n = omega (arith, lt) in q)
  | inr le ↦ due (saturating_words n) (omega (arith, le, few)) ∙ sym (due n (omega (arith, le, few)))
]
  where
    due : (z : ℕ) → s.inner ≤ z → words_cause s z ≡ None
    due z big = ap (λ b. refused_unless b (NotDue z) None) (le-leb s.inner z big)

module _ (w : SharedValue) (I : IsSharedValue w) (k t : ℕ) where
  abbrev l : Ledger
  l = accounts w

  pub mark_answer : is_some (first_cause w.end w.steps w.settings k false) ≡ false → refused w (record { worker = k; kind = Mark t }) ≡ or_else (waiting_cause w t) (refused_if (is_some (marks_at w.marks t)) Marking (words_cause w.settings (saturating_words (words_in l.machine (heap_of l t)))))
  mark_answer h =
      refused_is w I (record { worker = k; kind = Mark t })
      ∙ (ap (λ o. or_else o (kind_refusal w.program w.settings l k (Mark t))) (none_of (first_cause w.end w.steps w.settings k false) h)
      ∙ ((marks_refuse w k t I (on_is w I k false h)).mark
      ∙ ap (λ o. or_else (waiting_cause w t) (refused_if (is_some (marks_at w.marks t)) Marking o)) (sym (due_by w.settings (words_in l.machine (heap_of l t)) few))))
    where
      few : w.settings.inner < 2 ^ 32
      few = let h = I.settings.inner.1 in omega (arith, h)

  pub some_answer : (n : ℕ) → is_some (first_cause w.end w.steps w.settings k false) ≡ false → refused w (record { worker = k; kind = More t n }) ≡ or_else (marking_cause w t) (refused_if (left_in (heap_of l t) == 0) Marked None)
  some_answer n h =
      refused_is w I (record { worker = k; kind = More t n })
      ∙ (ap (λ o. or_else o (kind_refusal w.program w.settings l k (More t n))) (none_of (first_cause w.end w.steps w.settings k false) h) ∙ (marks_refuse w k t I (on_is w I k false h)).more n)

  -- what follows if an entry isn't refused
  pub mark_asks : refused w (record { worker = k; kind = Mark t }) ≡ None → AsksWaiting w t
  mark_asks free =
      let on = entry_on w (record { worker = k; kind = Mark t }) free in
      record { I = I; on = on; free = (or_none (waiting_cause w t) _ (sym (marks_refuse w k t I on).mark ∙ kind_free w (record { worker = k; kind = Mark t }) free)).0 }

  pub some_asks : (n : ℕ) → refused w (record { worker = k; kind = More t n }) ≡ None → AsksMarked w t
  some_asks n free =
      let on = entry_on w (record { worker = k; kind = More t n }) free in
      record { I = I; on = on; free = (or_none (marking_cause w t) _ (sym ((marks_refuse w k t I on).more n) ∙ kind_free w (record { worker = k; kind = More t n }) free)).0 }

-- what it keeps
pub kept_noted : (o : Option SetOf) → kept_of o ≡ (noted_in o).kept
kept_noted None = refl
kept_noted (Some s) = refl

module _ {w : SharedValue} {t : ℕ} (asks : AsksWaiting w t) where
  open asks use {I, on}
  open (heap_names w t) use {v, a}

  abbrev ss : List RefField
  ss = sources_of (slice_get w.sets t)

  -- THE WORDS of the heap
  pub words_now : (r : ParkedTask) → rest_at w.rests t ≡ Some r → words_in (accounts w).machine a ≡ held_words r.heap.chunks
  words_now r there = words_are v (accounts w) t r.heap.chunks (stands_now w I on).belongings (waiting_rests w I on t (task_slots.wait asks)) (chunks_at_rest w t r there) (I.heaps t r there).tidy

  -- THE MARKING that begins
  mark_goes : (r : ParkedTask) → rest_at w.rests t ≡ Some r → (m : MarkingValue) → ((kept : List Addr) → IsOf r.heap.chunks kept m)
      → ((f : Fork) (kept : List Addr) → f.roots ≡ starts_of w t → ((a : Addr) → HasObjectAt f.heap a ↔ HasObjectAt r.heap.chunks a) → IsMarking f kept m) → CanGoOnMarking v t a.snapshot m
  mark_goes r there m own marking =
      marks_begin w t r (starts_of w t) m I on there (task_slots.wait asks) (task_slots.keeps asks) (starts_are w I on t r there (task_slots.wait asks)) (own (kept v t))
      (marking (record { heap = r.heap.chunks; roots = starts_of w t }) (kept v t) refl (λ a. ((λ h. h), (λ h. h))))

  pub mark_fields : AreFields resting_references (heaps_of w) ss
  mark_fields = let r = task_slots.rest asks in fields_there w I on t r.0 r.1 (task_slots.wait asks)

  -- it begins at objects of the heap
  pub mark_starts : IfSome (rest_at w.rests t) (λ r. All (HasObjectAt r.heap.chunks) (starts_in (heaps_of w) ss r))
  mark_starts = mark_starts_by_cases (rest_at w.rests t) refl
    where
      mark_starts_by_cases : (o : Option ParkedTask) → rest_at w.rests t ≡ o → IfSome o (λ r. All (HasObjectAt r.heap.chunks) (starts_in (heaps_of w) ss r))
      mark_starts_by_cases None e = tt
      mark_starts_by_cases (Some r) e = subst (All (HasObjectAt r.heap.chunks)) (ap (starts_by (heaps_of w) ss) e) (starts_held w I on t r e (task_slots.wait asks) (task_slots.keeps asks))

  -- and goes on to exactly the snapshot
  pub mark_begun : (m : MarkingValue) → IfSome (rest_at w.rests t) (λ r. MarkingHasBegun r.heap.chunks (starts_in (heaps_of w) ss r) m) → (m.marked ≡ 0) × CanGoOnMarking v t a.snapshot m
  mark_begun m B =
      let r = task_slots.rest asks in
      let b : MarkingHasBegun r.0.heap.chunks (starts_in (heaps_of w) ss r.0) m = subst (λ (o : Option ParkedTask). IfSome o (λ x. MarkingHasBegun x.heap.chunks (starts_in (heaps_of w) ss x) m)) r.1 B in
      (b.none, mark_goes r.0 r.1 m b.own (λ f kept e. b.marking f kept (e ∙ ap (starts_by (heaps_of w) ss) r.1)))

-- WHAT THEY KEEP

module _ (w : SharedValue) (I : IsSharedValue w) (k t : ℕ) (m : MarkingValue) (marks : List (Option MarkingValue)) (room : ℕ) (at : marks_at marks t ≡ Some m) (others : (u : ℕ) → (u ≡ t → ⊥) → marks_at marks u ≡ marks_at w.marks u) where
  -- a marking that has marked nothing yet
  pub mark_enters : refused w (record { worker = k; kind = Mark t }) ≡ None → m.marked ≡ 0 → CanGoOnMarking (value_of w) t (heap_of (accounts w) t).snapshot m
      → IsSharedValue (marked_more w (record { worker = k; kind = Mark t }) marks room) × EachPartStillFits w (marked_more w (record { worker = k; kind = Mark t }) marks room)
  mark_enters free none G =
      let l : Ledger = accounts w in
      let S : SoundLedger l = legal_sound w.program w.settings w.journal.items I.legal in
      let x = task_slots.task (mark_asks w I k t free) in
      let h = heap_there l.machine.tasks l.heaps t S.lengths (got_within l.machine.tasks t x.0 x.1) in
      let f : Heap → Heap = λ h. record h { marked = Some 0 } in
      let then_ : (heap_of (with_heap l t f) t).marked ≡ Some 0 = ap (λ o. (or_fresh o).marked) (with_at l t f ∙ ap (heap_then f) h.1) in
      marks_enter w k (Mark t) t m marks room I free refl at others (then_ ∙ ap Some (ap (λ n. length (take n m.found)) (sym none))) G

-- more objects are marked
module _ (w : SharedValue) (I : IsSharedValue w) (k t n : ℕ) (free : refused w (record { worker = k; kind = More t n }) ≡ None) (r : ParkedTask) (m m' : MarkingValue) (count : ℕ) (there : rest_at w.rests t ≡ Some r) (at : marks_at w.marks t ≡ Some m)
    (own : IsOf r.heap.chunks (kept (value_of w) t) m') (sum : m'.marked ≡ m.marked + count) (most : count ≤ n) (marking : (f : Fork) → IsSince f (kept (value_of w) t) r.heap.chunks → IsMarking f (kept (value_of w) t) m → IsMarking f (kept (value_of w) t) m')
    (left : (f : Fork) → IsSince f (kept (value_of w) t) r.heap.chunks → IsMarking f (kept (value_of w) t) m → count < n → IsAllMarked f (kept (value_of w) t) m') where
  abbrev asked : AsksMarked w t
  asked = some_asks w I k t n free

  goes : CanGoOnMarking (value_of w) t (heap_of (accounts w) t).snapshot m'
  goes = (further asked r m there at).further m' own marking

  counts : (count ≡ min n (left_in (heap_of (accounts w) t))) × ((heap_of (after w.program w.settings (accounts w) (record { worker = k; kind = More t n })) t).marked ≡ Some (length (marked_of m')))
  counts = marks_count w k t r m m' n count I asked.on there (task_slots.wait (waits asked)) (task_slots.keeps (waits asked)) at goes sum most (λ lt f since is. left f since is lt)

  pub some_count : count ≡ min n (left_in (heap_of (accounts w) t))
  some_count = counts.0

  pub some_enters : (marks : List (Option MarkingValue)) (room : ℕ) → marks_at marks t ≡ Some m' → ((u : ℕ) → (u ≡ t → ⊥) → marks_at marks u ≡ marks_at w.marks u)
      → IsSharedValue (marked_more w (record { worker = k; kind = More t n }) marks room) × EachPartStillFits w (marked_more w (record { worker = k; kind = More t n }) marks room)
  some_enters marks room here others = marks_enter w k (More t n) t m' marks room I free refl here others counts.1 goes

-- a marking that was taken out and put back
pub put_back : (ms : List (Option MarkingValue)) (t : ℕ) (o : Option MarkingValue) (m : MarkingValue) → t < length ms → (marks_at (slice_set (slice_set ms t o) t (Some m)) t ≡ Some m) × ((u : ℕ) → (u ≡ t → ⊥) → marks_at (slice_set (slice_set ms t o) t (Some m)) u ≡ marks_at ms u)
put_back ms t o m lt = (
  ap option_flatten (got_same (slice_set ms t o) t o (Some m) (got_set ms t o lt)),
  λ u ne. ap option_flatten (got_other (slice_set ms t o) t u (Some m) ne ∙ got_other ms t u o ne),
)
