-- What is known of a heap that is being marked.
use Rattle.heap_marking.proofs.Common.{◌≡◌, ◌==◌, ◌↔◌, ℕ, ◌<◌, Bool, true, false, IsTrue, Option, Some, None, List, is_some, length, slice_get, refl, sym, subst, option_flatten, eqb-true, got_within, is_waiting, Refused, NotMarking, refused_unless, heap_of, left_in, IsAllMarked, IsMarking, MarkingValue, Fork, IsSince, MarkedBy, kept, ParkedTask, or_else, SharedValue, marks_at, rest_at, value_of, stands_now, waiting_cause, Further, MarkedHeapStands}
use Rattle.std.proofs.lemmas.Bool.{eq-eqb}
use Rattle.heap_marking.proofs.MarkingGoesOn.{marks_go_further}
use Rattle.heap_marking.proofs.WaitingSlot.{keeps, rest, some_of, wait}
use Rattle.heap_marking.proofs.HeapAsked.{AsksMarked, AsksWaiting, heap_names}

-- there is no cause
or_none : (o : Option Refused) (b : Bool) → or_else o (refused_unless b NotMarking None) ≡ None → (o ≡ None) × (b ≡ true)
or_none (Some c) b e = absurd cc
or_none None false e = absurd cc
or_none None true e = (refl, refl)

module _ {w : SharedValue} {t : ℕ} (asks : AsksMarked w t) where
  open asks use {I, on, free}
  open (heap_names w t) use {l, v}

  tells : (waiting_cause w t ≡ None) × (is_some (marks_at w.marks t) ≡ true)
  tells = or_none (waiting_cause w t) (is_some (marks_at w.marks t)) free

  pub waits : AsksWaiting w t
  waits = record { I = I; on = on; free = tells.0 }

  pub marks : (m : MarkingValue) × (marks_at w.marks t ≡ Some m)
  marks = some_of (marks_at w.marks t) tells.1

  pub never_unmarked : marks_at w.marks t ≡ None → ⊥
  never_unmarked none = never_unmarked_by_cases (marks_at w.marks t) none tells.1
    where
      never_unmarked_by_cases : (o : Option MarkingValue) → o ≡ None → is_some o ≡ true → ⊥
      never_unmarked_by_cases None e h = absurd cc
      never_unmarked_by_cases (Some x) e h = absurd cc

  pub marks_within : t < length w.marks
  marks_within = within w.marks (tells.1)
    where
      within : (ms : List (Option MarkingValue)) → is_some (marks_at ms t) ≡ true → t < length ms
      within ms h = within_by_cases (slice_get ms t) refl h
        where
          within_by_cases : (o : Option (Option MarkingValue)) → slice_get ms t ≡ o → is_some (option_flatten o) ≡ true → t < length ms
          within_by_cases None e h = absurd cc
          within_by_cases (Some o) e h = got_within ms t o e

  module _ (r : ParkedTask) (m : MarkingValue) (there : rest_at w.rests t ≡ Some r) (at : marks_at w.marks t ≡ Some m) where
    M : MarkedBy v l t (Some m)
    M = subst (MarkedBy v l t) at ((stands_now w I on).marks t (keeps waits))

    pub further : Further w t r m
    further = marks_go_further w t r m I on there (wait waits) (keeps waits) M.1

    ready_by : (b : Bool) (n : ℕ) → (IsTrue b ↔ (n ≡ 0)) → b ≡ (n == 0)
    ready_by true n e = sym (eq-eqb n 0 (e.0 refl))
    ready_by false n e = not_eq (n == 0) (λ q. no (e.1 (eqb-true n 0 q)))
      where
        no : IsTrue false → ⊥
        no q = absurd cc

        not_eq : (c : Bool) → (c ≡ true → ⊥) → false ≡ c
        not_eq true f = absurd (f refl)
        not_eq false f = refl

    -- nothing is left if all is marked
    pub left_by : (b : Bool) → ((f : Fork) → IsSince f (kept v t) r.heap.chunks → IsMarking f (kept v t) m → IsTrue b ↔ IsAllMarked f (kept v t) m) → b ≡ (left_in (heap_of l t) == 0)
    left_by b ready =
        let F : Further w t r m = further in
        let R = ready F.fork F.since F.marks in
        let L = F.left M.0 in
        ready_by b (left_in (heap_of l t)) ((λ h. L.0 (R.0 h)), (λ z. R.1 (L.1 z)))

pub marked_heap_stands : MarkedHeapStands
marked_heap_stands w t I on free =
    let asks : AsksMarked w t = record { I = I; on = on; free = free } in
    let on_heap = waits asks in
    let r = rest on_heap in
    let m = marks asks in
    record { wait = wait on_heap; keeps = keeps on_heap; rest = r.0; there = r.1; marks = m.0; at = m.1; further = further asks r.0 m.0 r.1 m.1; left = left_by asks r.0 m.0 r.1 m.1 }
