-- What is known of a completely marked heap before it is swept.
use Rattle.heap_marking.proofs.Common.{◌≡◌, ℕ, zero, suc, arith, not, true, Option, Some, None, slice_get, refl, ap, sym, subst, ◌∙◌, contains_from_in, in_from_contains, in_map, same_truth, TaskStatus, Running, Waiting, Ended, Joined, Task, is_running, is_waiting, runs, waits, held_in, left_in, holds_name, snapshots_are_held, holds_from_in, in_from_holds, chunks_are_used, room_of, IsDone, has_address, marked_of, has_in, in_has, all_marked_is_done, Rests, AreLaidOut, MarkedBy, kept as kept_of, ChunksHaveNames, BelongingsStand, Belongings, In, object_name, objects, objects_of_chunks, StandsFor, Located, marks_are_all, HasReservedUnits, ParkedTask, Work, Calls, Result, chunk_of, chunks_of, SharedValue, belongings_by, belongings_in, belongings_of, tree_counts_of, HeapForm, counted_from, reserved_none, stands_now, StandsMarked}
use Rattle.heap_marking.proofs.MarkBegun as begun
use Rattle.heap_marking.proofs.MarkedHeap.{marked_heap_stands}
use Rattle.heap_marking.proofs.SweptChunks.{Agrees}
use Rattle.heap_marking.proofs.SweptForm.{HoldLarge}
use Rattle.heap_marking.proofs.HeapAsked.{AsksMarked, heap_names}

-- a task doesn't both run and wait
apart : (o : Option Task) → is_running o ≡ true → is_waiting o ≡ true → ⊥
apart None a b = absurd cc
apart (Some x) a b = apart_by_cases x.status a b
  where
    apart_by_cases : (s : TaskStatus) → runs s ≡ true → waits s ≡ true → ⊥
    apart_by_cases Running a b = absurd cc
    apart_by_cases Waiting a b = absurd cc
    apart_by_cases (Ended n q) a b = absurd cc
    apart_by_cases Joined a b = absurd cc

pub room_there : (r : ParkedTask) → (belongings_of r).room ≡ room_of r.heap
room_there r = room_there_by_cases r.work
  where
    room_there_by_cases : (x : Work) → (belongings_by r.heap r.view r.allocations x).room ≡ room_of r.heap
    room_there_by_cases (Calls s) = refl
    room_there_by_cases (Result n b) = refl

pub since_there : (r : ParkedTask) → (belongings_of r).since ≡ r.heap.since
since_there r = since_there_by_cases r.work
  where
    since_there_by_cases : (x : Work) → (belongings_by r.heap r.view r.allocations x).since ≡ r.heap.since
    since_there_by_cases (Calls s) = refl
    since_there_by_cases (Result n b) = refl

module _ {w : SharedValue} {t : ℕ} (asks : AsksMarked w t) where
  open asks use {I, on, free}
  open (heap_names w t) use {l, v, a}

  pub Z : StandsMarked w t
  Z = marked_heap_stands w t I on free

  abbrev pub S : StandsFor v (tree_counts_of w) l
  S = stands_now w I on

  pub rests : Rests l t
  rests = begun.waiting_rests w I on t Z.wait

  pub M : MarkedBy v l t (Some Z.marks)
  M = subst (MarkedBy v l t) Z.at (S.marks t Z.keeps)

  pub form : HeapForm Z.rest.heap
  form = I.heaps t Z.rest Z.there

  pub H : BelongingsStand v l t
  H = S.belongings.belongings t rests

  pub own_belongings : v.belongings t ≡ belongings_of Z.rest
  own_belongings = ap belongings_in Z.there

  pub chunks_here : (v.belongings t).chunks ≡ chunks_of Z.rest.heap.chunks
  chunks_here = begun.chunks_at_rest w t Z.rest Z.there

  pub laid : AreLaidOut (chunks_of Z.rest.heap.chunks) a.reserved
  laid = subst (λ cs. AreLaidOut cs a.reserved) chunks_here H.laid

  pub names : ChunksHaveNames (chunks_of Z.rest.heap.chunks) a
  names = subst (λ cs. ChunksHaveNames cs a) chunks_here H.names

  pub room : room_of Z.rest.heap ≡ a.room
  room = sym (room_there Z.rest) ∙ (ap (λ (h : Belongings). h.room) (sym own_belongings) ∙ H.room)

  pub since : Z.rest.heap.since ≡ a.since
  since = sym (since_there Z.rest) ∙ (ap (λ (h : Belongings). h.since) (sym own_belongings) ∙ H.since)

  -- no chunk is reserved while the task waits
  pub nothing_reserved : a.reserved ≡ 0
  nothing_reserved = nothing_reserved_by_cases a.reserved refl
    where
      nothing_reserved_by_cases : (n : ℕ) → a.reserved ≡ n → a.reserved ≡ 0
      nothing_reserved_by_cases zero e = e
      nothing_reserved_by_cases (suc n) e = absurd (apart (slice_get l.machine.tasks t) ((chunks_are_used w.program w.settings w.journal.items I.legal).reserved t (omega (arith, e))).runs Z.wait)

  pub none : Z.rest.heap.reserved ≡ None
  none = reserved_none Z.rest.heap form Z.rest.heap.reserved refl (subst (HasReservedUnits Z.rest.heap.chunks Z.rest.heap.reserved) nothing_reserved (counted_from Z.rest.heap a form names room since laid.reserved).reserved)

  pub large : HoldLarge Z.rest.heap.chunks
  large k i q = laid.large (chunk_of k) (in_map chunk_of Z.rest.heap.chunks k i) (ap not q)

  -- its objects in the value
  pub object_there : (o : Located) → In (objects_of_chunks (chunks_of Z.rest.heap.chunks)) o → In (objects v t) o
  object_there o i = subst (λ cs. In (objects_of_chunks cs) o) (sym chunks_here) i

  module _ (none_left : left_in a ≡ 0) where
    -- what is marked is exactly what the snapshot names
    pub agree : Agrees (marked_of Z.marks) (holds_name a.snapshot) (objects_of_chunks (chunks_of Z.rest.heap.chunks))
    agree o i = same_truth (has_address (marked_of Z.marks) o.at) (holds_name a.snapshot (object_name o)) named marked
      where
        named : has_address (marked_of Z.marks) o.at ≡ true → holds_name a.snapshot (object_name o) ≡ true
        named e =
            let q = M.0.each o.at (has_in (marked_of Z.marks) o.at e) in
            let same : q.0 ≡ o = H.once q.0 o q.1 (object_there o i) q.2 in
            holds_from_in a.snapshot (object_name o) (subst (λ (x : Located). In a.snapshot (object_name x)) same q.3)

        marked : holds_name a.snapshot (object_name o) ≡ true → has_address (marked_of Z.marks) o.at ≡ true
        marked e =
            let held = snapshots_are_held w.program w.settings w.journal.items t I.legal Z.wait in
            in_has (marked_of Z.marks) o.at
            ((marks_are_all v l t (marked_of Z.marks) S.belongings rests held.once (λ n j. in_from_contains (held_in a) n (held.held n (contains_from_in a.snapshot n j))) M.0).0 none_left o (object_there o i) (in_from_holds a.snapshot (object_name o) e))

    -- and all that was found is marked
    pub done : IsDone Z.marks
    done = all_marked_is_done Z.further.fork (kept_of v t) Z.marks Z.rest.heap.chunks Z.further.own Z.further.marks ((Z.further.left M.0).1 none_left)
