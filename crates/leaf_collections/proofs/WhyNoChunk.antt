-- Why no chunk is given to a part.
use Rattle.leaf_collections.proofs.Common.{◌≡◌, ℕ, true, false, Option, Some, None, is_none, is_some, nat_le, refl, ap, ap₂, sym, ◌∙◌, none_of, asked, EntryValue, Heap, Ledger, Refused, Collecting, Due, NotNeeded, heap_of, lacks_room, is_due, is_in_need, on_asked, is_fuel, kind_refusal, on_running, refused_if, refused_unless, place_for, room_of, Private, lacks_same, SharedValue, accounts, IsSharedValue, WorkerPartFits, next_line, part_asks, chunk_cause, first_cause, need_cause, or_else, refused, asks_is, asks_two, counted_is, room_is, since_is, at_part, on_is, refused_is, found_first}
use Rattle.core_invariant.specs.below.run_trace.{Chunk}

unless_none : {A : Type 0} (o : Option A) (c : Refused) → refused_unless (is_none o) c None ≡ refused_if (is_some o) c None
unless_none None c = refl
unless_none (Some x) c = refl

module _ (w : SharedValue) (k : ℕ) (p : Private) (I : IsSharedValue w) (F : WorkerPartFits w k (record p { fresh = 0 })) (on : (accounts w).end ≡ None) where
  abbrev P : Private
  P = record p { fresh = 0 }

  abbrev l : Ledger
  l = accounts w

  abbrev t : ℕ
  t = p.task

  abbrev h : Heap
  h = heap_of l t

  -- the worker holds the task, and it is in no leaf collection
  pub at_work : p.begun ≡ None → (rest : Option Refused) → on_running l k t rest ≡ rest
  at_work none rest = at_part w k P F on rest ∙ ap (λ o. refused_if (is_some o) Collecting rest) none

  asks : asked w.program l.machine t ≡ part_asks w.program p
  asks = asks_is w k P I F on

  due_same : nat_le w.settings.leaf h.since ≡ nat_le p.leaf_limit p.heap.since
  due_same = ap₂ (λ a b. nat_le a b) (sym F.leaf_limit) (sym (since_is w k P I F on))

  by_asks : (o : Option ℕ) → asked w.program l.machine t ≡ o → refused_if (is_due w.settings w.program l t) (Due h.since) (refused_unless (is_in_need w.program l t) (NotNeeded h.room) None) ≡ need_cause p o
  by_asks None e =
      ap₂ (λ a b. refused_if a (Due h.since) (refused_unless b (NotNeeded h.room) None)) (ap (λ o. on_asked o (λ n. nat_le w.settings.leaf h.since)) e) (ap (λ o. on_asked o (lacks_room h)) e)
      ∙ ap (λ n. Some (NotNeeded n)) (sym (room_is w k P I F on))
  by_asks (Some words) e =
      let need : is_in_need w.program l t ≡ is_none (place_for p.heap words) =
      ap (λ o. on_asked o (lacks_room h)) e ∙ sym (lacks_same p.heap h F.form.shaped (counted_is w k P I F on) words (asks_two p.field_limit p.frames.top (next_line w.program p) words (sym asks ∙ e))) in
      ap₂ (λ a b. refused_if a (Due h.since) (refused_unless b (NotNeeded h.room) None)) (ap (λ o. on_asked o (λ n. nat_le w.settings.leaf h.since)) e ∙ due_same) need
      ∙ (ap₂ (λ s r. refused_if (nat_le p.leaf_limit p.heap.since) (Due s) (refused_unless (is_none (place_for p.heap words)) (NotNeeded r) None)) (sym (since_is w k P I F on)) (sym (room_is w k P I F on))
      ∙ ap (refused_if (nat_le p.leaf_limit p.heap.since) (Due p.heap.since)) (unless_none (place_for p.heap words) (NotNeeded (room_of p.heap))))

  pub chunk_is : kind_refusal w.program w.settings l k (Chunk t) ≡ chunk_cause p (part_asks w.program p)
  chunk_is =
      at_part w k P F on (refused_if (is_due w.settings w.program l t) (Due h.since) (refused_unless (is_in_need w.program l t) (NotNeeded h.room) None))
      ∙ ap (refused_if (is_some p.begun) Collecting) (by_asks (asked w.program l.machine t) refl ∙ ap (need_cause p) asks)

-- if no cause precedes it
pub chunk_answer : (w : SharedValue) (k : ℕ) (p : Private) → IsSharedValue w → WorkerPartFits w k (record p { fresh = 0 }) → is_some (first_cause w.end w.steps w.settings k false) ≡ false
    → refused w (record { worker = k; kind = Chunk p.task }) ≡ chunk_cause p (part_asks w.program p)
chunk_answer w k p I F h =
    refused_is w I (record { worker = k; kind = Chunk p.task })
    ∙ (ap (λ o. or_else o (kind_refusal w.program w.settings (accounts w) k (Chunk p.task))) (none_of (first_cause w.end w.steps w.settings k false) h) ∙ chunk_is w k p I F (on_is w I k false h))

-- or one does
pub first_answer : (w : SharedValue) → IsSharedValue w → (e : EntryValue) → is_some (first_cause w.end w.steps w.settings e.worker (is_fuel e.kind)) ≡ true → refused w e ≡ first_cause w.end w.steps w.settings e.worker (is_fuel e.kind)
first_answer w I e h = refused_is w I e ∙ sym (found_first (first_cause w.end w.steps w.settings e.worker (is_fuel e.kind)) (kind_refusal w.program w.settings (accounts w) e.worker e.kind) h)
