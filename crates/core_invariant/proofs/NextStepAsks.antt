-- What a part knows of its accounts after its fresh steps: the words that the next step allocates, the room, the words
-- placed.
use Rattle.core_invariant.proofs.Common.{◌≡◌, ℕ, ◌+◌, ◌≤◌, arith, Option, Some, None, slice_get, refl, ap, ap₂, sym, subst, ◌∙◌, cond-true, same_Some, Instr, Newm, Pack, Line, ProgramText, Frame as ModelFrame, MachineState, counts_in, words_asked, words_for, asked, asked_by, asked_line, fetched, is_running, Heap, Ledger, heap_of, or_fresh, task_steps, saturating_words, room_of, CallFrame, int_of, rested_view, rested_worker, BelongingsStand, ahead, with_belongings, Belongings, at_belongings, Private, HasReservedUnits, HeapMatchesAccount, FitsNow as FitsMachine, FrameStands, Places, same_line, int_same, words_for_some, SharedValue, accounts, value_of, IsSharedValue, WorkerPartFits, belongings_of_part, part_of, instr_asks, line_asks, part_asks}
use Rattle.core_invariant.proofs.PartFitsMachine as link
use Rattle.core_invariant.proofs.StepsEntered.{counted_now}

-- ---- THE WORDS THAT THE NEXT STEP ALLOCATES

instr_same : (place : Places) (limit : ℕ) (f : ModelFrame) (g : CallFrame) → FrameStands place f g → (i : Instr) → words_asked limit f i ≡ instr_asks limit g i
instr_same place limit f g S (Newm d a b) = ap₂ (λ x y. words_for (counts_in limit x y)) (sym (int_same place f g a S)) (sym (int_same place f g b S))
instr_same place limit f g S (Pack d r i) = refl
instr_same place limit f g S _ = refl

line_same : (place : Places) (limit : ℕ) (f : ModelFrame) (g : CallFrame) → FrameStands place f g → (o : Option Line) → asked_line limit f o ≡ line_asks limit g o
line_same place limit f g S None = refl
line_same place limit f g S (Some line) = instr_same place limit f g S line.instr

pub asked_same : (p : ProgramText) (part : Private) (m : MachineState) (above : Places) → (G : FitsMachine p part m above) → asked p m part.task ≡ part_asks p part
asked_same p part m above G =
    ap (asked_by p m) G.is
    ∙ (cond-true (is_running (Some G.task)) (asked_line m.field_limit G.task.top (fetched p G.task.top)) None G.running
    ∙ (line_same G.place m.field_limit G.task.top part.frames.top G.stack.top (fetched p G.task.top)
    ∙ ap₂ (λ n o. line_asks n part.frames.top o) (sym G.limit) (sym (same_line p part m above G))))

-- an object has at least two words
instr_two : (limit : ℕ) (f : CallFrame) (i : Instr) (w : ℕ) → instr_asks limit f i ≡ Some w → 2 ≤ w
instr_two limit f (Newm d a b) w e = words_for_some (counts_in limit (int_of f a) (int_of f b)) w e
instr_two limit f (Pack d r i) w e = let q : 2 + r + i ≡ w = same_Some (2 + r + i) w e in omega (arith, q)
instr_two limit f _ w e = absurd cc

pub asks_two : (limit : ℕ) (f : CallFrame) (o : Option Line) (w : ℕ) → line_asks limit f o ≡ Some w → 2 ≤ w
asks_two limit f None w e = absurd cc
asks_two limit f (Some line) w e = instr_two limit f line.instr w e

-- ---- A PART THAT FITS, before the run's end

some_account : (o : Option Heap) (k : ℕ) → (or_fresh o).worker ≡ Some k → (h : Heap) × (o ≡ Some h)
some_account None k e = absurd cc
some_account (Some h) k e = (h, refl)

module _ (w : SharedValue) (k : ℕ) (p : Private) (I : IsSharedValue w) (F : WorkerPartFits w k p) (on : (accounts w).end ≡ None) where
  abbrev t : ℕ
  t = p.task

  abbrev M : Ledger
  M = task_steps w.program (accounts w) p.task p.fresh

  abbrev L : Ledger
  L = ahead w.program (part_of w.settings p) (accounts w)

  abbrev h : Belongings
  h = belongings_of_part p

  pub belongings_stand : BelongingsStand (with_belongings (value_of w) t h) L t
  belongings_stand = (link.V w k p I F on).stands.belongings t (rested_worker M t)

  abbrev own_belongings : (with_belongings (value_of w) t h).belongings t ≡ h
  own_belongings = at_belongings (value_of w) t h

  -- its next step allocates as many words as that of its task in the accounts
  pub asks_is : asked w.program M.machine t ≡ part_asks w.program p
  asks_is =
      ap (λ (m : MachineState). asked w.program m t) (sym (link.machine_is w k p I F on))
      ∙ asked_same w.program p L.machine _ (link.first_fits w k p I F on)

  pub since_is : p.heap.since ≡ (heap_of M t).since
  since_is = ap (λ (z : Belongings). z.since) (sym own_belongings) ∙ (belongings_stand.since ∙ rested_view (λ (z : Heap). z.since) (λ z. refl) M t)

  pub room_is : room_of p.heap ≡ (heap_of M t).room
  room_is = ap (λ (z : Belongings). z.room) (sym own_belongings) ∙ (belongings_stand.room ∙ rested_view (λ (z : Heap). z.room) (λ z. refl) M t)

  C : HeapMatchesAccount p.heap (heap_of L t)
  C = counted_now w k p I F on

  pub counted_is : HeapMatchesAccount p.heap (heap_of M t)
  counted_is = record {
    chunks = C.chunks ∙ rested_view (λ (z : Heap). z.chunks) (λ z. refl) M t;
    large = C.large ∙ rested_view (λ (z : Heap). z.large) (λ z. refl) M t;
    last = C.last;
    last_large = C.last_large;
    room = C.room ∙ rested_view (λ (z : Heap). z.room) (λ z. refl) M t;
    since = C.since ∙ ap saturating_words (rested_view (λ (z : Heap). z.since) (λ z. refl) M t);
    reserved = subst (HasReservedUnits p.heap.chunks p.heap.reserved) (rested_view (λ (z : Heap). z.reserved) (λ z. refl) M t) C.reserved;
  }

  -- the worker holds the task, which has an account
  pub account_is : (z : Heap) × (slice_get M.heaps t ≡ Some z)
  account_is = some_account (slice_get M.heaps t) k (link.worker_then w k p I F on)
