-- Parts that entries have changed still fit.
use Rattle.task_machine.proofs.Common.{◌≡◌, ℕ, Option, ap, sym, subst, ◌∙◌, arith, LeafHeapValue, ProgramText, MachineState, is_running, owner_of, still, Begun, Private, Places, FitsAsWell, FitsFromThere, Fits, FitsNow, HeapStands, HeapIsShaped, after_fresh}

-- a part that differs in its heap, its fresh steps and its collection
abbrev pub changed : Private → LeafHeapValue → ℕ → Option Begun → Private
changed old h fresh begun = record old { heap = h; fresh = fresh; begun = begun }

-- it fits as it is now, if its heap stands for the same
pub now_changed : (p : ProgramText) (old : Private) (m : MachineState) (above : Places) (F : FitsNow p old m above) (h : LeafHeapValue) (fresh : ℕ) (begun : Option Begun)
    → HeapStands F.place (owner_of m.tasks) old.task m.store h.chunks above → HeapIsShaped h → FitsNow p (changed old h fresh begun) m above
now_changed p old m above F h fresh begun H S = record {
  reached = F.reached;
  going = F.going;
  task = F.task;
  is = F.is;
  running = F.running;
  limit = F.limit;
  count = F.count;
  place = F.place;
  stack = F.stack;
  heap = H;
  shape = S;
  shown = F.shown;
}

-- and after its fresh steps, if they are as many
pub behind_changed : (p : ProgramText) (old : Private) (m : MachineState) (above : Places) (F : Fits p old m above) (h : LeafHeapValue) (begun : Option Begun)
    → HeapStands F.now.place (owner_of (after_fresh p old m).tasks) old.task (after_fresh p old m).store h.chunks above → HeapIsShaped h → Fits p (changed old h old.fresh begun) m above
behind_changed p old m above F h begun H S = record { running = F.running; private = F.private; now = now_changed p old (after_fresh p old m) above F.now h old.fresh begun H S }

abbrev with_since : LeafHeapValue → ℕ → LeafHeapValue
with_since h n = record h { since = n }

since_shape : (h : LeafHeapValue) (n : ℕ) → HeapIsShaped h → HeapIsShaped (with_since h n)
since_shape h n S = record { apart = S.apart; current = S.current; reserved = S.reserved }

pub since_fits : (old : Private) (n : ℕ) → FitsAsWell old (record old { heap = with_since old.heap n })
since_fits old n = record {
  now = λ p m above F. now_changed p old m above F (with_since old.heap n) old.fresh old.begun F.heap (since_shape old.heap n F.shape);
  behind = λ p m above F. behind_changed p old m above F (with_since old.heap n) old.begun F.now.heap (since_shape old.heap n F.now.shape);
}

pub begun_fits : (old : Private) (begun : Option Begun) → FitsAsWell old (record old { begun = begun })
begun_fits old begun = record {
  now = λ p m above F. now_changed p old m above F old.heap old.fresh begun F.heap F.shape;
  behind = λ p m above F. behind_changed p old m above F old.heap begun F.now.heap F.now.shape;
}

-- a part fits as it is now, however many steps are fresh
pub fresh_fits : (old : Private) → FitsFromThere old (record old { fresh = 0 })
fresh_fits old = record {
  now = λ p m above F. now_changed p old m above F old.heap 0 old.begun F.heap F.shape;
  there = λ p m above F.
      let here = after_fresh p old m in
      let N = now_changed p old here above F.now old.heap 0 old.begun F.now.heap F.now.shape in
      let P : MachineState → Type 0 = λ w. FitsNow p (record old { fresh = 0 }) w above in
      record { running = ap is_running F.now.is ∙ F.now.running; private = λ i lt. absurd (omega arith); now = subst P (sym (still here F.now.going)) N };
}
