-- A call is planned only for a call instruction.
use Rattle.task_machine.proofs.Common.{ℕ, ◌+◌, Bool, true, false, cond, Option, Some, None, length, slice_get, unwrap_or, is_some, nat_le, nat_lt, pos, Cell, object_of, place_for, Instr, Set, Mov, Movr, Nil, Calc, Same, Jmp, Jz, Newm, Pack as PackOf, Getr, Geti, Putr, Puti, Cntr, Cnti, Freeze as FreezeOf, Cas, Call as CallOf, Par, Ret, Out, Line, ProgramText, line_at, counts_in, same_reference, int_of, ref_of, Private, Shared, Due, NeedChunk, Plan, Pause, Calculate, SetInt, SetReference, Return, New, WriteReference, WriteInt, Swap, Spot, is_calculation, counts_ints, counts_refs, own_or_shown, reads_int, reads_ref, shown_of, allocating, or_shared, own_in, planned, next_plan, planned_line, IsCallInstr, IsCallLine, IsCallPlan, StandsAtCall, plan_unless_frozen}
use Rattle.hh_model.specs.Effect.{place_in as field_in}
use Rattle.task_machine.specs.declared.plan.Plan.TheVariants.{Pack, Freeze}

abbrev Not : Plan → Type 0
Not q = IsCallPlan q → ⊥

either : (b : Bool) (q r : Plan) → Not q → Not r → Not (cond b q r)
either true q r f g = f
either false q r f g = g

shared : {A : Type 0} (o : Option A) (go : A → Plan) → ((x : A) → Not (go x)) → Not (or_shared o go)
shared None go f = λ h. h
shared (Some x) go f = f x

alloc : (part : Private) (w : ℕ) (q : Plan) → Not q → Not (allocating part w q)
alloc part w q f =
    either (nat_le part.leaf_limit part.heap.since) (Pause Due) (cond (is_some (place_for part.heap w)) q (Pause NeedChunk)) (λ h. h) (either (is_some (place_for part.heap w)) q (Pause NeedChunk) f (λ h. h))

module _ (part : Private) where
  abbrev spot : ℕ → Option Spot
  spot o = own_in part.heap.chunks (ref_of part.frames.top o)

  abbrev cell : Spot → Cell
  cell s = object_of part.heap.chunks s.object

  abbrev of_refs : Spot → ℕ → Option ℕ
  of_refs s k = field_in (length (cell s).refs) (int_of part.frames.top k)

  abbrev of_ints : Spot → ℕ → Option ℕ
  of_ints s k = field_in (length (cell s).ints) (int_of part.frames.top k)

  seen : (o : ℕ) (q : Option Spot) (go : Cell → Plan) → ((c : Cell) → Not (go c)) → Not (own_or_shown part (ref_of part.frames.top o) q go)
  seen o None go f = shared (shown_of part.view (ref_of part.frames.top o)) go f
  seen o (Some s) go f = f (object_of part.heap.chunks s.object)

  pub call_planned : (i : Instr) → IsCallPlan (planned part i) → IsCallInstr i
  call_planned (Set d k) h = h
  call_planned (Mov d a) h = h
  call_planned (Movr d a) h = h
  call_planned (Nil d) h = h
  call_planned (Calc op d a b) h = either (is_calculation part.frames.top (Calc op d a b)) (Calculate (Calc op d a b)) (Pause Shared) (λ h. h) (λ h. h) h
  call_planned (Same d a b) h = h
  call_planned (Jmp to) h = h
  call_planned (Jz a to) h = h
  call_planned (Newm d a b) h =
      shared (counts_in part.field_limit (int_of part.frames.top a) (int_of part.frames.top b)) (λ n. allocating part (2 + n.0 + n.1) (New d n.0 n.1)) (λ n. alloc part (2 + n.0 + n.1) (New d n.0 n.1) (λ h. h)) h
  call_planned (PackOf d r i) h = alloc part (2 + r + i) (Pack d r i) (λ h. h) h
  call_planned (Getr d o k) h =
      seen o (spot o) (reads_ref part.frames.top d k) (λ c. shared (field_in (length c.refs) (int_of part.frames.top k)) (λ at. SetReference d (unwrap_or (slice_get c.refs at) None)) (λ at h. h)) h
  call_planned (Geti d o k) h =
      seen o (spot o) (reads_int part.frames.top d k) (λ c. shared (field_in (length c.ints) (int_of part.frames.top k)) (λ at. SetInt d (unwrap_or (slice_get c.ints at) (pos 0))) (λ at h. h)) h
  call_planned (Putr o k v) h =
      shared (spot o) (λ s. or_shared (of_refs s k) (λ at. plan_unless_frozen (cell s) (WriteReference s at (ref_of part.frames.top v))))
      (λ s. shared (of_refs s k) (λ at. plan_unless_frozen (cell s) (WriteReference s at (ref_of part.frames.top v))) (λ at. either (cell s).mutable (WriteReference s at (ref_of part.frames.top v)) (Pause Shared) (λ h. h) (λ h. h))) h
  call_planned (Puti o k v) h =
      shared (spot o) (λ s. or_shared (of_ints s k) (λ at. plan_unless_frozen (cell s) (WriteInt s at (int_of part.frames.top v))))
      (λ s. shared (of_ints s k) (λ at. plan_unless_frozen (cell s) (WriteInt s at (int_of part.frames.top v))) (λ at. either (cell s).mutable (WriteInt s at (int_of part.frames.top v)) (Pause Shared) (λ h. h) (λ h. h))) h
  call_planned (Cntr d o) h = seen o (spot o) (counts_refs d) (λ c h. h) h
  call_planned (Cnti d o) h = seen o (spot o) (counts_ints d) (λ c h. h) h
  call_planned (FreezeOf o) h = shared (spot o) (λ s. Freeze s) (λ s h. h) h
  call_planned (Cas d o k e v) h =
      let swap : Spot → ℕ → Plan = λ s at. cond (same_reference (unwrap_or (slice_get (cell s).refs at) None) (ref_of part.frames.top e)) (Swap d s at (ref_of part.frames.top v)) (SetInt d (pos 0)) in
      shared (spot o) (λ s. or_shared (of_refs s k) (λ at. plan_unless_frozen (cell s) (swap s at)))
      (λ s. shared (of_refs s k) (λ at. plan_unless_frozen (cell s) (swap s at)) (λ at.
      either (cell s).mutable (swap s at) (Pause Shared)
      (either (same_reference (unwrap_or (slice_get (cell s).refs at) None) (ref_of part.frames.top e)) (Swap d s at (ref_of part.frames.top v)) (SetInt d (pos 0)) (λ h. h) (λ h. h)) (λ h. h))) h
  call_planned (CallOf g) h = tt
  call_planned (Par g k) h = h
  call_planned Ret h = either (nat_lt 0 (length part.frames.below)) Return (Pause Shared) (λ h. h) (λ h. h) h
  call_planned (Out a) h = h

call_line : (part : Private) (o : Option Line) → IsCallPlan (planned_line part o) → IsCallLine o
call_line part None h = h
call_line part (Some line) h = call_planned part line.instr h

-- if a call is planned next, the part is at one
pub call_stands : (p : ProgramText) (part : Private) → IsCallPlan (next_plan p part) → StandsAtCall p part
call_stands p part h = call_line part (line_at p part.frames.top.function part.frames.top.next) h
