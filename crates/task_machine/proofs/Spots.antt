-- Allocations that are ready.
use Rattle.task_machine.proofs.Common.{◌≡◌, ℕ, Bool, true, false, cond, is_some, refl, nat_le, place_for, Private, Due, NeedChunk, Plan, Pause, allocating, PlanIsReady}

-- an allocation is ready if it is once its object has a place
either_ready : (part : Private) (b : Bool) (p q : Plan) → (b ≡ true → PlanIsReady part p) → PlanIsReady part q → PlanIsReady part (cond b p q)
either_ready part true p q f h = f refl
either_ready part false p q f h = h

pub alloc_ready : (part : Private) (w : ℕ) (plan : Plan) → (is_some (place_for part.heap w) ≡ true → PlanIsReady part plan) → PlanIsReady part (allocating part w plan)
alloc_ready part w plan f = alloc_ready_by_cases (nat_le part.leaf_limit part.heap.since)
  where
    alloc_ready_by_cases : (b : Bool) → PlanIsReady part (cond b (Pause Due) (cond (is_some (place_for part.heap w)) plan (Pause NeedChunk)))
    alloc_ready_by_cases true = tt
    alloc_ready_by_cases false = either_ready part (is_some (place_for part.heap w)) plan (Pause NeedChunk) f tt
