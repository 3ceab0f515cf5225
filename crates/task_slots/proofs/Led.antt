-- What is read and updated in the heaps that hold parked tasks is read and updated in the parked tasks.
use Rattle.task_slots.proofs.Common.{◌≡◌, Option, Some, None, List, [], ◌∷◌, fold, refl, Addr, RefField, target_of, new_reference, redirected, written, Heaps, heap_refs, resting_references, resting, with_heap_ref, with_ref_in, with_resting}

module _ (ms : List (Addr × Addr)) where
  step : (h : Heaps) (s : RefField) (ss : List RefField) (o : Option Addr) → ((g : Heaps) → fold (redirected heap_refs with_heap_ref ms) g ss ≡ with_resting g (fold (redirected resting_references with_ref_in ms) (resting g) ss))
      → fold (redirected heap_refs with_heap_ref ms) (written heap_refs with_heap_ref h s o) ss ≡ with_resting h (fold (redirected resting_references with_ref_in ms) (written resting_references with_ref_in (resting h) s o) ss)
  step h s ss None rest = rest h
  step h s ss (Some a) rest = rest (with_heap_ref h s.object s.field (Some a))

  pub led_rest : (h : Heaps) (ss : List RefField) → fold (redirected heap_refs with_heap_ref ms) h ss ≡ with_resting h (fold (redirected resting_references with_ref_in ms) (resting h) ss)
  led_rest h [] = refl
  led_rest h (s ∷ ss) = step h s ss (new_reference ms (target_of heap_refs h s)) (λ g. led_rest g ss)
