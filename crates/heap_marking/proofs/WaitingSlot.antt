-- What is known of a task that waits and whose heap wasn't swept since its fork.
use Rattle.heap_marking.proofs.Common.{◌≡◌, ℕ, true, false, Bool, Option, Some, None, is_some, option_map, slice_get, refl, ap, sym, subst, ◌∙◌, Task, is_waiting, waits_is, wait_there, waiting_stops, NotWaiting, Swept, refused_unless, legal_idle, HoldsRead, LiesWithOwner, StandsFor, ParkedTask, SharedValue, noted_in, rest_at, tree_counts_of, value_of, stands_now, HasCalls, has_calls, some_calls, is_state_waiting}
use Rattle.heap_marking.proofs.MarkCauses.{waits_told}
use Rattle.heap_marking.proofs.HeapAsked.{AsksWaiting, heap_names}

-- there is no cause
causes_by : (a k : Bool) → refused_unless a NotWaiting (refused_unless k Swept None) ≡ None → (a ≡ true) × (k ≡ true)
causes_by false k e = absurd cc
causes_by true false e = absurd cc
causes_by true true e = (refl, refl)

pub some_of : {A : Type 0} (o : Option A) → is_some o ≡ true → (x : A) × (o ≡ Some x)
some_of None h = absurd cc
some_of (Some x) h = (x, refl)

module _ {w : SharedValue} {t : ℕ} (asks : AsksWaiting w t) where
  open asks use {I, on, free}
  open (heap_names w t) use {l, v}

  abbrev S : StandsFor v (tree_counts_of w) l
  S = stands_now w I on

  tells : (is_state_waiting (option_map (λ m. m.state) (slice_get w.tree t)) ≡ true) × ((noted_in (slice_get w.sets t)).keeps ≡ true)
  tells = causes_by (is_state_waiting (option_map (λ m. m.state) (slice_get w.tree t))) (noted_in (slice_get w.sets t)).keeps free

  pub wait : is_waiting (slice_get l.machine.tasks t) ≡ true
  wait = sym (waits_told w I t) ∙ tells.0

  pub keeps : ((value_of w).noted t).keeps ≡ true
  keeps = tells.1

  pub task : (x : Task) × (slice_get l.machine.tasks t ≡ Some x)
  task = wait_there (slice_get l.machine.tasks t) wait

  -- its slot exists
  calls : HasCalls (rest_at w.rests t)
  calls =
      let idle = legal_idle w.program w.settings w.journal.items I.legal on t (waiting_stops (slice_get l.machine.tasks t) wait) in
      has_calls (LiesWithOwner v l) (rest_at w.rests t) task.0 (subst (HoldsRead (LiesWithOwner v l) (v.belongings t) task.0) (waits_is task.0.status (ap is_waiting (sym task.1) ∙ wait)) (S.belongings.tasks t task.0 idle task.1))

  pub rest : (r : ParkedTask) × (rest_at w.rests t ≡ Some r)
  rest = some_of (rest_at w.rests t) (some_calls (rest_at w.rests t) calls)

  pub never_gone : rest_at w.rests t ≡ None → ⊥
  never_gone none = none_some (sym none ∙ rest.1)
    where
      none_some : {x : ParkedTask} → ◌≡◌ {A = Option ParkedTask} None (Some x) → ⊥
      none_some e = absurd cc
