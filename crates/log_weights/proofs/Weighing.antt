-- The weights of strands, one after another, and those of a walk.
use Rattle.log_weights.proofs.Common.{◌≡◌, ◌≤◌, ◌<◌, ◌+◌, ◌^◌, ◌++◌, ◌∷◌, ◌∙◌, ℕ, List, [], length, get_or, take, sym, ap, subst, Some, None, slice_get, arith, sum, take_more, map-append, sum-map, get_or-le-sum_by, got_map, GraphTurn, GraphStrand, tasks_in, IsNested, SpawnsBelow, serial_order, IsSpan, WalkValue, IsWalked, AreWeights, IsSpanOf, LogTasks, Event, weight_of, weights_of, fitting}
use Rattle.log_weights.proofs.Fitting.{too_much, fit_is}

module _ (events : List Event) (tasks : LogTasks) (order : List GraphStrand) (i : ℕ) (d : GraphStrand) (lt : i < length order) where
  -- the next strand's weight was added
  pub weights_more : (weights new : List ℕ) (weight : ℕ) → new ≡ weights ++ weight ∷ [] → weights ≡ weights_of events tasks (take i order) → Some weight ≡ fitting (weight_of events tasks (get_or order i d))
      → new ≡ weights_of events tasks (take (i + 1) order)
  weights_more weights new weight pushed are is =
      pushed
      ∙ ap (λ (ws : List ℕ). ws ++ weight ∷ []) are
      ∙ ap (λ (w : ℕ). weights_of events tasks (take i order) ++ w ∷ []) (fit_is (weight_of events tasks (get_or order i d)) weight is)
      ∙ sym (ap (weights_of events tasks) (take_more order i d lt) ∙ map-append (weight_of events tasks) (take i order) (get_or order i d ∷ []))

  -- it doesn't fit
  pub one_too_much : fitting (weight_of events tasks (get_or order i d)) ≡ None → 2 ^ 64 ≤ sum (weights_of events tasks order)
  one_too_much e =
      let least = too_much (weight_of events tasks (get_or order i d)) e in
      let part = get_or-le-sum_by (weight_of events tasks) order i d lt in
      subst (λ (n : ℕ). 2 ^ 64 ≤ n) (sym (sum-map (weight_of events tasks) order)) (omega (arith, least, part))

pub are_weights : (events : List Event) (tasks : LogTasks) (order : List GraphStrand) (weights : List ℕ) → weights ≡ weights_of events tasks order → AreWeights order weights (weight_of events tasks)
are_weights events tasks order weights is i u e = ap (λ (ws : List ℕ). slice_get ws i) is ∙ got_map (weight_of events tasks) order i u e

-- the walk is that of the tasks
module _ (events : List Event) (tasks : LogTasks) (walk : WalkValue) (walked : IsWalked walk) (turns : walk.tasks ≡ tasks.turns) (order : List GraphStrand) (same : order ≡ walk.order) where
  pub some : 0 < length tasks.turns
  some = subst (λ (rows : List (List GraphTurn)). 0 < length rows) turns walked.some

  pub nested : IsNested (tasks_in tasks.turns)
  nested = subst (λ (rows : List (List GraphTurn)). IsNested (tasks_in rows)) turns walked.nested

  pub below : SpawnsBelow (tasks_in tasks.turns) (length tasks.turns)
  below = subst (λ (rows : List (List GraphTurn)). SpawnsBelow (tasks_in rows) (length rows)) turns walked.below

  pub ordered : order ≡ serial_order (tasks_in tasks.turns) (length tasks.turns)
  ordered = same ∙ walked.order ∙ ap (λ (rows : List (List GraphTurn)). serial_order (tasks_in rows) (length rows)) turns

  pub span_is : (weights : List ℕ) (span : ℕ) → weights ≡ weights_of events tasks order → IsSpanOf (tasks_in tasks.turns) order weights span → IsSpan (tasks_in walk.tasks) (weight_of events tasks) span
  span_is weights span are is =
      subst (λ (rows : List (List GraphTurn)). IsSpan (tasks_in rows) (weight_of events tasks) span) (sym turns) (is (weight_of events tasks) (are_weights events tasks order weights are))
