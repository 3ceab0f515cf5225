-- The graph of a log is a nested run.
use Rattle.log_tasks.proofs.Common.{◌≡◌, ◌<◌, ◌≤◌, ◌+◌, ◌^◌, ◌∷◌, ◌∙◌, ℕ, zero, suc, not, List, [], length, map, reverse, refl, sym, ap, subst, arith, length-append, slice_get, fun_ext, length-map, length-reverse, length-filter_both, strand_limit, GraphTurn, Spawn, Join, Extent, Whole, Cut, AreSmall, tasks_in, Does, IsNested, spawned_by, joins, unjoined, completed, with_joins, IsSoundRun, completed_spawn, completed_are_nested, graph_of, AreNestedTasks}

-- LENGTHS

few_spawned : (turns : List GraphTurn) → length (spawned_by turns) ≤ length turns
few_spawned [] = omega arith
few_spawned (Spawn c ∷ rest) = let le = few_spawned rest in omega (arith, le)
few_spawned (Join c ∷ rest) = let le = few_spawned rest in omega (arith, le)

few_completed : (turns : List GraphTurn) → length (completed turns) ≤ length turns + length turns
few_completed turns =
    let kept = length-filter_both (λ c. not (joins turns c)) (λ c. not (not (joins turns c))) (λ c. refl) (reverse (spawned_by turns)) in
    let few = few_spawned turns in
    omega (arith, length-append turns (map Join (unjoined turns)), length-map (unjoined turns) Join, kept, length-reverse (spawned_by turns), few)

-- A ROW OF THE GRAPH

row_of : (rows : List (List GraphTurn)) (t : ℕ) → tasks_in (map completed rows) t ≡ with_joins (tasks_in rows) t
row_of [] t = refl
row_of (r ∷ rs) zero = refl
row_of (r ∷ rs) (suc t) = row_of rs t

module _ (rows : List (List GraphTurn)) (some : 0 < length rows) (few : length rows ≤ 2 ^ 32) (short : (t : ℕ) → length (tasks_in rows t) < strand_limit) where
  small_whole : AreSmall rows
  small_whole = record { tasks = few; turns = λ t. (let s = short t in omega (arith, s)) }

  small_cut : AreSmall (map completed rows)
  small_cut = record {
    tasks = omega (arith, few, length-map rows completed);
    turns = λ t. (let s = short t in let c = few_completed (tasks_in rows t) in let e = ap length (row_of rows t) in omega (arith, s, c, e));
  }

  pub graph_nested : (extent : Extent) → IsSoundRun rows extent → AreNestedTasks (graph_of extent rows)
  graph_nested Whole sound = record { small = small_whole; some = some; nested = sound.nested; below = sound.below }
  graph_nested Cut sound = record {
    small = small_cut;
    some = omega (arith, some, length-map rows completed);
    nested = subst IsNested (sym (fun_ext (row_of rows))) (completed_are_nested (tasks_in rows) sound.fork_join);
    below = λ t i c d. below t i c d;
  }
    where
      below : (t i c : ℕ) → Does (tasks_in (map completed rows)) t i (Spawn c) → c < length (map completed rows)
      below t i c d =
          let told : Does (with_joins (tasks_in rows)) t i (Spawn c) = ap (λ (r : List GraphTurn). slice_get r i) (sym (row_of rows t)) ∙ d in
          let lt = sound.below t i c (completed_spawn (tasks_in rows t) i c told) in
          omega (arith, lt, length-map rows completed)
