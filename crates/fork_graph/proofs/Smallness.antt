-- Tasks and strands with numbers of 32 bits.
use Rattle.fork_graph.proofs.Common.{◌≡◌, ℕ, zero, suc, ◌<◌, ◌≤◌, ◌^◌, List, [], ◌∷◌, length, Some, slice_get, refl, subst, arith, GraphTurn, tasks_in, AreSmall}
use Rattle.fork_graph.proofs.SpawnSearch.{row_is}

pub too_many : (rows : List (List GraphTurn)) → 2 ^ 32 < length rows → AreSmall rows → ⊥
too_many rows gt s = let le : length rows ≤ 2 ^ 32 = s.tasks in omega arith

pub too_long : (rows : List (List GraphTurn)) (t : ℕ) (row : List GraphTurn) → slice_get rows t ≡ Some row → 2 ^ 32 ≤ length row → AreSmall rows → ⊥
too_long rows t row h ge s =
    let lt : length row < 2 ^ 32 = subst (λ (turns : List GraphTurn). length turns < 2 ^ 32) (row_is rows t row h) (s.turns t) in omega arith

short_by : (rows : List (List GraphTurn)) (t : ℕ) → ((k : ℕ) (row : List GraphTurn) → slice_get rows k ≡ Some row → length row < 2 ^ 32) → length (tasks_in rows t) < 2 ^ 32
short_by [] t short = omega arith
short_by (row ∷ rows) zero short = short zero row refl
short_by (row ∷ rows) (suc t) short = short_by rows t (λ k other h. short (suc k) other h)

pub all_short : (rows : List (List GraphTurn)) → length rows ≤ 2 ^ 32 → ((k : ℕ) (row : List GraphTurn) → slice_get rows k ≡ Some row → length row < 2 ^ 32) → AreSmall rows
all_short rows le short = record { tasks = le; turns = λ t. short_by rows t short }
