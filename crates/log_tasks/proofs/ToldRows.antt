-- The turns of tasks, by what is known.
use Rattle.log_tasks.proofs.Common.{◌≡◌, ◌<◌, ◌≤◌, ◌+◌, ◌^◌, ◌++◌, ◌∷◌, ◌∙◌, ◌⊎◌, inl, inr, ℕ, zero, suc, List, [], length, get_or, refl, sym, ap, subst, Option, Some, None, arith, length-append, slice_get, IsStrictlyIncreasing, eq-or-lt_of_le, cases_lt, get_or-append, get_or-append_seam, below_next, got_within, got_past, got_front, got_last, strand_limit, GraphTurn, Spawn, Join, GraphStrand, AreSmall, tasks_in, strand, Does, Event, StrandEnd, Turns, Finishes, Told, end_of, AreNumbers, log_strand, task_of, turn_at, AreRows, KnowsEvents, end_told, turn_told, HasSmallTurns, IsToldRow, AreFirstRows, AreToldRows, AreSane, SpawnsWell}
use Rattle.log_tasks.proofs.Ascending.{place_below, one_place, task_there}
use Rattle.log_tasks.proofs.Spawning.{spawned_once, not_root, spawned_is_task, end_within}

-- A ROW

module _ (F : ℕ → Option GraphTurn) (row : List GraphTurn) (n : ℕ) (count : length row ≡ n) (so_far : (i : ℕ) → i < n → slice_get row i ≡ F i) where
  -- with a turn more
  pub row_more : (turn : GraphTurn) → F n ≡ Some turn → (i : ℕ) → i < n + 1 → slice_get (row ++ turn ∷ []) i ≡ F i
  row_more turn e i lt = by_place (below_next i n lt)
    where
      by_place : (i < n) ⊎ (i ≡ n) → slice_get (row ++ turn ∷ []) i ≡ F i
      by_place (inl below) = let here : i < length row = omega (arith, below, count) in got_front row (turn ∷ []) i here ∙ so_far i below
      by_place (inr at) =
          ap (slice_get (row ++ turn ∷ [])) (at ∙ sym count) ∙ got_last row turn ∙ sym e ∙ ap F (sym at)

  -- the task has no turn more
  pub row_ends : F n ≡ None → (i : ℕ) → i ≤ length row → slice_get row i ≡ F i
  row_ends e i le = by_place (eq-or-lt_of_le le)
    where
      by_place : (i ≡ length row) ⊎ (i < length row) → slice_get row i ≡ F i
      by_place (inl at) = got_past row i (omega (arith, at)) ∙ sym e ∙ ap F (sym (at ∙ count))
      by_place (inr below) = so_far i (omega (arith, below, count))

-- no strand past the limit ends in a turn
no_turn : (numbers : List ℕ) (o : Option StrandEnd) → ((turn : GraphTurn) → o ≡ Some (Turns turn) → ⊥) → turn_at numbers o ≡ None
no_turn numbers None h = refl
no_turn numbers (Some Finishes) h = refl
no_turn numbers (Some (Turns turn)) h = absurd (h turn refl)

pub limit_ends : (told : Told) (numbers : List ℕ) (n i : ℕ) → HasSmallTurns told → strand_limit ≤ i + 1 → turn_told told numbers n i ≡ None
limit_ends told numbers n i small le = no_turn numbers (end_told told n i) (λ turn e. (let lt = small n i turn e in omega (arith, le, lt)))

-- ALL ROWS

pub no_rows : (told : Told) (numbers : List ℕ) → AreFirstRows told numbers 0 []
no_rows told numbers = record { count = refl; each = λ t lt. absurd (omega (arith, lt)); short = λ t. omega arith }

module _ (told : Told) (numbers : List ℕ) (n : ℕ) (rows : List (List GraphTurn)) (row : List GraphTurn) (are : AreFirstRows told numbers n rows) where
  at_front : (t : ℕ) → t < n → tasks_in (rows ++ row ∷ []) t ≡ tasks_in rows t
  at_front t lt = let count = are.count in let here : t < length rows = omega (arith, lt, count) in get_or-append rows (row ∷ []) [] t here

  at_last : tasks_in (rows ++ row ∷ []) n ≡ row
  at_last = ap (tasks_in (rows ++ row ∷ [])) (sym are.count) ∙ get_or-append_seam rows row [] []

  at_past : (t : ℕ) → n < t → tasks_in (rows ++ row ∷ []) t ≡ []
  at_past t lt = let count = are.count in past_end (rows ++ row ∷ []) t (omega (arith, lt, count, length-append rows (row ∷ [])))
    where
      past_end : (xs : List (List GraphTurn)) (k : ℕ) → length xs ≤ k → get_or xs k [] ≡ []
      past_end [] k le = refl
      past_end (x ∷ xs) zero le = absurd (omega (arith, le))
      past_end (x ∷ xs) (suc k) le = past_end xs k (omega (arith, le))

  -- a row more
  pub rows_more : IsToldRow told numbers (get_or numbers n 0) row → length row < strand_limit → AreFirstRows told numbers (n + 1) (rows ++ row ∷ [])
  rows_more is le = record {
    count = (let count = are.count in omega (arith, count, length-append rows (row ∷ [])));
    each = λ t lt. each_by t (below_next t n lt);
    short = λ t. short_by t (order t);
  }
    where
      each_by : (t : ℕ) → (t < n) ⊎ (t ≡ n) → IsToldRow told numbers (get_or numbers t 0) (tasks_in (rows ++ row ∷ []) t)
      each_by t (inl below) = subst (λ (r : List GraphTurn). IsToldRow told numbers (get_or numbers t 0) r) (sym (at_front t below)) (are.each t below)
      each_by t (inr at) = subst (λ (k : ℕ). IsToldRow told numbers (get_or numbers k 0) (tasks_in (rows ++ row ∷ []) k)) (sym at) (subst (λ (r : List GraphTurn). IsToldRow told numbers (get_or numbers n 0) r) (sym at_last) is)

      order : (t : ℕ) → (t < n) ⊎ ((t ≡ n) ⊎ (n < t))
      order t = order_by t (cases_lt t n)
        where
          order_by : (t : ℕ) → (t < n) ⊎ (n ≤ t) → (t < n) ⊎ ((t ≡ n) ⊎ (n < t))
          order_by t (inl below) = inl below
          order_by t (inr le) = inr (flipped (eq-or-lt_of_le le))
            where
              flipped : (n ≡ t) ⊎ (n < t) → (t ≡ n) ⊎ (n < t)
              flipped (inl e) = inl (sym e)
              flipped (inr lt) = inr lt

      short_by : (t : ℕ) → (t < n) ⊎ ((t ≡ n) ⊎ (n < t)) → length (tasks_in (rows ++ row ∷ []) t) < strand_limit
      short_by t (inl below) = subst (λ (r : List GraphTurn). length r < strand_limit) (sym (at_front t below)) (are.short t)
      short_by t (inr (inl at)) = subst (λ (r : List GraphTurn). length r < strand_limit) (sym (ap (tasks_in (rows ++ row ∷ [])) at ∙ at_last)) le
      short_by t (inr (inr past)) = subst (λ (r : List GraphTurn). length r < strand_limit) (sym (at_past t past)) (omega arith)

-- tasks and strands have numbers of 32 bits
pub rows_small : (told : Told) (numbers : List ℕ) (rows : List (List GraphTurn)) → IsStrictlyIncreasing numbers → ((k : ℕ) → get_or numbers k 0 < 2 ^ 32) → AreToldRows told numbers rows → AreSmall rows
rows_small told numbers rows up below are = record {
  tasks = (let count = are.count in let l : length numbers ≤ 2 ^ 32 = few (length numbers) refl in omega (arith, count, l));
  turns = λ t. (let s = are.short t in omega (arith, s));
}
  where
    few : (n : ℕ) → length numbers ≡ n → n ≤ 2 ^ 32
    few zero e = omega arith
    few (suc k) e = let le = place_below numbers up k (omega (arith, e)) in let lt = below k in omega (arith, le, lt)

-- THE LOG'S ROWS

-- what is known of all events is so
pub rows_are : (told : Told) (events : List Event) (numbers : List ℕ) (rows : List (List GraphTurn)) → KnowsEvents told events → AreToldRows told numbers rows → AreRows events numbers rows
rows_are told events numbers rows k are = record {
  count = are.count;
  each = λ t lt i le. are.each t lt i le ∙ ap (turn_at numbers) (k.ends (get_or numbers t 0) i);
}

pub small_turns : (told : Told) (events : List Event) → KnowsEvents told events → AreSane events → HasSmallTurns told
small_turns told events k s t i turn e = end_within events (strand t i) turn s.within (sym (k.ends t i) ∙ e)

-- SPAWNS

spawn_turn : (numbers : List ℕ) (o : Option StrandEnd) (c : ℕ) → turn_at numbers o ≡ Some (Spawn c) → (n : ℕ) × (o ≡ Some (Turns (Spawn n))) × (task_of numbers n ≡ c)
spawn_turn numbers None c e = absurd (cc)
spawn_turn numbers (Some Finishes) c e = absurd (cc)
spawn_turn numbers (Some (Turns (Spawn n))) c e = (n, refl, cc)
spawn_turn numbers (Some (Turns (Join n))) c e = absurd (cc)

there_task : (rows : List (List GraphTurn)) (t i : ℕ) (turn : GraphTurn) → slice_get (get_or rows t []) i ≡ Some turn → t < length rows
there_task [] t i turn e = absurd (cc)
there_task (r ∷ rs) zero i turn e = omega arith
there_task (r ∷ rs) (suc t) i turn e = let lt = there_task rs t i turn e in omega (arith, lt)

module _ (events : List Event) (numbers : List ℕ) (rows : List (List GraphTurn)) (sane : AreSane events) (named : AreNumbers events numbers) (are : AreRows events numbers rows) where
  -- the log's spawn at a turn
  spawn_at : (t i c : ℕ) → Does (tasks_in rows) t i (Spawn c) → (n : ℕ) × (end_of events (log_strand numbers (strand t i)) ≡ Some (Turns (Spawn n))) × (task_of numbers n ≡ c)
  spawn_at t i c d =
      let there = there_task rows t i (Spawn c) d in
      let within = got_within (tasks_in rows t) i (Spawn c) d in
      let count = are.count in
      spawn_turn numbers (end_of events (log_strand numbers (strand t i))) c (sym (are.each t (omega (arith, there, count)) i (omega (arith, within))) ∙ d)

  named_there : (n : ℕ) (u : GraphStrand) → end_of events u ≡ Some (Turns (Spawn n)) → (task_of numbers n < length numbers) × (get_or numbers (task_of numbers n) 0 ≡ n)
  named_there n u e = task_there numbers named.ascending n ((named.are n).1 (spawned_is_task events u n e))

  root_first : get_or numbers 0 0 ≡ 0
  root_first = by_place (task_there numbers named.ascending 0 ((named.are 0).1 refl))
    where
      by_place : (task_of numbers 0 < length numbers) × (get_or numbers (task_of numbers 0) 0 ≡ 0) → get_or numbers 0 0 ≡ 0
      by_place (lt, e) =
          let le = place_below numbers named.ascending (task_of numbers 0) lt in
          let z : task_of numbers 0 ≡ 0 = omega (arith, le, e) in
          subst (λ (k : ℕ). get_or numbers k 0 ≡ 0) z e

  same_strand : (t i s j n : ℕ) → t < length numbers → s < length numbers → log_strand numbers (strand t i) ≡ log_strand numbers (strand s j) → (t ≡ s) × (i ≡ j)
  same_strand t i s j n lt lt' e = (one_place numbers named.ascending t s lt lt' (ap (λ (u : GraphStrand). u.task) e), ap (λ (u : GraphStrand). u.index) e)

  -- spawns are in order
  pub spawns_well : SpawnsWell rows
  spawns_well = record {
    there = λ t i c d.
        (let r = spawn_at t i c d in
        let at = named_there r.0 (log_strand numbers (strand t i)) r.1 in
        let count = are.count in
        let is : task_of numbers r.0 ≡ c = r.2 in
        let lt : task_of numbers r.0 < length numbers = at.0 in
        (not_zero t i c r.0 r.1 is at.1, omega (arith, lt, is, count)));
    once = λ t i s j c d d'.
        (let r = spawn_at t i c d in
        let r' = spawn_at s j c d' in
        let at = named_there r.0 (log_strand numbers (strand t i)) r.1 in
        let at' = named_there r'.0 (log_strand numbers (strand s j)) r'.1 in
        let same : r'.0 ≡ r.0 = sym at'.1 ∙ ap (λ (k : ℕ). get_or numbers k 0) (r'.2 ∙ sym r.2) ∙ at.1 in
        let count = are.count in
        let one = there_task rows t i (Spawn c) d in
        let two = there_task rows s j (Spawn c) d' in
        same_strand t i s j 0 (omega (arith, one, count)) (omega (arith, two, count))
        (spawned_once events (log_strand numbers (strand t i)) (log_strand numbers (strand s j)) r.0 sane.once r.1 (r'.1 ∙ ap (λ (k : ℕ). Some (Turns (Spawn k))) same)));
  }
    where
      not_zero : (t i c n : ℕ) → end_of events (log_strand numbers (strand t i)) ≡ Some (Turns (Spawn n)) → task_of numbers n ≡ c → get_or numbers (task_of numbers n) 0 ≡ n → 0 < c
      not_zero t i zero n e is at =
          absurd (not_root events (log_strand numbers (strand t i)) n sane.once e (sym at ∙ ap (λ (k : ℕ). get_or numbers k 0) is ∙ root_first))
      not_zero t i (suc c) n e is at = omega arith
