-- The graph of a log is that of the turns told.
use Rattle.told_graph_laws.proofs.Common.{◌≡◌, ◌<◌, ◌≤◌, ◌+◌, ◌==◌, ℕ, zero, suc, Bool, true, false, Option, Some, None, List, [], ◌∷◌, length, map, get_or, slice_get, ◌⊎◌, inl, inr, refl, ap, ap₂, sym, subst, ◌∙◌, arith, IsTrue, ◌||◌, fun_ext, cases_lt, or_right, or_cases, eqb-true, length-map, list_any, IsStrictlyIncreasing, In, any_from_in, flat_in, got_in, got_some, got_map, completed, with_joins, TaskTurns, tasks_in, strand, Does, Extent, Whole, Cut, GraphTurn, Spawn, Join, Event, spawns, end_of, IsLog, AreNumbers, is_task, tells, told_number, log_strand, task_of, renumbered, AreRows, turn_at, known_of, graph_of, StrandEnd, Turns, Finishes, LogTasks, in_at, at_in, place_below, task_is, turn_by, turns_by, turns_told, Act, AreToldInOrder, graph_told, IsGraphTold, LogsTellGraphs}
use Rattle.std.proofs.lemmas.Bool.{eq-eqb}
use Rattle.run_turn_laws.specs.below.log_lines as acts
use Rattle.told_graph_laws.proofs.Ends.{turn_of_end, EndAsTold, ends_as_told, turn_event, spawn_act}

-- NUMBERS WITHOUT GAPS

module _ (numbers : List ℕ) (up : IsStrictlyIncreasing numbers) (n : ℕ) (are : (t : ℕ) → In numbers t → t < n) (all : (t : ℕ) → t < n → In numbers t) where
  placed_by : (k t : ℕ) → t < k → t < n → (t < length numbers) × (get_or numbers t 0 ≡ t)
  placed_by zero t lt few = absurd (omega (arith, lt))
  placed_by (suc k) t lt few =
      let at = in_at numbers t (all t few) in
      let j = at.0 in
      let there = at.1 in
      let is = at.2 in
      let low = place_below numbers up j there in
      elim (cases_lt j t) [
        | inl less ↦ let before : get_or numbers j 0 ≡ j = (placed_by k j (omega (arith, lt, less)) (omega (arith, few, less))).1 in absurd (omega (arith, before, is, less))
        | inr ge ↦ let e : j ≡ t = omega (arith, low, is, ge) in (subst (λ x. x < length numbers) e there, subst (λ x. get_or numbers x 0 ≡ t) e is)
      ]

  pub placed : (t : ℕ) → t < n → (t < length numbers) × (get_or numbers t 0 ≡ t)
  placed t few = placed_by (suc t) t (omega arith) few

  pub numbers_count : length numbers ≡ n
  numbers_count = numbers_count_by_cases (cases_lt n (length numbers)) (cases_lt (length numbers) n)
    where
      numbers_count_by_cases : (n < length numbers) ⊎ (length numbers ≤ n) → (length numbers < n) ⊎ (n ≤ length numbers) → length numbers ≡ n
      numbers_count_by_cases (inl more) other = absurd (let a = are (get_or numbers n 0) (at_in numbers n more) in let b = place_below numbers up n more in omega (arith, a, b))
      numbers_count_by_cases (inr le) (inl fewer) = absurd (let p = (placed (length numbers) fewer).0 in omega (arith, p))
      numbers_count_by_cases (inr le) (inr ge) = omega (arith, le, ge)

-- ROWS

same_row : (row turns : List GraphTurn) → ((i : ℕ) → i ≤ length row → slice_get row i ≡ slice_get turns i) → row ≡ turns
same_row [] [] h = refl
same_row [] (y ∷ ys) h = absurd (let e : None ≡ Some y = h 0 (omega arith) in cc)
same_row (x ∷ xs) [] h = absurd (let e : Some x ≡ None = h 0 (omega arith) in cc)
same_row (x ∷ xs) (y ∷ ys) h = ap₂ (λ t ts. t ∷ ts) (let e : Some x ≡ Some y = h 0 (omega arith) in cc) (same_row xs ys (λ i le. h (suc i) (omega (arith, le))))

past_rows : (rows : List (List GraphTurn)) (t : ℕ) → length rows ≤ t → tasks_in rows t ≡ []
past_rows [] t le = refl
past_rows (r ∷ rs) zero le = absurd (omega (arith, le))
past_rows (r ∷ rs) (suc t) le = past_rows rs t (omega (arith, le))

mapped_rows : (f : List GraphTurn → List GraphTurn) → f [] ≡ [] → (rows : List (List GraphTurn)) (t : ℕ) → tasks_in (map f rows) t ≡ f (tasks_in rows t)
mapped_rows f none [] t = sym none
mapped_rows f none (r ∷ rs) zero = refl
mapped_rows f none (r ∷ rs) (suc t) = mapped_rows f none rs t

pub own_task : (events : List Event) (e : Event) → In events e → IsTrue (is_task events e.strand.task)
own_task events e there =
    or_right (e.strand.task == 0) (list_any (tells e.strand.task) events) (any_from_in (tells e.strand.task) events e there (rw (eq-eqb e.strand.task e.strand.task refl) refl))

module _ (n : ℕ) (events : List Event) (numbers : List ℕ) (rows : List (List GraphTurn)) (told : AreToldInOrder n events) (are : AreNumbers events numbers) (is : AreRows events numbers rows) where
  abbrev T : TaskTurns
  T = turns_told events

  numbered : (t : ℕ) → t < n → In numbers t
  numbered t few = (are.are t).1 ((told.tasks t).1 few)

  few_numbers : (t : ℕ) → In numbers t → t < n
  few_numbers t h = (told.tasks t).0 ((are.are t).0 h)

  pub number : (t : ℕ) → t < n → told_number numbers t ≡ t
  number t few = (placed numbers are.ascending n few_numbers numbered t few).1

  count : length numbers ≡ n
  count = numbers_count numbers are.ascending n few_numbers numbered

  named : (c : ℕ) → c < n → task_of numbers c ≡ c
  named c few = let p = placed numbers are.ascending n few_numbers numbered c few in task_is numbers are.ascending c c p.0 p.1

  is_told : (t : ℕ) (e : Event) → In events e → tells t e ≡ true → t < n
  is_told t e there h = (told.tasks t).0 (or_right (t == 0) (list_any (tells t) events) (any_from_in (tells t) events e there h))

  of_task : (t : ℕ) (e : Event) → In events e → e.strand.task ≡ t → t < n
  of_task t e there same = is_told t e there (rw (eq-eqb e.strand.task t same) refl)

  spawned : (t i c : ℕ) → Does T t i (Spawn c) → c < n
  spawned t i c h =
      let v = turn_event events t i (Spawn c) h in
      is_told c v.0 v.1 (or_right (v.0.strand.task == c) (spawns c v.0.act) (spawn_act v.0.act c v.3))

  same_turn : (t i : ℕ) (o : Option StrandEnd) → turn_of_end o ≡ slice_get (T t) i → turn_at numbers o ≡ turn_of_end o
  same_turn t i None h = refl
  same_turn t i (Some Finishes) h = refl
  same_turn t i (Some (Turns (Spawn c))) h = ap (λ k. Some (Spawn k)) (named c (spawned t i c (sym h)))
  same_turn t i (Some (Turns (Join c))) h = ap (λ k. Some (Join k)) (named c (told.joined t i c (sym h)))

  pub E : EndAsTold events
  E = ends_as_told events told.order told.last

  row : (t : ℕ) → t < n → tasks_in rows t ≡ T t
  row t few =
      same_row (tasks_in rows t) (T t) (λ i le.
      let c = count in
      is.each t (omega (arith, c, few)) i le
      ∙ (ap (λ k. turn_at numbers (end_of events (strand k i))) (number t few)
      ∙ (same_turn t i (end_of events (strand t i)) (E.turn t i) ∙ E.turn t i)))

  none_told : (t : ℕ) → n ≤ t → T t ≡ []
  none_told t ge = none_told_by_cases (T t) refl
    where
      none_told_by_cases : (turns : List GraphTurn) → T t ≡ turns → T t ≡ []
      none_told_by_cases [] e = e
      none_told_by_cases (turn ∷ rest) e = let v = turn_event events t 0 turn (ap (λ ts. slice_get ts 0) e) in absurd (let lt = of_task t v.0 v.1 v.2 in omega (arith, lt, ge))

  pub size : length rows ≡ n
  size = is.count ∙ count

  pub rows_told : tasks_in rows ≡ T
  rows_told = fun_ext (λ t. elim (cases_lt t n) [ inl lt ↦ row t lt | inr ge ↦ past_rows rows t (let s = size in omega (arith, s, ge)) ∙ sym (none_told t ge) ])

module _ (n : ℕ) (events : List Event) (extent : Extent) (log : LogTasks) (told : AreToldInOrder n events) (is : IsLog events extent log) where
  abbrev turns : TaskTurns
  turns = turns_told events

  rows_are : tasks_in is.rows ≡ turns
  rows_are = rows_told n events log.numbers is.rows told is.numbers_are is.rows_are

  rows_size : length is.rows ≡ n
  rows_size = size n events log.numbers is.rows told is.numbers_are is.rows_are

  graph : (x : Extent) → tasks_in (graph_of x is.rows) ≡ graph_told x turns
  graph Whole = rows_are
  graph Cut = fun_ext (mapped_rows completed refl is.rows) ∙ ap (λ (f : TaskTurns). with_joins f) rows_are

  graph_size : (x : Extent) → length (graph_of x is.rows) ≡ n
  graph_size Whole = rows_size
  graph_size Cut = length-map is.rows completed ∙ rows_size

  known : (t : ℕ) → t < n → known_of log t ≡ Some (length (turns t))
  known t few =
      let r = got_some is.rows t (let s = rows_size in omega (arith, s, few)) in
      ap (λ k. slice_get k t) is.known_are ∙ (got_map length is.rows t r.0 r.1 ∙ ap (λ turns. Some (length turns)) (sym (read is.rows t r.0 r.1) ∙ ap (λ (f : TaskTurns). f t) rows_are))
    where
      read : (rows : List (List GraphTurn)) (k : ℕ) (r : List GraphTurn) → slice_get rows k ≡ Some r → tasks_in rows k ≡ r
      read [] k r e = absurd cc
      read (x ∷ xs) zero r e = cc
      read (x ∷ xs) (suc k) r e = read xs k r e

  pub graph_is_told : IsGraphTold events extent n log
  graph_is_told = record {
    count = ap length is.turns_are ∙ graph_size extent;
    numbers = number n events log.numbers is.rows told is.numbers_are is.rows_are;
    turns = ap tasks_in is.turns_are ∙ graph extent;
    known = known;
  }

pub logs_tell_graphs : LogsTellGraphs
logs_tell_graphs n events extent log told is = graph_is_told n events extent log told is
