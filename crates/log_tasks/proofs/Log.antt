-- The tasks of a log, or why there are none.
use Rattle.log_tasks.proofs.Common.{◌≡◌, ◌<◌, ◌≤◌, ◌==◌, ◌^◌, ◌∙◌, ℕ, Bool, true, List, length, map, refl, sym, subst, Option, Some, None, arith, Contains, IsTrue, MatchOption, IsStrictlyIncreasing, nat_tests, In, in_from_contains, contains_from_in, any_from_in, in_from_any, GraphTurn, Extent, AreSmall, IsSoundRun, Event, events_of, log_fault, TaskFault, LogTasks, Told, is_task, AreNumbers, graph_of, AreRows, AreNestedTasks, KnowsEvents, task_told, HasSmallTurns, AreToldRows, SpawnsWell, HasNoneBelow, IsFirstOf, IsFirstTaskFault, in_log, IsLog}
use Rattle.log_tasks.proofs.Ascending.{in_at}
use Rattle.log_tasks.proofs.Puts.{number_same}
use Rattle.log_tasks.proofs.Sane.{sane_log}
use Rattle.log_tasks.proofs.ToldRows.{rows_are, small_turns, spawns_well}
use Rattle.log_tasks.proofs.Nested.{graph_nested}

pub true_is : (b : Bool) → IsTrue b → b ≡ true
true_is b t = t

-- the same numbers are in both lists
abbrev pub HaveTheSame : List ℕ → List ℕ → Type 0
HaveTheSame tasks numbers = ((n : ℕ) → Contains tasks n → Contains numbers n) × ((n : ℕ) → Contains numbers n → Contains tasks n)

-- the numbers that are known are those of all tasks
pub numbers_are : (told : Told) (events : List Event) (numbers : List ℕ) → KnowsEvents told events → HaveTheSame told.tasks numbers → IsStrictlyIncreasing numbers → AreNumbers events numbers
numbers_are told events numbers k same up = record {
  ascending = up;
  are = λ t. (into t, out t);
}
  where
    into : (t : ℕ) → In numbers t → IsTrue (is_task events t)
    into t h =
        let there : In told.tasks t = in_from_contains told.tasks t (same.1 t (contains_from_in numbers t h)) in
        let has : task_told told t ≡ true = any_from_in (λ (m : ℕ). m == t) told.tasks t there (grind (arith, nat_tests)) in
        sym (k.tasks t) ∙ has

    out : (t : ℕ) → IsTrue (is_task events t) → In numbers t
    out t h =
        let r = in_from_any (λ (m : ℕ). m == t) told.tasks (k.tasks t ∙ true_is (is_task events t) h) in
        let is : r.0 ≡ t = number_same r.0 t r.2 in
        let there : In told.tasks t = subst (λ (n : ℕ). In told.tasks n) is r.1 in
        in_from_contains numbers t (same.0 t (contains_from_in told.tasks t there))

module _ (told : Told) (events : List Event) (extent : Extent) (numbers : List ℕ) (rows : List (List GraphTurn)) (knows : KnowsEvents told events) (named : AreNumbers events numbers) (are : AreToldRows told numbers rows) where
  some_rows : 0 < length rows
  some_rows = let r = in_at numbers 0 ((named.are 0).1 refl) in let lt = r.1 in let count = are.count in omega (arith, lt, count)

  -- a log without a fault
  pub is_log : length rows ≤ 2 ^ 32 → IsSoundRun rows extent → HasNoneBelow events extent numbers rows (length rows) → (log : LogTasks) → log.numbers ≡ numbers → log.turns ≡ graph_of extent rows → log.known ≡ map length rows → IsLog events extent log
  is_log few sound none log n t k = record {
    rows = rows;
    numbers_are = subst (λ (ns : List ℕ). AreNumbers events ns) (sym n) named;
    rows_are = subst (λ (ns : List ℕ). AreRows events ns rows) (sym n) (rows_are told events numbers rows knows are);
    sound = subst (λ (ns : List ℕ). HasNoneBelow events extent ns rows (length rows)) (sym n) none;
    turns_are = t;
    known_are = k;
    nested = subst AreNestedTasks (sym t) (graph_nested rows some_rows few are.short extent sound);
  }

  -- one with a fault
  pub is_refused : (found : TaskFault) → IsFirstOf events extent numbers rows found → (fault : TaskFault) → fault ≡ in_log numbers found → IsFirstTaskFault events extent fault
  is_refused found first fault e = record {
    numbers = numbers;
    rows = rows;
    numbers_are = named;
    rows_are = rows_are told events numbers rows knows are;
    found = found;
    is_first = first;
    is = e;
  }

-- A LOG'S PIECES

module _ (told : Told) (texts : List (List ℕ)) (es : List Event) (is : es ≡ events_of texts) (whole : log_fault texts ≡ None) (knows : KnowsEvents told es) (numbers slice : List ℕ) (same : slice ≡ numbers) (ks : HaveTheSame told.tasks numbers) (up : IsStrictlyIncreasing numbers) where
  known_log : KnowsEvents told (events_of texts)
  known_log = subst (λ (e : List Event). KnowsEvents told e) is knows

  named_log : AreNumbers (events_of texts) numbers
  named_log = numbers_are told (events_of texts) numbers known_log ks up

  -- what making the rows requires
  pub slice_up : IsStrictlyIncreasing slice
  slice_up = subst IsStrictlyIncreasing (sym same) up

  pub small_log : HasSmallTurns told
  small_log = small_turns told (events_of texts) known_log (sane_log texts whole)

  module _ (rows : List (List GraphTurn)) (of_slice : AreToldRows told slice rows) where
    told_rows : AreToldRows told numbers rows
    told_rows = subst (λ (ns : List ℕ). AreToldRows told ns rows) same of_slice

    -- what the search for a fault requires
    pub rows_count : length rows ≡ length numbers
    rows_count = told_rows.count

    pub rows_well : SpawnsWell rows
    rows_well = spawns_well (events_of texts) numbers rows (sane_log texts whole) named_log (rows_are told (events_of texts) numbers rows known_log told_rows)

    module _ (extent : Extent) (found : Option TaskFault) (finds : (events : List Event) → KnowsEvents told events → MatchOption found (IsSoundRun rows extent × HasNoneBelow events extent numbers rows (length rows)) (IsFirstOf events extent numbers rows)) where
      found_log : MatchOption found (IsSoundRun rows extent × HasNoneBelow (events_of texts) extent numbers rows (length rows)) (IsFirstOf (events_of texts) extent numbers rows)
      found_log = finds (events_of texts) known_log

      -- no task has a fault
      pub log_made : found ≡ None → AreSmall rows → (log : LogTasks) → log.numbers ≡ numbers → log.turns ≡ graph_of extent rows → log.known ≡ map length rows → IsLog (events_of texts) extent log
      log_made none small log n t k =
          let h : IsSoundRun rows extent × HasNoneBelow (events_of texts) extent numbers rows (length rows) = subst (λ (o : Option TaskFault). MatchOption o (IsSoundRun rows extent × HasNoneBelow (events_of texts) extent numbers rows (length rows)) (IsFirstOf (events_of texts) extent numbers rows)) none found_log in
          is_log told (events_of texts) extent numbers rows known_log named_log told_rows small.tasks h.0 h.1 log n t k

      first_log : (at : TaskFault) → found ≡ Some at → IsFirstOf (events_of texts) extent numbers rows at
      first_log at some = subst (λ (o : Option TaskFault). MatchOption o (IsSoundRun rows extent × HasNoneBelow (events_of texts) extent numbers rows (length rows)) (IsFirstOf (events_of texts) extent numbers rows)) some found_log

      -- the fault is of a task that is there
      pub fault_there : (at : TaskFault) → found ≡ Some at → at.strand.task < length numbers
      fault_there at some = let f = first_log at some in let lt = f.there in let count = rows_count in omega (arith, lt, count)

      -- one has
      pub log_refused : (at fault : TaskFault) → found ≡ Some at → fault ≡ in_log numbers at → IsFirstTaskFault (events_of texts) extent fault
      log_refused at fault some e = is_refused told (events_of texts) extent numbers rows known_log named_log told_rows at (first_log at some) fault e
