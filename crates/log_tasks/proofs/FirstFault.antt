-- The first fault of a task, of the graph's faults and those of tasks' ends.
use Rattle.log_tasks.proofs.Common.{◌≡◌, ◌<◌, ◌≤◌, ◌∙◌, ◌⊎◌, inl, inr, ℕ, Bool, true, false, List, length, refl, sym, ap, subst, Option, Some, None, arith, MatchOption, option_map, if◌then◌else◌, nat_tests, cases_lt, got_within, GraphTurn, Join, GraphStrand, Extent, Whole, Cut, StrandCause, StrandFault, tasks_in, strand, last_of, IsEarlier, IsFault, IsSoundRun, IsFirstFault, sound_runs_have_no_fault, Event, TaskCause, JoinsNoOpenChild, HasNoEnd, LeavesUnjoined, IsUnreached, GoesOnAfterEnd, TaskFault, Told, KnowsEvents, SpawnsWell, HasCause, HasNoneBelow, IsFirstOf, rank_of, NoneEndsBelow, IsFirstEndFault, of_graph, task_cause, is_sooner, sooner, sooner_of}
use Rattle.fork_graph.specs.declared.fault.StrandCause.TheVariants as graph
use Rattle.log_tasks.proofs.TaskEnds.{cause_has, no_cause_no_end, no_cause_past, goes_on_has_end, end_causes}

module _ (told : Told) (events : List Event) (knows : KnowsEvents told events) (extent : Extent) (numbers : List ℕ) (rows : List (List GraphTurn)) (spawns : SpawnsWell rows) where
  abbrev Has : GraphStrand → TaskCause → Type 0
  Has u cause = HasCause events extent numbers rows u cause

  abbrev InGraph : GraphStrand → StrandCause → Type 0
  InGraph u cause = IsFault (tasks_in rows) (length rows) extent u cause

  -- SPAWNS

  earlier_self : (u : GraphStrand) (s j : ℕ) → s ≡ u.task → j ≡ u.index → IsEarlier (strand s j) u → ⊥
  earlier_self u s j e f (inl lt) = let l : s < u.task = lt in omega (arith, e, l)
  earlier_self u s j e f (inr h) = let l : j < u.index = h.1 in omega (arith, f, l)

  -- each spawn is of a new task
  spawns_new : (u : GraphStrand) → InGraph u graph.SpawnsNoNewTask → ⊥
  spawns_new u f =
      let well = spawns.there u.task u.index f.0 f.1 in
      f.2 (record {
        not_root = well.0;
        there = well.1;
        unspawned = λ b. (let same = spawns.once b.0 b.1 u.task u.index f.0 b.2 f.1 in earlier_self u b.0 b.1 same.0 same.1 b.3);
      })

  -- THE GRAPH'S FIRST FAULT

  graph_has : (u : GraphStrand) (c : StrandCause) → InGraph u c → Has u (task_cause c)
  graph_has u graph.SpawnsNoNewTask h = absurd (spawns_new u h)
  graph_has u graph.JoinsNoOpenChild h = h
  graph_has u graph.LeavesUnjoined h = h
  graph_has u graph.IsUnreached h = h

  -- a join stands before the task's last strand
  join_earlier : (u v : GraphStrand) → u.task ≡ v.task → InGraph u graph.JoinsNoOpenChild → v ≡ last_of (tasks_in rows) v.task → IsEarlier u v
  join_earlier u v same h last =
      let within : u.index < length (tasks_in rows u.task) = got_within (tasks_in rows u.task) u.index (Join h.0) h.1 in
      let index : v.index ≡ length (tasks_in rows v.task) = ap (λ (w : GraphStrand). w.index) last in
      let tasks : length (tasks_in rows u.task) ≡ length (tasks_in rows v.task) = ap (λ (t : ℕ). length (tasks_in rows t)) same in
      inr (same, omega (arith, within, index, tasks))

  same_last : (u v : GraphStrand) → u.task ≡ v.task → u ≡ last_of (tasks_in rows) u.task → v ≡ last_of (tasks_in rows) v.task → u ≡ v
  same_last u v same e f = e ∙ ap (last_of (tasks_in rows)) same ∙ sym f

  module _ (v : GraphStrand) where
    abbrev First : StrandCause → Type 0
    First c = IsFirstFault rows extent (record { strand = v; cause = c })

    -- no fault of the graph comes before it
    graph_before : (c : StrandCause) → First c → (u : GraphStrand) (d : StrandCause) → u.task ≡ v.task → rank_of (task_cause d) < rank_of (task_cause c) → InGraph u d → ⊥
    graph_before graph.SpawnsNoNewTask first u d same lt h = spawns_new v first.is_fault
    graph_before graph.JoinsNoOpenChild first u d same lt h = omega (arith, lt)
    graph_before c first u graph.SpawnsNoNewTask same lt h = spawns_new u h
    graph_before graph.LeavesUnjoined first u graph.JoinsNoOpenChild same lt h = first.no_earlier u graph.JoinsNoOpenChild (join_earlier u v same h first.is_fault.1) h
    graph_before graph.LeavesUnjoined first u graph.LeavesUnjoined same lt h = omega (arith, lt)
    graph_before graph.LeavesUnjoined first u graph.IsUnreached same lt h = omega (arith, lt)
    graph_before graph.IsUnreached first u graph.JoinsNoOpenChild same lt h = first.no_earlier u graph.JoinsNoOpenChild (join_earlier u v same h first.is_fault.1) h
    graph_before graph.IsUnreached first u graph.LeavesUnjoined same lt h =
        first.no_unjoined refl (subst (λ (w : GraphStrand). InGraph w graph.LeavesUnjoined) (same_last u v same h.1 first.is_fault.1) h)
    graph_before graph.IsUnreached first u graph.IsUnreached same lt h = omega (arith, lt)

    -- it is reported where no task's end does sooner
    from_graph : (c : StrandCause) → First c → v.task < length rows → ((u : GraphStrand) → u.task < v.task → Has u HasNoEnd → ⊥) → ((u : GraphStrand) → u.task < v.task → Has u GoesOnAfterEnd → ⊥)
        → ((u : GraphStrand) → u.task ≡ v.task → 1 < rank_of (task_cause c) → Has u HasNoEnd → ⊥) → IsFirstOf events extent numbers rows (record { strand = v; cause = task_cause c })
    from_graph c first there no_end no_past at = record {
      there = there;
      has = graph_has v c first.is_fault;
      none_below = λ u cause lt h. below u cause lt h;
      none_before = λ u cause same lt h. before u cause same lt h;
      none_earlier = λ u same lt h. earlier c first u same lt h;
    }
      where
        below : (u : GraphStrand) (cause : TaskCause) → u.task < v.task → Has u cause → ⊥
        below u JoinsNoOpenChild lt h = first.no_earlier u graph.JoinsNoOpenChild (inl lt) h
        below u HasNoEnd lt h = no_end u lt h
        below u LeavesUnjoined lt h = first.no_earlier u graph.LeavesUnjoined (inl lt) h
        below u IsUnreached lt h = first.no_earlier u graph.IsUnreached (inl lt) h
        below u GoesOnAfterEnd lt h = no_past u lt h

        at_most : (d : StrandCause) → rank_of (task_cause d) ≤ 3
        at_most graph.SpawnsNoNewTask = omega arith
        at_most graph.JoinsNoOpenChild = omega arith
        at_most graph.LeavesUnjoined = omega arith
        at_most graph.IsUnreached = omega arith

        before : (u : GraphStrand) (cause : TaskCause) → u.task ≡ v.task → rank_of cause < rank_of (task_cause c) → Has u cause → ⊥
        before u JoinsNoOpenChild same lt h = graph_before c first u graph.JoinsNoOpenChild same lt h
        before u HasNoEnd same lt h = at u same lt h
        before u LeavesUnjoined same lt h = graph_before c first u graph.LeavesUnjoined same lt h
        before u IsUnreached same lt h = graph_before c first u graph.IsUnreached same lt h
        before u GoesOnAfterEnd same lt h = let most = at_most c in omega (arith, lt, most)

        earlier : (d : StrandCause) → First d → (u : GraphStrand) → u.task ≡ v.task → u.index < v.index → Has u (task_cause d) → ⊥
        earlier graph.SpawnsNoNewTask f u same lt h = spawns_new v f.is_fault
        earlier graph.JoinsNoOpenChild f u same lt h = f.no_earlier u graph.JoinsNoOpenChild (inr (same, lt)) h
        earlier graph.LeavesUnjoined f u same lt h = f.no_earlier u graph.LeavesUnjoined (inr (same, lt)) h
        earlier graph.IsUnreached f u same lt h = f.no_earlier u graph.IsUnreached (inr (same, lt)) h

  -- A TASK'S END

  -- the first of these faults is reported where none of the graph's comes sooner
  from_end : (o : TaskFault) → extent ≡ Whole → IsFirstEndFault told numbers rows o
      → ((u : GraphStrand) (c : StrandCause) → InGraph u c → (u.task < o.strand.task) ⊎ ((u.task ≡ o.strand.task) × (rank_of (task_cause c) < rank_of o.cause)) → ⊥) → IsFirstOf events extent numbers rows o
  from_end o whole first sooner = record {
    there = first.there;
    has = subst (λ (w : GraphStrand). Has w o.cause) (sym first.last) (cause_has told events knows extent numbers rows o.strand.task whole o.cause first.cause);
    none_below = λ u cause lt h. below u cause lt h;
    none_before = λ u cause same lt h. before u cause same lt h (end_causes told events knows extent numbers rows o.strand.task o.cause first.cause);
    none_earlier = λ u same lt h. earlier u same lt h (end_causes told events knows extent numbers rows o.strand.task o.cause first.cause);
  }
    where
      below : (u : GraphStrand) (cause : TaskCause) → u.task < o.strand.task → Has u cause → ⊥
      below u JoinsNoOpenChild lt h = sooner u graph.JoinsNoOpenChild h (inl lt)
      below u HasNoEnd lt h = no_cause_no_end told events knows extent numbers rows u.task (first.none_below u.task lt) u refl h
      below u LeavesUnjoined lt h = sooner u graph.LeavesUnjoined h (inl lt)
      below u IsUnreached lt h = sooner u graph.IsUnreached h (inl lt)
      below u GoesOnAfterEnd lt h = no_cause_past told events knows extent numbers rows u.task (first.none_below u.task lt) u refl h

      no_end_by : (u : GraphStrand) → u.task ≡ o.strand.task → 1 < rank_of o.cause → Has u HasNoEnd → (o.cause ≡ HasNoEnd) ⊎ (o.cause ≡ GoesOnAfterEnd) → ⊥
      no_end_by u same lt h (inl is) = let r : rank_of o.cause ≡ 1 = ap rank_of is in omega (arith, lt, r)
      no_end_by u same lt h (inr is) = goes_on_has_end told events knows extent numbers rows o.strand.task (first.cause ∙ ap Some is) u same h

      past_by : 4 < rank_of o.cause → (o.cause ≡ HasNoEnd) ⊎ (o.cause ≡ GoesOnAfterEnd) → ⊥
      past_by lt (inl is) = let r : rank_of o.cause ≡ 1 = ap rank_of is in omega (arith, lt, r)
      past_by lt (inr is) = let r : rank_of o.cause ≡ 4 = ap rank_of is in omega (arith, lt, r)

      before : (u : GraphStrand) (cause : TaskCause) → u.task ≡ o.strand.task → rank_of cause < rank_of o.cause → Has u cause → (o.cause ≡ HasNoEnd) ⊎ (o.cause ≡ GoesOnAfterEnd) → ⊥
      before u JoinsNoOpenChild same lt h is = sooner u graph.JoinsNoOpenChild h (inr (same, lt))
      before u HasNoEnd same lt h is = no_end_by u same lt h is
      before u LeavesUnjoined same lt h is = sooner u graph.LeavesUnjoined h (inr (same, lt))
      before u IsUnreached same lt h is = sooner u graph.IsUnreached h (inr (same, lt))
      before u GoesOnAfterEnd same lt h is = past_by lt is

      -- the task's last strand is one
      not_last : (u : GraphStrand) → u.task ≡ o.strand.task → u.index < o.strand.index → u ≡ last_of (tasks_in rows) u.task → ⊥
      not_last u same lt last = let i : u.index ≡ o.strand.index = ap (λ (w : GraphStrand). w.index) (same_last u o.strand same last first.last) in omega (arith, lt, i)

      earlier : (u : GraphStrand) → u.task ≡ o.strand.task → u.index < o.strand.index → Has u o.cause → (o.cause ≡ HasNoEnd) ⊎ (o.cause ≡ GoesOnAfterEnd) → ⊥
      earlier u same lt h (inl is) = let g : Has u HasNoEnd = subst (λ (c : TaskCause). Has u c) is h in not_last u same lt g.0.1
      earlier u same lt h (inr is) = let g : Has u GoesOnAfterEnd = subst (λ (c : TaskCause). Has u c) is h in not_last u same lt g.0.1

  -- NO FAULT

  sound_none : IsSoundRun rows extent → ((u : GraphStrand) → u.task < length rows → Has u HasNoEnd → ⊥) → ((u : GraphStrand) → u.task < length rows → Has u GoesOnAfterEnd → ⊥) → HasNoneBelow events extent numbers rows (length rows)
  sound_none sound no_end no_past u JoinsNoOpenChild lt h = sound_runs_have_no_fault rows extent sound u graph.JoinsNoOpenChild lt h
  sound_none sound no_end no_past u HasNoEnd lt h = no_end u lt h
  sound_none sound no_end no_past u LeavesUnjoined lt h = sound_runs_have_no_fault rows extent sound u graph.LeavesUnjoined lt h
  sound_none sound no_end no_past u IsUnreached lt h = sound_runs_have_no_fault rows extent sound u graph.IsUnreached lt h
  sound_none sound no_end no_past u GoesOnAfterEnd lt h = no_past u lt h

  -- CUT LOGS

  cut_no_end : extent ≡ Cut → (u : GraphStrand) → Has u HasNoEnd → ⊥
  cut_no_end cut u h = let z : Whole ≡ Cut = sym h.0.0 ∙ cut in cc

  cut_no_past : extent ≡ Cut → (u : GraphStrand) → Has u GoesOnAfterEnd → ⊥
  cut_no_past cut u h = let z : Whole ≡ Cut = sym h.0.0 ∙ cut in cc

  -- a cut log has the graph's faults alone
  cut_found : extent ≡ Cut → (found : Option StrandFault) → MatchOption found (IsSoundRun rows extent) (IsFirstFault rows extent)
      → MatchOption (option_map of_graph found) (IsSoundRun rows extent × HasNoneBelow events extent numbers rows (length rows)) (IsFirstOf events extent numbers rows)
  cut_found cut None sound = (sound, sound_none sound (λ u lt h. cut_no_end cut u h) (λ u lt h. cut_no_past cut u h))
  cut_found cut (Some g) first = from_graph g.strand g.cause first first.there (λ u lt h. cut_no_end cut u h) (λ u lt h. cut_no_past cut u h) (λ u same lt h. cut_no_end cut u h)

  -- WHOLE LOGS

  end_none : (t : ℕ) → NoneEndsBelow told numbers rows t → (u : GraphStrand) → u.task < t → Has u HasNoEnd → ⊥
  end_none t none u lt h = no_cause_no_end told events knows extent numbers rows u.task (none u.task lt) u refl h

  past_none : (t : ℕ) → NoneEndsBelow told numbers rows t → (u : GraphStrand) → u.task < t → Has u GoesOnAfterEnd → ⊥
  past_none t none u lt h = no_cause_past told events knows extent numbers rows u.task (none u.task lt) u refl h

  -- which of two comes sooner
  sooner_cases : (one other : TaskFault) → is_sooner one other ≡ true → (one.strand.task < other.strand.task) ⊎ ((one.strand.task ≡ other.strand.task) × (rank_of one.cause ≤ rank_of other.cause))
  sooner_cases one other e = by_order (cases_lt one.strand.task other.strand.task)
    where
      by_order : (one.strand.task < other.strand.task) ⊎ (other.strand.task ≤ one.strand.task) → (one.strand.task < other.strand.task) ⊎ ((one.strand.task ≡ other.strand.task) × (rank_of one.cause ≤ rank_of other.cause))
      by_order (inl lt) = inl lt
      by_order (inr le) = inr (grind (arith, nat_tests, e, le), grind (arith, nat_tests, e, le))

  later_cases : (one other : TaskFault) → is_sooner one other ≡ false → (other.strand.task < one.strand.task) ⊎ ((one.strand.task ≡ other.strand.task) × (rank_of other.cause < rank_of one.cause))
  later_cases one other e = by_order (cases_lt other.strand.task one.strand.task)
    where
      by_order : (other.strand.task < one.strand.task) ⊎ (one.strand.task ≤ other.strand.task) → (other.strand.task < one.strand.task) ⊎ ((one.strand.task ≡ other.strand.task) × (rank_of other.cause < rank_of one.cause))
      by_order (inl lt) = inl lt
      by_order (inr le) = inr (grind (arith, nat_tests, e, le), grind (arith, nat_tests, e, le))

  -- the graph's comes sooner
  graph_sooner : (g : StrandFault) (o : TaskFault) → extent ≡ Whole → IsFirstFault rows extent g → IsFirstEndFault told numbers rows o
      → (g.strand.task < o.strand.task) ⊎ ((g.strand.task ≡ o.strand.task) × (rank_of (task_cause g.cause) ≤ rank_of o.cause)) → IsFirstOf events extent numbers rows (of_graph g)
  graph_sooner g o whole first end order =
      from_graph g.strand g.cause first first.there
      (λ u lt h. end_none o.strand.task end.none_below u (le_task u order lt) h) (λ u lt h. past_none o.strand.task end.none_below u (le_task u order lt) h)
      (λ u same lt h. graph_sooner_at u same lt h order)
    where
      le_task : (u : GraphStrand) → (g.strand.task < o.strand.task) ⊎ ((g.strand.task ≡ o.strand.task) × (rank_of (task_cause g.cause) ≤ rank_of o.cause)) → u.task < g.strand.task → u.task < o.strand.task
      le_task u (inl less) lt = omega (arith, less, lt)
      le_task u (inr both) lt = let e = both.0 in omega (arith, e, lt)

      at_same : (u : GraphStrand) → u.task ≡ o.strand.task → 1 < rank_of o.cause → Has u HasNoEnd → (o.cause ≡ HasNoEnd) ⊎ (o.cause ≡ GoesOnAfterEnd) → ⊥
      at_same u same lt h (inl is) = let r : rank_of o.cause ≡ 1 = ap rank_of is in omega (arith, lt, r)
      at_same u same lt h (inr is) = goes_on_has_end told events knows extent numbers rows o.strand.task (end.cause ∙ ap Some is) u same h

      graph_sooner_at : (u : GraphStrand) → u.task ≡ g.strand.task → 1 < rank_of (task_cause g.cause) → Has u HasNoEnd → (g.strand.task < o.strand.task) ⊎ ((g.strand.task ≡ o.strand.task) × (rank_of (task_cause g.cause) ≤ rank_of o.cause)) → ⊥
      graph_sooner_at u same lt h (inl less) = end_none o.strand.task end.none_below u (omega (arith, less, same)) h
      graph_sooner_at u same lt h (inr both) =
          let le = both.1 in
          at_same u (same ∙ both.0) (omega (arith, lt, le)) h (end_causes told events knows extent numbers rows o.strand.task o.cause end.cause)

  -- the task's end does
  end_sooner : (g : StrandFault) (o : TaskFault) → extent ≡ Whole → IsFirstFault rows extent g → IsFirstEndFault told numbers rows o
      → (o.strand.task < g.strand.task) ⊎ ((g.strand.task ≡ o.strand.task) × (rank_of o.cause < rank_of (task_cause g.cause))) → IsFirstOf events extent numbers rows o
  end_sooner g o whole first end order = from_end o whole end (λ u c h before. none u c h before order)
    where
      none : (u : GraphStrand) (c : StrandCause) → InGraph u c → (u.task < o.strand.task) ⊎ ((u.task ≡ o.strand.task) × (rank_of (task_cause c) < rank_of o.cause))
          → (o.strand.task < g.strand.task) ⊎ ((g.strand.task ≡ o.strand.task) × (rank_of o.cause < rank_of (task_cause g.cause))) → ⊥
      none u c h (inl lt) (inl less) = first.no_earlier u c (inl (omega (arith, lt, less))) h
      none u c h (inl lt) (inr both) = let e = both.0 in first.no_earlier u c (inl (omega (arith, lt, e))) h
      none u c h (inr at) (inl less) = let e = at.0 in first.no_earlier u c (inl (omega (arith, e, less))) h
      none u c h (inr at) (inr both) = let one = at.1 in let two = both.1 in graph_before g.strand g.cause first u c (at.0 ∙ sym both.0) (omega (arith, one, two)) h

  one_of_two : (g : StrandFault) (o : TaskFault) (b : Bool) → is_sooner (of_graph g) o ≡ b → extent ≡ Whole → IsFirstFault rows extent g → IsFirstEndFault told numbers rows o → IsFirstOf events extent numbers rows (if b then of_graph g else o)
  one_of_two g o true e whole first end = graph_sooner g o whole first end (sooner_cases (of_graph g) o e)
  one_of_two g o false e whole first end = end_sooner g o whole first end (later_cases (of_graph g) o e)

  -- of a whole log the sooner of both
  whole_found : extent ≡ Whole → (found : Option StrandFault) → MatchOption found (IsSoundRun rows extent) (IsFirstFault rows extent) → (own : Option TaskFault) → MatchOption own (NoneEndsBelow told numbers rows (length rows)) (IsFirstEndFault told numbers rows)
      → MatchOption (sooner_of (option_map of_graph found) own) (IsSoundRun rows extent × HasNoneBelow events extent numbers rows (length rows)) (IsFirstOf events extent numbers rows)
  whole_found whole None sound None none = (sound, sound_none sound (end_none (length rows) none) (past_none (length rows) none))
  whole_found whole None sound (Some o) end = from_end o whole end (λ u c h before. sound_runs_have_no_fault rows extent sound u c (below u before) h)
    where
      below : {A : Type 0} (u : GraphStrand) → (u.task < o.strand.task) ⊎ ((u.task ≡ o.strand.task) × A) → u.task < length rows
      below u (inl lt) = let there = end.there in omega (arith, lt, there)
      below u (inr at) = let there = end.there in let e = at.0 in omega (arith, e, there)
  whole_found whole (Some g) first None none =
      from_graph g.strand g.cause first first.there (λ u lt h. end_none (length rows) none u (let there = first.there in omega (arith, lt, there)) h) (λ u lt h. past_none (length rows) none u (let there = first.there in omega (arith, lt, there)) h)
      (λ u same lt h. end_none (length rows) none u (let there = first.there in omega (arith, same, there)) h)
  whole_found whole (Some g) first (Some o) end = one_of_two g o (is_sooner (of_graph g) o) refl whole first end

  abbrev Answer : Option TaskFault → Type 0
  Answer found = MatchOption found (IsSoundRun rows extent × HasNoneBelow events extent numbers rows (length rows)) (IsFirstOf events extent numbers rows)

  pub first_cut : extent ≡ Cut → (found : Option StrandFault) → MatchOption found (IsSoundRun rows extent) (IsFirstFault rows extent) → (graph' : Option TaskFault) → graph' ≡ option_map of_graph found → Answer graph'
  first_cut cut found is graph' e = subst (λ (o : Option TaskFault). Answer o) (sym e) (cut_found cut found is)

  pub first_whole : extent ≡ Whole → (found : Option StrandFault) → MatchOption found (IsSoundRun rows extent) (IsFirstFault rows extent) → (own : Option TaskFault) → MatchOption own (NoneEndsBelow told numbers rows (length rows)) (IsFirstEndFault told numbers rows)
      → (graph' : Option TaskFault) → graph' ≡ option_map of_graph found → (both : Option TaskFault) → both ≡ sooner_of graph' own → Answer both
  first_whole whole found is own ends graph' e both f = subst (λ (o : Option TaskFault). Answer o) (sym (f ∙ ap (λ (o : Option TaskFault). sooner_of o own) e)) (whole_found whole found is own ends)
